-- What stands in a clause after one step x := t, by what stood in it before.
use mathlib.Core.Path.{◌≡◌, refl, ap, sym, ◌∙◌, fun_ext}
use mathlib.Core.Logic.{◌≢◌, ⊎_elim}
use mathlib.Core.List.{Memᴰ}
use Prim.Native.Nat.{◌<◌}
use native.Mathlib.Omega.{arith}
use Rattle.literal.specs.declared.Literal.{Literal}
use Rattle.literal.specs.Literal.{FALSE, var, opposite}
use Rattle.theory.specs.Formula.{Clause}
use Rattle.theory.specs.State.{State, value, replace, assign, standing}
use Rattle.theory.proofs.Literals.{opposite_opposite, var_opposite, of_variable_lem}
use Rattle.theory.proofs.States.{replace_same, replace_opposite_same, replace_other, replace_ind, replace_opposite, value_assign}
use Rattle.theory.proofs.Clauses.{standing_mem, mem_standing, standing_same}

-- to make x become t is to make its opposite the opposite of t
pub assign_turned : (s : State) (x t : Literal) → assign (opposite x) (opposite t) s ≡ assign x t s
assign_turned s x t = fun_ext (λ p. replace_ind (λ l m. replace (opposite x) (opposite t) l ≡ m) x t
    (sym (ap (replace (opposite x) (opposite t)) (opposite_opposite x)) ∙ replace_opposite_same (opposite x) (opposite t) ∙ opposite_opposite t)
    (replace_same (opposite x) (opposite t))
    (λ l h. replace_other (opposite x) (opposite t) l (λ e. h (e ∙ var_opposite x)))
    (s p))

-- literals of one variable become literals of one variable
pub replace_alike : (x t k l : Literal) → var k ≡ var l → var (replace x t k) ≡ var (replace x t l)
replace_alike x t k l e = ⊎_elim
    (λ q. ap (λ (m : Literal). var (replace x t m)) q)
    (λ q. ap (λ (m : Literal). var (replace x t m)) q ∙ ap var (replace_opposite x t l) ∙ var_opposite (replace x t l))
    (of_variable_lem k l e)

pub replace_constant : (x t : Literal) → 0 < var x → (l : Literal) → var l ≡ 0 → replace x t l ≡ l
replace_constant x t o l e = replace_other x t l (λ q. omega arith)

module _ (s : State) (x t : Literal) where
  -- a clause that holds no variable of x's class stands the same
  pub stands_same : (c : Clause) → ((l : Literal) → Memᴰ l c → var (value s l) ≢ var x) → standing (assign x t s) c ≡ standing s c
  stands_same c h = standing_same (assign x t s) s c (λ l m. value_assign s x t l ∙ replace_other x t (value s l) (h l m))

  pub mem_after : (c : Clause) (k : Literal) → Memᴰ k (standing s c) → replace x t k ≢ FALSE → Memᴰ (replace x t k) (standing (assign x t s) c)
  mem_after c k m h =
      let w = standing_mem s c k m in
      let e : value (assign x t s) w.written ≡ replace x t k = value_assign s x t w.written ∙ ap (replace x t) w.valued in
      rw e at (mem_standing (assign x t s) c w.written w.member (λ z. h (sym e ∙ z)))

  module _ (opened : 0 < var x) where
    -- what stands after the step stood before, or stands for what did
    pub after_mem : (c : Clause) (y : Literal) → Memᴰ y (standing (assign x t s) c) → (k : Literal) × Memᴰ k (standing s c) × (replace x t k ≡ y)
    after_mem c y m =
        let w = standing_mem (assign x t s) c y m in
        let e : replace x t (value s w.written) ≡ y = sym (value_assign s x t w.written) ∙ w.valued in
        (value s w.written, mem_standing s c w.written w.member (λ z. w.not-false (sym e ∙ ap (replace x t) z ∙ replace_constant x t opened FALSE refl)), e)

    -- what is not of t's variable stood itself
    pub stood : (c : Clause) (y : Literal) → Memᴰ y (standing (assign x t s) c) → var y ≢ var t → Memᴰ y (standing s c)
    stood c y m h =
        let w = after_mem c y m in
        replace_ind (λ k z. Memᴰ k (standing s c) → z ≡ y → Memᴰ y (standing s c)) x t
        (λ n e. absurd (h (sym (ap var e))))
        (λ n e. absurd (h (sym (ap var e) ∙ var_opposite t)))
        (λ l d n e. rw e at n)
        w.0 w.1 w.2
