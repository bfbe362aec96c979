-- Clauses that are not live: a true literal stands, or a literal and its opposite and no other variable. No step makes one live.
use mathlib.Core.Path.{◌≡◌, refl, ap, sym, ◌∙◌}
use mathlib.Core.Bool.{Bool, true, false, not, ◌&&◌}
use mathlib.Core.Logic.{◌⊎◌, inl, inr, ◌≢◌, ⊎_elim}
use Rattle.std.specs.Prelude.{Option, None, Some}
use mathlib.Core.List.{Memᴰ}
use Prim.Native.Nat.{◌<◌}
use native.Mathlib.Omega.{arith}
use native.Mathlib.Decide.{ℕ_discrete}
use lib.Dec.{eqb}
use borrow.Author.Tests.{eqb-true, eqb-false, eq-eqb, ne_eqb, not-true, not-false}
use Rattle.general.specs.Booleans.{bool_cases, true_not_false, and_true}
use Rattle.general.specs.Search.{Finds, find_finds}
use Rattle.literal.specs.declared.Literal.{Literal}
use Rattle.literal.specs.Literal.{TRUE, FALSE, var, opposite}
use Rattle.theory.specs.Formula.{Clause}
use Rattle.theory.specs.State.{State, replace, assign, standing}
use Rattle.theory.specs.Rules.{occurs, stands, differ, complementary, other, is_none, rests_on, none_true, live}
use Rattle.theory.proofs.Literals.{opposite_opposite, opposite_ne, literal_cases}
use Rattle.theory.proofs.States.{replace_opposite}
use Rattle.theory.proofs.Clauses.{mem_occurs, occurs_mem, mem_stands, stands_mem}
use Rattle.theory.proofs.Stepped.{replace_constant, replace_alike, after_mem, mem_after}

-- a literal and its opposite stand, and no other variable
pub record Lone (d : Clause) : Type 0 where
  pub literal : Literal
  pub here : Memᴰ literal d
  pub across : Memᴰ (opposite literal) d
  pub only : (z : Literal) → Memᴰ z d → var z ≡ var literal

-- a true literal stands, or the clause is at rest
abbrev pub Idle : Clause → Type 0
Idle d = Memᴰ TRUE d ⊎ Lone d

module _ (d : Clause) where
  pub idle_not_live : Idle d → live d ≡ false
  idle_not_live (inl m) = rw (ne_eqb (occurs TRUE d) 0 (λ e. omega (arith, mem_occurs d TRUE m)))
  idle_not_live (inr k) = rw (rests (complementary d) (find_finds (λ y. stands (opposite y) d) d)) (silent (none_true d))
    where
      silent : (b : Bool) → (b && not (b && true)) ≡ false
      silent true = refl
      silent false = refl

      alone : (y : Literal) → Memᴰ y d → (o : Option Literal) → Finds (λ z. differ y z) d o → is_none o ≡ true
      alone y m None h = refl
      alone y m (Some z) h = absurd (eqb-false (var y) (var z) (not-true (eqb (var y) (var z)) h.1) (k.only y m ∙ sym (k.only z h.0)))

      rests : (o : Option Literal) → Finds (λ y. stands (opposite y) d) d o → rests_on d o ≡ true
      rests None h = absurd (true_not_false (mem_stands d (opposite k.literal) k.across) (h k.literal k.here))
      rests (Some y) h = alone y h.0 (other d y) (find_finds (λ z. differ y z) d)

  pub not_live_idle : live d ≡ false → Idle d
  not_live_idle e = elim (ℕ_discrete (occurs TRUE d) 0) [
    | yes z ↦ inr (found (complementary d) (find_finds (λ y. stands (opposite y) d) d) (rw (eq-eqb (occurs TRUE d) 0 z) at e))
    | no z ↦ inl (occurs_mem d TRUE (omega arith))
  ]
    where
      alone : (y : Literal) → Memᴰ y d → Memᴰ (opposite y) d → (o : Option Literal) → Finds (λ z. differ y z) d o → not (is_none o) ≡ false → Lone d
      alone y m k None h q = record { literal = y; here = m; across = k; only = λ z n. sym (eqb-true (var y) (var z) (not-false _ (h z n))) }
      alone y m k (Some z) h q = absurd (true_not_false refl q)

      found : (o : Option Literal) → Finds (λ y. stands (opposite y) d) d o → not (rests_on d o) ≡ false → Lone d
      found None h q = absurd (true_not_false refl q)
      found (Some y) h q = alone y h.0 (stands_mem d (opposite y) h.1) (other d y) (find_finds (λ z. differ y z) d) q

  -- in a live clause none is true
  pub live_none_true : live d ≡ true → occurs TRUE d ≡ 0
  live_none_true e = eqb-true (occurs TRUE d) 0 (and_true (none_true d) _ e).0

module _ (s : State) (x t : Literal) (opened : 0 < var x) (c : Clause) where
  pub idle_kept : Idle (standing s c) → Idle (standing (assign x t s) c)
  idle_kept (inl m) = let e = replace_constant x t opened TRUE refl in inl (rw e at (mem_after s x t c TRUE m (λ z. opposite_ne FALSE (sym e ∙ z))))
  idle_kept (inr k) = ⊎_elim
      (λ (e : replace x t y ≡ FALSE).
      let q : replace x t (opposite y) ≡ TRUE = turned ∙ ap opposite e in
      inl (rw q at (mem_after s x t c (opposite y) k.across (λ z. opposite_ne FALSE (sym q ∙ z)))))
      (λ (h : replace x t y ≢ FALSE). ⊎_elim
      (λ (e : replace x t y ≡ TRUE). inl (rw e at (mem_after s x t c y k.here h)))
      (λ (i : replace x t y ≢ TRUE). inr (record {
        literal = replace x t y;
        here = mem_after s x t c y k.here h;
        across = rw turned at (mem_after s x t c (opposite y) k.across (λ z. i (sym (opposite_opposite _) ∙ ap opposite (sym turned ∙ z))));
        only = λ z m. let w = after_mem s x t opened c z m in sym (ap var w.2) ∙ replace_alike x t w.0 y (k.only w.0 w.1);
      }))
      (literal_cases (replace x t y) TRUE))
      (literal_cases (replace x t y) FALSE)
    where
      y : Literal
      y = k.literal

      turned : replace x t (opposite y) ≡ opposite (replace x t y)
      turned = replace_opposite x t y

  -- what is live now was live before
  pub live_before : live (standing (assign x t s) c) ≡ true → live (standing s c) ≡ true
  live_before e = ⊎_elim (λ q. q) (λ q. absurd (true_not_false e (idle_not_live _ (idle_kept (not_live_idle _ q))))) (bool_cases (live (standing s c)))
