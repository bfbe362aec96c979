-- States as substitutions: what a state says after a step, and when one state refines another.
use mathlib.Core.Path.{◌≡◌, refl, ap, sym, ◌∙◌, fun_ext}
use mathlib.Core.Bool.{Bool, true, false}
use mathlib.Core.Logic.{◌≢◌, ⊎_elim}
use Prim.Native.Nat.{ℕ, zero, suc, ◌+◌, ◌<◌, ◌≤◌}
use native.Mathlib.Omega.{arith}
use native.Mathlib.Decide.{ℕ_discrete}
use Rattle.general.specs.Booleans.{bit}
use Rattle.literal.specs.declared.Literal.{Literal}
use Rattle.literal.specs.declared.Literal.TheVariants.{Pos, Neg}
use Rattle.literal.specs.Literal.{TRUE, FALSE, var, opposite, same}
use Rattle.theory.specs.State.{State, value, replace, assign, opens, Open, WellFormed}
use Rattle.theory.proofs.Literals.{opposite_opposite, var_opposite, opposite_ne, same_true, same_refl, same_ne, literal_cases, of_variable_lem, relation}

-- replacing ------------------------------------------------------------------------------------------------------

pub replace_same : (x t : Literal) → replace x t x ≡ t
replace_same x t = rw (same_refl x)

pub replace_opposite_same : (x t : Literal) → replace x t (opposite x) ≡ opposite t
replace_opposite_same x t = rw (same_ne (opposite x) x (opposite_ne x), same_refl (opposite x))

pub replace_other : (x t l : Literal) → var l ≢ var x → replace x t l ≡ l
replace_other x t l h = rw (same_ne l x (λ e. h (ap var e)), same_ne l (opposite x) (λ e. h (ap var e ∙ var_opposite x)))

-- what a replacement does, by cases on how l stands to x
pub replace_ind : (P : Literal → Literal → Type 0) (x t : Literal) → P x t → P (opposite x) (opposite t) →
    ((l : Literal) → var l ≢ var x → P l l) → (l : Literal) → P l (replace x t l)
replace_ind P x t a b c l = ⊎_elim
    (λ (e : l ≡ x). rw (e, replace_same x t) a)
    (λ w. ⊎_elim (λ (e : l ≡ opposite x). rw (e, replace_opposite_same x t) b) (λ h. rw (replace_other x t l h) (c l h)) w)
    (relation l x)

pub replace_opposite : (x t l : Literal) → replace x t (opposite l) ≡ opposite (replace x t l)
replace_opposite x t = replace_ind (λ l m. replace x t (opposite l) ≡ opposite m) x t
    (replace_opposite_same x t)
    (rw (opposite_opposite x, replace_same x t) (sym (opposite_opposite t)))
    (λ l h. replace_other x t (opposite l) (λ e. h (sym (var_opposite l) ∙ e)))

-- values ---------------------------------------------------------------------------------------------------------

pub value_opposite : (s : State) (l : Literal) → value s (opposite l) ≡ opposite (value s l)
value_opposite s (Pos p) = refl
value_opposite s (Neg p) = sym (opposite_opposite (s p))

-- the variable of what a literal stands for is its variable's
pub value_variable : (s : State) (l : Literal) → var (value s l) ≡ var (s (var l))
value_variable s (Pos p) = refl
value_variable s (Neg p) = var_opposite (s p)

pub value_assign : (s : State) (x t l : Literal) → value (assign x t s) l ≡ replace x t (value s l)
value_assign s x t (Pos p) = refl
value_assign s x t (Neg p) = sym (replace_opposite x t (s p))

-- a literal that stands for itself
abbrev pub Fixed : State → Literal → Type 0
Fixed s l = value s l ≡ l

pub fixed_opposite : (s : State) (l : Literal) → Fixed s l → Fixed s (opposite l)
fixed_opposite s l e = value_opposite s l ∙ ap opposite e

pub fixed_pos : (s : State) (l : Literal) → Fixed s l → s (var l) ≡ Pos (var l)
fixed_pos s (Pos p) e = e
fixed_pos s (Neg p) e = sym (opposite_opposite (s p)) ∙ ap opposite e

-- the constant is fixed
pub record Based (s : State) : Type 0 where
  pub base : s 0 ≡ TRUE

module _ {n : ℕ} {s : State} (w : WellFormed n s) where
  pub value_fixed : (l : Literal) → Fixed s (value s l)
  value_fixed (Pos p) = w.fixed p
  value_fixed (Neg p) = fixed_opposite s (s p) (w.fixed p)

  pub value_low : (l : Literal) → var (value s l) ≤ var l
  value_low (Pos p) = w.low p
  value_low (Neg p) = rw (var_opposite (s p)) (w.low p)

  pub well_based : Based s
  well_based = ⊎_elim (λ e. record { base = e }) (λ (e : s 0 ≡ FALSE). absurd (no_flip e)) (of_variable_lem (s 0) TRUE (omega (arith, w.low 0)))
    where
      no_flip : s 0 ≡ FALSE → ⊥
      no_flip e = opposite_ne (s 0) (rw e at (w.fixed 0) ∙ sym e)

pub base_true : {s : State} → Based s → value s TRUE ≡ TRUE
base_true b = b.base

pub base_false : {s : State} → Based s → value s FALSE ≡ FALSE
base_false b = ap opposite b.base

-- steps ----------------------------------------------------------------------------------------------------------

-- x may become t: both stand for themselves, and t is of a lower variable
pub record Valid (n : ℕ) (s : State) (x t : Literal) : Type 0 where
  pub fixed_x : Fixed s x
  pub fixed_t : Fixed s t
  pub lower : var t < var x
  pub inside : var x ≤ n

module _ {n : ℕ} {s : State} {x t : Literal} (w : WellFormed n s) (v : Valid n s x t) where
  replaced_fixed : (l : Literal) → Fixed s l → replace x t (value s (replace x t l)) ≡ replace x t l
  replaced_fixed = replace_ind (λ l m. Fixed s l → replace x t (value s m) ≡ m) x t
      (λ f. rw v.fixed_t (replace_other x t t (λ e. omega (arith, v.lower))))
      (λ f. rw (fixed_opposite s t v.fixed_t) (replace_other x t (opposite t) (λ e. omega (arith, v.lower, var_opposite t))))
      (λ l h f. rw f (replace_other x t l h))

  replaced_low : (l : Literal) → var (replace x t l) ≤ var l
  replaced_low = replace_ind (λ l m. var m ≤ var l) x t
      (omega (arith, v.lower))
      (omega (arith, v.lower, var_opposite t, var_opposite x))
      (λ l h. omega arith)

  pub assign_well : WellFormed n (assign x t s)
  assign_well = record {
    low = λ p. omega (arith, replaced_low (s p), w.low p);
    fixed = λ p. value_assign s x t (replace x t (s p)) ∙ replaced_fixed (s p) (w.fixed p);
    beyond = λ p h. rw (w.beyond p h) (replace_other x t (Pos p) (λ e. omega (arith, v.inside)));
  }

-- refinement: u says at least what s says ------------------------------------------------------------------------

pub record Refines (s u : State) : Type 0 where
  pub at : (p : ℕ) → value u (s p) ≡ u p

pub refines_value : {s u : State} → Refines s u → (l : Literal) → value u (value s l) ≡ value u l
refines_value r (Pos p) = r.at p
refines_value {s} {u} r (Neg p) = value_opposite u (s p) ∙ ap opposite (r.at p)

pub refines_refl : {n : ℕ} {s : State} → WellFormed n s → Refines s s
refines_refl w = record { at = w.fixed }

pub refines_trans : {s u v : State} → Refines s u → Refines u v → Refines s v
refines_trans {s} {u} {v} a b = record { at = λ p. sym (refines_value b (s p)) ∙ ap (value v) (a.at p) ∙ b.at p }

pub refines_assign : {n : ℕ} {s : State} (x t : Literal) → WellFormed n s → Refines s (assign x t s)
refines_assign {s = s} x t w = record { at = λ p. value_assign s x t (s p) ∙ ap (replace x t) (w.fixed p) }

-- u refines a state after a step exactly if it refines the state before and takes both sides of the step for the same
module _ {n : ℕ} {s u : State} (x t : Literal) (w : WellFormed n s) (f : Fixed s x) where
  pub assign_refines : Refines s u → value u x ≡ value u t → Refines (assign x t s) u
  assign_refines r e = record { at = λ p. kept (s p) ∙ r.at p }
    where
      kept : (l : Literal) → value u (replace x t l) ≡ value u l
      kept = replace_ind (λ l m. value u m ≡ value u l) x t (sym e)
          (value_opposite u t ∙ ap opposite (sym e) ∙ sym (value_opposite u x)) (λ l h. refl)

-- states that refine each other are equal: each variable stands for the lowest of its class
module _ {n m : ℕ} {s u : State} (w : WellFormed n s) (z : WellFormed m u) (a : Refines s u) (b : Refines u s) where
  refines_var : (p : ℕ) → var (s p) ≡ var (u p)
  refines_var p =
      let h : var (u p) ≤ var (s p) = rw (a.at p) at (value_low z (s p)) in
      let k : var (s p) ≤ var (u p) = rw (b.at p) at (value_low w (u p)) in
      omega arith

  pub refines_antisym : s ≡ u
  refines_antisym = fun_ext (λ p. ⊎_elim (λ e. e) (λ e. absurd (flipped p e)) (of_variable_lem (s p) (u p) (refines_var p)))
    where
      flipped : (p : ℕ) → s p ≡ opposite (u p) → ⊥
      flipped p e = opposite_ne (u p) (sym (ap opposite (z.fixed p)) ∙ sym (value_opposite u (u p)) ∙ ap (value u) (sym e) ∙ a.at p)

-- open variables -------------------------------------------------------------------------------------------------

-- p stands for itself
abbrev pub is_root : State → ℕ → Bool
is_root s p = same (s p) (Pos p)

pub root_fixed : (s : State) (p : ℕ) → is_root s p ≡ true → s p ≡ Pos p
root_fixed s p e = same_true (s p) (Pos p) e

pub fixed_root : (s : State) (p : ℕ) → s p ≡ Pos p → is_root s p ≡ true
fixed_root s p e = rw e (same_refl (Pos p))

-- a root of a refinement was a root before
pub refines_root : {n m : ℕ} {s u : State} → WellFormed n s → WellFormed m u → Refines s u → (p : ℕ) → u p ≡ Pos p → s p ≡ Pos p
refines_root {s = s} {u = u} w z r p e =
    let h : p ≤ var (s p) = rw (r.at p, e) at (value_low z (s p)) in
    ⊎_elim (λ q. q) (λ (q : s p ≡ Neg p). absurd (opposite_ne (u p) (rw q at (r.at p)))) (of_variable_lem (s p) (Pos p) (omega (arith, w.low p)))

pub opens_le : (s u : State) (n : ℕ) → ((p : ℕ) → u p ≡ Pos p → s p ≡ Pos p) → opens u n ≤ opens s n
unfolding opens
opens_le s u zero h = omega arith
opens_le s u (suc n) h = go (is_root u (suc n)) refl (opens_le s u n h)
  where
    go : (b : Bool) → is_root u (suc n) ≡ b → opens u n ≤ opens s n → bit b + opens u n ≤ bit (is_root s (suc n)) + opens s n
    go true e ih = rw (fixed_root s (suc n) (h (suc n) (root_fixed u (suc n) e))) (omega arith)
    go false e ih = omega arith

pub opens_bound : (s : State) (n : ℕ) → opens s n ≤ n
unfolding opens
opens_bound s zero = omega arith
opens_bound s (suc n) = go (is_root s (suc n)) (opens_bound s n)
  where
    go : (b : Bool) → opens s n ≤ n → bit b + opens s n ≤ suc n
    go true h = omega arith
    go false h = omega arith

module _ {n : ℕ} {s : State} {x t : Literal} (w : WellFormed n s) (v : Valid n s x t) where
  -- no other variable is opened or closed
  pub assign_other : (p : ℕ) → p ≢ var x → is_root (assign x t s) p ≡ is_root s p
  assign_other p h = ⊎_elim
      (λ (e : s p ≡ Pos p). rw (e, replace_other x t (Pos p) h))
      (λ (e : s p ≢ Pos p). same_ne _ _ (λ q. e (refines_root w (assign_well w v) (refines_assign x t w) p q)) ∙ sym (same_ne _ _ e))
      (literal_cases (s p) (Pos p))

  pub assign_self : is_root (assign x t s) (var x) ≡ false
  assign_self = same_ne (assign x t s (var x)) (Pos (var x)) (λ e. omega (arith, ap var e, lowered (s (var x)) (fixed_pos s x v.fixed_x)))
    where
      lowered : (l : Literal) → l ≡ Pos (var x) → var (replace x t l) < var x
      lowered l e = replace_ind (λ k m. var k ≡ var x → var m < var x) x t (λ q. v.lower) (λ q. omega (arith, var_opposite t, v.lower))
          (λ k h q. absurd (h q)) l (ap var e)

  opens_above : (m : ℕ) → m < var x → opens (assign x t s) m ≡ opens s m
  unfolding opens
  opens_above zero h = refl
  opens_above (suc m) h = rw (assign_other (suc m) (λ e. omega arith), opens_above m (omega arith))

  -- a step closes exactly one variable
  pub opens_assign : (m : ℕ) → 0 < var x → var x ≤ m → opens (assign x t s) m + 1 ≡ opens s m
  unfolding opens
  opens_assign zero h k = absurd (omega arith)
  opens_assign (suc m) h k = elim (ℕ_discrete (suc m) (var x)) [
    | yes e ↦
        let gone : is_root (assign x t s) (suc m) ≡ false = rw e (assign_self) in
        let was : is_root s (suc m) ≡ true = rw e (fixed_root s (var x) (fixed_pos s x v.fixed_x)) in
        rw (gone, was) (omega (arith, opens_above m (omega arith)))
    | no e ↦ rw (assign_other (suc m) e) (omega (arith, opens_assign m h (omega arith)))
  ]

-- a side of a split, a state with one open variable fewer
pub record Side (n : ℕ) (s u : State) : Type 0 where
  pub well : WellFormed n u
  pub closes : opens u n + 1 ≡ opens s n

module _ {n : ℕ} {s : State} (w : WellFormed n s) where
  constant_fixed : (t : Literal) → var t ≡ 0 → Fixed s t
  constant_fixed (Pos p) z = rw z (base_true (well_based w))
  constant_fixed (Neg p) z = rw z (base_false (well_based w))

  -- an open variable becomes a constant
  pub side_valid : {p : ℕ} → Open n s p → (t : Literal) → var t ≡ 0 → Valid n s (Pos p) t
  side_valid o t z = record { fixed_x = o.root; fixed_t = constant_fixed t z; lower = omega (arith, o.positive); inside = o.inside }

  pub side : {p : ℕ} → Open n s p → (t : Literal) → var t ≡ 0 → Side n s (assign (Pos p) t s)
  side o t z = let v = side_valid o t z in record { well = assign_well w v; closes = opens_assign w v n o.positive o.inside }
