-- Wide clauses in which a variable stands twice, all of them by a variable that is listed: what a step does to the list.
use mathlib.Core.Path.{◌≡◌}
use mathlib.Core.Logic.{◌⊎◌, inl, inr, ◌≢◌, ⊎_elim}
use mathlib.Core.List.{Memᴰ}
use Prim.Native.Nat.{ℕ, ◌<◌, ◌≤◌}
use native.Mathlib.Omega.{arith}
use native.Mathlib.Decide.{ℕ_discrete, dec_le}
use Rattle.literal.specs.declared.Literal.{Literal}
use Rattle.literal.specs.Literal.{var}
use Rattle.theory.specs.Formula.{Clause, Formula}
use Rattle.theory.specs.State.{State, assign, standing}
use Rattle.theory.proofs.Counts.{mentions, Distinct, Wide}
use Rattle.theory.proofs.Recounts.{wide_before, mentions_kept, mentions_gone, mentions_tied}

-- if the clause is wide, a variable that stands in it twice is one that P lists
abbrev pub RepeatsBut : (ℕ → Type 0) → Clause → Type 0
RepeatsBut P d = Wide d → (p : ℕ) → 0 < p → 2 ≤ mentions p d → P p

pub record DistinctBut (P : ℕ → Type 0) (f : Formula) (s : State) : Type 0 where
  pub by : (c : Clause) → Memᴰ c f → RepeatsBut P (standing s c)

-- with none listed a wide clause is distinct
pub repeats_none : {d : Clause} → RepeatsBut (λ p. ⊥) d → Wide d → Distinct d
repeats_none {d} k w p o = elim (dec_le 2 (mentions p d)) [ yes h ↦ absurd (k w p o h) | no h ↦ omega arith ]

-- one clause ---------------------------------------------------------------------------------------------------------

module _ {P : ℕ → Type 0} (s : State) (x t : Literal) (opened : 0 < var x) (c : Clause) (k : RepeatsBut P (standing s c)) where
  -- a tie adds its lower variable
  pub repeats_tied : RepeatsBut (λ p. P p ⊎ (p ≡ var t)) (standing (assign x t s) c)
  repeats_tied w p o h = elim (ℕ_discrete p (var t)) [
    | yes e ↦ inr e
    | no e ↦ elim (ℕ_discrete p (var x)) [
      | yes q ↦ absurd (omega (arith, rw q at h, mentions_gone s x t opened (λ i. omega arith) c))
      | no q ↦ inl (k (wide_before s x t opened c w) p o (omega (arith, mentions_kept s x t opened p o q e c)))
    ]
  ]

  -- a constant adds nothing
  pub repeats_decided : var t ≡ 0 → RepeatsBut P (standing (assign x t s) c)
  repeats_decided z w p o h = ⊎_elim (λ i. i) (λ e. absurd (omega arith)) (repeats_tied w p o h)

-- where none was listed, a tie makes its lower variable stand twice only where both of its variables stood
pub repeats_joined : (s : State) (x t : Literal) → 0 < var x → 0 < var t → var t ≢ var x → (c : Clause) → RepeatsBut (λ p. ⊥) (standing s c) →
    Wide (standing (assign x t s) c) → 2 ≤ mentions (var t) (standing (assign x t s) c) → (mentions (var t) (standing s c) ≡ 1) × (mentions (var x) (standing s c) ≡ 1)
repeats_joined s x t ox ot d c k w h =
    let once = repeats_none k (wide_before s x t ox c w) in
    let a = once (var t) ot in
    let b = once (var x) ox in
    let e = mentions_tied s x t ox ot d c in
    (omega arith, omega arith)

-- the formula --------------------------------------------------------------------------------------------------------

module _ {P : ℕ → Type 0} {f : Formula} {s : State} (k : DistinctBut P f s) where
  pub distinct_weaken : {Q : ℕ → Type 0} → ((p : ℕ) → P p → Q p) → DistinctBut Q f s
  distinct_weaken i = record { by = λ c m w p o h. i p (k.by c m w p o h) }

  pub distinct_decided : (x t : Literal) → 0 < var x → var t ≡ 0 → DistinctBut P f (assign x t s)
  distinct_decided x t o z = record { by = λ c m. repeats_decided s x t o c (k.by c m) z }

  pub distinct_tied : (x t : Literal) → 0 < var x → DistinctBut (λ p. P p ⊎ (p ≡ var t)) f (assign x t s)
  distinct_tied x t o = record { by = λ c m. repeats_tied s x t o c (k.by c m) }

  -- a variable goes when it stands twice in no wide clause
  pub distinct_looked : (r : ℕ) → ((c : Clause) → Memᴰ c f → Wide (standing s c) → mentions r (standing s c) ≤ 1) → DistinctBut (λ p. P p × (p ≢ r)) f s
  distinct_looked r look = record { by = λ c m w p o h. (k.by c m w p o h, λ e. omega (arith, rw e at h, look c m w)) }

-- where none was listed, the clauses in which a tie makes its lower variable stand twice are among those in which its higher one stood
pub distinct_joined : {f : Formula} {s : State} → DistinctBut (λ p. ⊥) f s → (x t : Literal) → 0 < var x → 0 < var t → var t ≢ var x → (c : Clause) → Memᴰ c f →
    Wide (standing (assign x t s) c) → 2 ≤ mentions (var t) (standing (assign x t s) c) → (mentions (var t) (standing s c) ≡ 1) × (mentions (var x) (standing s c) ≡ 1)
distinct_joined {s = s} k x t ox ot d c m = repeats_joined s x t ox ot d c (k.by c m)
