-- What an allowance of b splits makes of a run: demand 3 for any run, and what a walk with an allowance makes of a split from its sides.
use mathlib.Core.Path.{◌≡◌, refl, ap, sym, ◌∙◌}
use mathlib.Core.Logic.{◌↔◌}
use mathlib.Core.List.{List, [], ◌∷◌, append-nil}
use Prim.Native.Nat.{ℕ, suc, ◌+◌, ◌-◌, ◌≤◌, ◌<◌, min}
use native.Mathlib.Nat.{add-zero}
use native.Mathlib.Omega.{arith}
use native.Mathlib.Decide.{dec_le, dec_lt}
use borrow.Author.Tests.{le-leb, lt-leb}
use lib.ListN.{length}
use Rattle.literal.specs.declared.Literal.{Literal}
use Rattle.literal.specs.declared.Literal.TheVariants.{Pos, Neg}
use Rattle.receipt.specs.declared.Outcome.TheVariants.{LaidOut, NoLayout, Stopped}
use Rattle.theory.specs.Tree.{branch, Found, Run, run, through, tried, visit, Limited, result, finished, finish, stop, limited}

finished_not_stopped : {A : Type 0} (l : List (Found A)) → ¬ (finished l ≡ Stopped)
finished_not_stopped [] e = let z : ◌≡◌ {A = ℕ} 0 1 = cc in omega arith
finished_not_stopped (a ∷ l) e = let z : ◌≡◌ {A = ℕ} 0 1 = cc in omega arith

finished_empty : {A : Type 0} (l : List (Found A)) → ¬ (finished l ≡ LaidOut) → l ≡ []
finished_empty [] h = refl
finished_empty (a ∷ l) h = absurd (h refl)

module _ {A : Type 0} (b : ℕ) (r : Run A) where
  pub limited_enough : r.splits ≤ b → limited b r ≡ finish r
  unfolding limited
  limited_enough p = rw (le-leb r.splits b p)

  pub limited_short : b < r.splits → limited b r ≡ stop b
  unfolding limited
  limited_short p = rw (lt-leb r.splits b p)

  -- "stops exactly when the tree of document 01 needs more splits than allowed"
  pub stopped_iff : ((limited b r).outcome ≡ Stopped) ↔ (b < r.splits)
  stopped_iff = (there, λ p. ap (λ t. t.outcome) (limited_short p))
    where
      there : (limited b r).outcome ≡ Stopped → b < r.splits
      there e = elim (dec_lt b r.splits) [
        | yes p ↦ p
        | no p ↦ absurd (finished_not_stopped r.found (sym (ap (λ t. t.outcome) (limited_enough (omega arith))) ∙ e))
      ]

  -- "its count is the smaller of what that tree needs and the allowance"
  pub count_min : (limited b r).count ≡ min r.splits b
  count_min = elim (dec_le r.splits b) [
    | yes p ↦ let e = ap (λ t. t.count) (limited_enough p) in omega arith
    | no p ↦ let e = ap (λ t. t.count) (limited_short (omega arith)) in omega arith
  ]

  pub limited_finished : ¬ ((limited b r).outcome ≡ Stopped) → limited b r ≡ finish r
  limited_finished h = elim (dec_le r.splits b) [ yes p ↦ limited_enough p | no p ↦ absurd (h (stopped_iff.1 (omega arith))) ]

  -- nothing is found where it is not laid out
  pub limited_empty : ¬ ((limited b r).outcome ≡ LaidOut) → (limited b r).found ≡ []
  limited_empty h = elim (dec_le r.splits b) [
    | yes p ↦ rw (limited_enough p) (finished_empty r.found (λ e. h (ap (λ t. t.outcome) (limited_enough p) ∙ e)))
    | no p ↦ ap (λ t. t.found) (limited_short (omega arith))
  ]

  -- no layout is reported only where nothing is found
  pub limited_nothing : (limited b r).outcome ≡ NoLayout → (r.found ≡ []) × (limited b r ≡ result NoLayout r.splits [])
  limited_nothing e =
      let f = limited_finished (λ s. let z : ◌≡◌ {A = ℕ} 0 1 = cc in omega arith) in
      let g = finished_empty r.found (λ s. let z : ◌≡◌ {A = ℕ} 0 1 = cc (ap (λ t. t.outcome) f) in omega arith) in
      (g, f ∙ rw g)

  -- what holds of nothing and of what the run finds
  pub limited_found : (P : List (Found A) → Type 0) → P [] → P r.found → P (limited b r).found
  limited_found P none all = elim (dec_le r.splits b) [ yes p ↦ rw (limited_enough p) all | no p ↦ rw (limited_short (omega arith)) none ]

-- "A search that finishes does so at every larger allowance too, and all finished searches of one filing are alike"
pub larger_budget : {A : Type 0} (b b' : ℕ) (r : Run A) → b ≤ b' → ¬ ((limited b r).outcome ≡ Stopped) → limited b' r ≡ limited b r
larger_budget b b' r q h = elim (dec_le r.splits b) [
  | yes p ↦ limited_enough b' r (omega arith) ∙ sym (limited_enough b r p)
  | no p ↦ absurd (h ((stopped_iff b r).1 (omega arith)))
]

-- A split under an allowance: the first side may use what is left after it, the second side what the first side leaves.

-- a side as the split makes it: k splits more, and each path leads through that side
abbrev pub past : {A : Type 0} → ℕ → Literal → Limited A → Limited A
past k x v = result v.outcome (k + v.count) (through x v.found)

finished_through : {A : Type 0} (x : Literal) (l : List (Found A)) → finished l ≡ finished (through x l)
finished_through x [] = refl
finished_through x (a ∷ l) = refl

limited_past : {A : Type 0} (k : ℕ) (x : Literal) (b : ℕ) (r : Run A) → limited (k + b) (run (through x r.found) (k + r.splits)) ≡ past k x (limited b r)
limited_past k x b r = elim (dec_le r.splits b) [
  | yes h ↦ rw (limited_enough b r h, finished_through x r.found) (limited_enough (k + b) (run (through x r.found) (k + r.splits)) (omega arith))
  | no h ↦ rw (limited_short b r (omega arith)) (limited_short (k + b) (run (through x r.found) (k + r.splits)) (omega arith))
]

module _ {S A : Type 0} (walk : ℕ → S → Run A) (p : ℕ) (l r : S) where
  abbrev first : Run A
  first = walk 1 l

  abbrev whole : Run A
  whole = visit walk 1 (branch p l r)

  pub split_none : limited 0 whole ≡ stop 0
  split_none = limited_short 0 whole (omega arith)

  module _ (b : ℕ) where
    -- the first side is stopped or has a layout, and the second side is not tried
    pub split_first : ¬ ((limited b first).outcome ≡ NoLayout) → limited (1 + b) whole ≡ past 1 (Neg p) (limited b first)
    split_first other = elim (dec_le first.splits b) [
      | yes h ↦
          let e = untried first.found (λ e. other (ap (λ t. t.outcome) (limited_enough b first h) ∙ ap finished e)) in
          rw (e, append-nil (through (Neg p) first.found), add-zero (1 + first.splits)) (limited_past 1 (Neg p) b first)
      | no h ↦ rw (limited_short b first (omega arith)) (limited_short (1 + b) whole (omega arith))
    ]
      where
        untried : (x : List (Found A)) → ¬ (x ≡ []) → tried walk (1 - length x) r ≡ run [] 0
        untried [] h = absurd (h refl)
        untried (a ∷ x) h = let e : 1 - suc (length x) ≡ 0 = omega arith in rw e

    -- the first side has no layout
    pub split_second : (limited b first).outcome ≡ NoLayout →
        limited (1 + b) whole ≡ past (1 + (limited b first).count) (Pos p) (limited (b - (limited b first).count) (walk 1 r))
    split_second e =
        let f = limited_nothing b first e in
        let c : (limited b first).count ≡ first.splits = ap (λ t. t.count) f.1 in
        let all : 1 + b ≡ 1 + first.splits + (b - first.splits) = omega (arith, count_min b first) in
        rw (c, f.0, all) (limited_past (1 + first.splits) (Pos p) (b - first.splits) (walk 1 r))
