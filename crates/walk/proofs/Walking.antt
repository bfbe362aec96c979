-- Each return of the walk against the definition: what the tree under an allowance makes of a state, and of a split from what its sides make.
use mathlib.Core.Path.{◌≡◌, refl, ap, sym, ◌∙◌}
use mathlib.Core.List.{List, [], ◌∷◌, ◌++◌, map}
use Rattle.std.specs.Prelude.{Some}
use Prim.Native.Nat.{ℕ, suc, ◌+◌, ◌-◌, ◌<◌, ◌≤◌}
use native.Mathlib.Decide.{dec_le}
use native.Mathlib.Numerals.{add-one}
use native.Mathlib.Omega.{arith}
use lib.IntN.{ℤ}
use lib.ListN.{length, drop, take-append-drop}
use Rattle.general.specs.Booleans.{bit}
use Rattle.general.specs.Lists.{set_after}
use Rattle.literal.specs.declared.Literal.{Literal}
use Rattle.literal.specs.declared.Literal.TheVariants.{Pos, Neg}
use Rattle.literal.specs.Literal.{TRUE, FALSE, entry_of}
use Rattle.receipt.specs.declared.Outcome.TheVariants.{LaidOut, NoLayout}
use Rattle.theory.specs.Formula.{Formula, Choice}
use Rattle.theory.specs.Search.{split_on, decide}
use Rattle.theory.specs.State.{State, assign}
use Rattle.theory.specs.Tree.{Found, Run, run, visit, tree, Limited, finish, stop, limited}
use Rattle.theory.specs.Calls.{over}
use Rattle.theory.proofs.Budget.{limited_enough, limited_short, count_min, limited_nothing, past, split_none, split_first, split_second}
use Rattle.walk.specs.Walk.{Walked, walked, walk_of, counted, noted}

-- the count of a walk is within its allowance
pub walk_count : (n d b : ℕ) (r : Run Choice) (p : List ℕ) (t : List ℤ) (w : Walked) → w ≡ walk_of n d (limited b r) p t → w.walk.count ≤ b
walk_count n d b r p t w e = omega (arith, ap (λ (u : Walked). u.walk.count) e, count_min b r)

-- walks that end without a split
module _ (n d b : ℕ) (p : List ℕ) (t : List ℤ) (r : Run Choice) where
  pub dead_walk : r ≡ run [] 0 → walk_of n d (finish (run [] 0)) p t ≡ walk_of n d (limited b r) p t
  dead_walk e = rw (e, limited_enough {A = Choice} b (run [] 0) (omega arith))

  pub leaf_walk : (c : Choice) → r ≡ run (record { choice = c; path = [] } ∷ []) 0 →
      walked (record { outcome = LaidOut; count = 0 }) (over n (map bit c) p) t ≡ walk_of n d (limited b r) p t
  leaf_walk c e =
      let none_more : d + 0 ≡ d = omega arith in
      rw (e, limited_enough b (run (record { choice = c; path = [] } ∷ []) 0) (omega arith), none_more, take-append-drop d t)

-- a split from its sides -------------------------------------------------------------------------------------------

-- a walk of one side as a walk of the split
abbrev pub side_of : ℕ → ℕ → Literal → Walked → Walked
side_of k d x w = walked (counted k w.walk) w.plan (noted w.walk.outcome d x w.trail)

module _ (n d k : ℕ) (x : Literal) (p : List ℕ) (t : List ℤ) (h : d < length t) where
  side_finished : (l : List (Found Choice)) (c : ℕ) → side_of k d x (walk_of n (d + 1) (finish (run l c)) p t) ≡ walk_of n d (past k x (finish (run l c))) p t
  side_finished [] c = refl
  side_finished (a ∷ l) c =
      let tail : d + 1 + length a.path ≡ d + suc (length a.path) = omega arith in
      rw (tail, add-one, set_after d (entry_of x) t (map entry_of a.path ++ drop (d + suc (length a.path)) t) h)

  side_walk : (b : ℕ) (r : Run Choice) → side_of k d x (walk_of n (d + 1) (limited b r) p t) ≡ walk_of n d (past k x (limited b r)) p t
  side_walk b r = elim (dec_le r.splits b) [
    | yes h ↦ rw (limited_enough b r h) (side_finished r.found r.splits)
    | no h ↦ rw (limited_short b r (omega arith))
  ]

-- a split on q of the state v: w is what its left-out side makes, and b its taken side
module _ (n : ℕ) (f : Formula) (v : State) (q d : ℕ) (p : List ℕ) (t : List ℤ) (left : ℕ) where
  abbrev walks : ℕ → State → Run Choice
  walks = tree (decide n f) (suc n)

  abbrev out : State
  out = assign (Pos q) FALSE v

  abbrev taken : State
  taken = assign (Pos q) TRUE v

  abbrev whole : Run Choice
  whole = visit walks 1 (split_on n v (Some q))

  -- "stopped when a split is needed and the allowance is used up"
  pub none_left : left ≡ 0 → walk_of n d (stop 0) p t ≡ walk_of n d (limited left whole) p t
  none_left e = rw (e, split_none walks q out taken)

  module _ (some_left : ¬ (left ≡ 0)) (h : d < length t) (w : Walked) (ew : w ≡ walk_of n (d + 1) (limited (left - 1) (walks 1 out)) p t) where
    whole_is : (x : Limited Choice) → limited (1 + (left - 1)) whole ≡ x → walk_of n d x p t ≡ walk_of n d (limited left whole) p t
    whole_is x e =
        let more : 1 + (left - 1) ≡ left = omega arith in
        ap (λ (r : Limited Choice). walk_of n d r p t) (sym e ∙ ap (λ (b : ℕ). limited b whole) more)

    outcome_is : w.walk.outcome ≡ (limited (left - 1) (walks 1 out)).outcome
    outcome_is = ap (λ (u : Walked). u.walk.outcome) ew

    -- the first side has a layout or is stopped
    pub first_side : ¬ (w.walk.outcome ≡ NoLayout) → side_of 1 d (Neg q) w ≡ walk_of n d (limited left whole) p t
    first_side other =
        ap (side_of 1 d (Neg q)) ew ∙ side_walk n d 1 (Neg q) p t h (left - 1) (walks 1 out) ∙
        whole_is _ (split_first walks q out taken (left - 1) (λ e. other (outcome_is ∙ e)))

    -- the first side has no layout
    pub second_side : w.walk.outcome ≡ NoLayout → (b : Walked) →
        b ≡ walk_of n (d + 1) (limited (left - (1 + w.walk.count)) (walks 1 taken)) w.plan w.trail →
        side_of (1 + w.walk.count) d (Pos q) b ≡ walk_of n d (limited left whole) p t
    second_side none_found b eb =
        let o = sym outcome_is ∙ none_found in
        let e = ew ∙ ap (λ (r : Limited Choice). walk_of n (d + 1) r p t) (limited_nothing (left - 1) (walks 1 out) o).1 in
        let k : (limited (left - 1) (walks 1 out)).count ≡ w.walk.count = sym (ap (λ (u : Walked). u.walk.count) ew) in
        let rest : left - 1 - w.walk.count ≡ left - (1 + w.walk.count) = omega arith in
        ap (side_of (1 + w.walk.count) d (Pos q)) (rw (ap (λ (u : Walked). u.plan) e, ap (λ (u : Walked). u.trail) e) at eb) ∙
        side_walk n d (1 + w.walk.count) (Pos q) p t h (left - (1 + w.walk.count)) (walks 1 taken) ∙
        whole_is _ (rw (k, rest) at (split_second walks q out taken (left - 1) o))
