-- The whole call: the first n of both lists are cleared, and the walk from the initial state at depth 0 writes over them what document 01 asks.
use Rattle.receipt.specs.Answers.{searching}
use mathlib.Core.Path.{◌≡◌, refl, ap, sym, ◌∙◌}
use mathlib.Core.List.{List, [], ◌∷◌, map, append_assoc}
use Prim.Native.Nat.{ℕ, ◌+◌, ◌-◌, ◌<◌}
use native.Mathlib.Omega.{arith}
use borrow.Author.Tests.{lt-ltb}
use lib.IntN.{ℤ, pos as posℤ}
use lib.ListN.{length, drop, replicate, length-replicate}
use lib.Seq.{drop_at, drop-append-le}
use Rattle.general.specs.Lists.{drop_replicate}
use Rattle.literal.specs.Literal.{entry_of}
use Rattle.receipt.specs.declared.Fault.TheVariants.{PlanShort, TrailShort}
use Rattle.receipt.specs.Receipt.{refusal, pass}
use Rattle.theory.specs.Formula.{Choice, clauses}
use Rattle.theory.specs.State.{State, initial}
use Rattle.theory.specs.Tree.{Found, limited}
use Rattle.theory.specs.Search.{tree_from, tree_of, search, plan_of, trail_of}
use Rattle.theory.specs.Calls.{over, search_refused, search_call}
use Rattle.theory.specs.Refusing.{at_most}
use Rattle.theory.specs.Table.{Accepted}
use Rattle.theory.proofs.Paths.{PathWithin, found_path}
use Rattle.walk.specs.declared.Walk.{Walk}
use Rattle.search.specs.Call.{called}
use Rattle.walk.specs.Walk.{Walked, walked, plan_after, trail_after, walk_of}

-- lists that were cleared ------------------------------------------------------------------------------------------

plan_cleared : (n : ℕ) (l : List (Found Choice)) (plan : List ℕ) → plan_after n l (over n (replicate n 0) plan) ≡ over n (plan_of n l) plan
plan_cleared n [] plan = refl
plan_cleared n (a ∷ l) plan = rw (drop_at (replicate n 0) (drop n plan) n (length-replicate n 0))

trail_cleared : (n : ℕ) (l : List (Found Choice)) → PathWithin n l → (trail : List ℤ) → trail_after 0 l (over n (replicate n (posℤ 0)) trail) ≡ over n (trail_of n l) trail
trail_cleared n [] h trail = refl
trail_cleared n (a ∷ l) h trail =
    let k : ℕ = length a.path in
    let z : 0 + k ≡ k = omega arith in
    rw (z, drop-append-le k (replicate n (posℤ 0)) (drop n trail) (omega (arith, length-replicate n (posℤ 0))), drop_replicate (posℤ 0) k n)
    (sym (append_assoc (map entry_of a.path) (replicate (n - k) (posℤ 0)) (drop n trail)))

-- 6, of a table within the limits ---------------------------------------------------------------------------------

pub call_plan_short : (n : ℕ) (t : List ℤ) (b : ℕ) (plan : List ℕ) (trail : List ℤ) → Accepted n t → length plan < n → search_refused (refusal PlanShort 0) plan trail ≡ search_call n t b plan trail
unfolding search_call
call_plan_short n t b plan trail accepted h = rw (accepted, lt-ltb (length plan) n h)

-- the call, where all three checks pass: the walk from the initial state over cleared lists --------------------------

pub call_walked : (n : ℕ) (t : List ℤ) (b : ℕ) (plan : List ℕ) (trail : List ℤ) →
    Accepted n t → at_most n (length plan) PlanShort ≡ pass → at_most n (length trail) TrailShort ≡ pass →
    (s : State) → s ≡ initial → (p : List ℕ) → p ≡ over n (replicate n 0) plan → (q : List ℤ) → q ≡ over n (replicate n (posℤ 0)) trail →
    (w : Walk) (p' : List ℕ) (q' : List ℤ) → walked w p' q' ≡ walk_of n 0 (limited b (tree_from n (clauses t) s)) p q →
    called (searching w.outcome w.count) p' q' ≡ search_call n t b plan trail
unfolding search_call search tree_of
call_walked n t b plan trail accepted room room' s es p ep q eq w p' q' e =
    let r = search n t b in
    let is : walked w p' q' ≡ walk_of n 0 r (over n (replicate n 0) plan) (over n (replicate n (posℤ 0)) trail) = rw (es, ep, eq) at e in
    rw (
      accepted,
      room,
      room',
      ap (λ (u : Walked). u.walk) is,
      ap (λ (u : Walked). u.plan) is ∙ plan_cleared n r.found plan,
      ap (λ (u : Walked). u.trail) is ∙ trail_cleared n r.found (found_path n t accepted b) trail,
    )
    refl
