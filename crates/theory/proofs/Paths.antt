-- The path to what the tree finds is no longer than there are open variables, so the first n elements of a trail hold it, and those of a plan the choice.
use mathlib.Core.Path.{◌≡◌, ◌∙◌}
use mathlib.Core.List.{List, [], ◌∷◌, ◌++◌, map}
use Prim.Native.Nat.{ℕ, zero, suc, ◌-◌, ◌<◌, ◌≤◌}
use native.Mathlib.Omega.{arith}
use lib.IntN.{ℤ, pos as posℤ}
use lib.ListN.{length, replicate, length-replicate, length-append, length-map}
use Rattle.general.specs.Booleans.{bit}
use Rattle.literal.specs.declared.Literal.TheVariants.{Pos, Neg}
use Rattle.literal.specs.Literal.{entry_of}
use Rattle.theory.specs.Formula.{Formula, Choice, clauses, Solution, Within}
use Rattle.theory.specs.Order.{IsFirst, ◌≼◌}
use Rattle.theory.specs.Search.{decide, tree_of, search, plan_of, trail_of}
use Rattle.theory.specs.State.{initial, opens, WellFormed}
use Rattle.theory.specs.Table.{Accepted}
use Rattle.theory.specs.Tree.{Decision, dead, done, branch, Found, Run, through, tried, visit, tree}
use Rattle.theory.proofs.Agreement.{Extends}
use Rattle.theory.proofs.Budget.{limited_found}
use Rattle.theory.proofs.Demands.{tree_first_solution}
use Rattle.theory.proofs.Picking.{branch_picking, picking_means}
use Rattle.theory.proofs.Propagation.{initial_well}
use Rattle.theory.proofs.States.{opens_bound}
use Rattle.theory.proofs.Tables.{accepted_within}
use Rattle.theory.proofs.Tree.{Means, choice_found}

module _ {A : Type 0} where
  -- nothing, or first something at the end of a path of at most m sides
  abbrev pub PathWithin : ℕ → List (Found A) → Type 0
  PathWithin m [] = Unit {0}
  PathWithin m (a ∷ l) = length a.path ≤ m

  sides_path : (p i j m : ℕ) → i < m → j < m → (x y : List (Found A)) → PathWithin i x → PathWithin j y → PathWithin m (through (Neg p) x ++ through (Pos p) y)
  sides_path p i j m h k [] [] f g = tt
  sides_path p i j m h k [] (b ∷ y) f g = omega arith
  sides_path p i j m h k (a ∷ x) y f g = omega arith

  tried_path : {S : Type 0} (walk : ℕ → S → Run A) (s : S) (m : ℕ) → ((k : ℕ) → PathWithin m (walk k s).found) → (k : ℕ) → PathWithin m (tried walk k s).found
  tried_path walk s m h zero = tt
  tried_path walk s m h (suc k) = h (suc k)

module _ {S A : Type 0} (Good : S → Type 0) (left : S → ℕ) (Sol : S → A → Type 0) (Le : A → A → Type 0) (decide : S → Decision S A)
    (ok : (s : S) → Good s → Means Good left Sol Le s (decide s)) where
  pub tree_path : (f k : ℕ) (s : S) → Good s → PathWithin (left s) (tree decide f k s).found
  unfolding tree
  tree_path zero k s g = tt
  tree_path (suc f) k s g = go (tree_path f) (decide s) (ok s g)
    where
      go : ((j : ℕ) (u : S) → Good u → PathWithin (left u) (tree decide f j u).found) → (d : Decision S A) → Means Good left Sol Le s d →
          PathWithin (left s) (visit (tree decide f) k d).found
      go ih dead w = tt
      go ih (done a) w = omega arith
      go ih (branch p l r) w =
          sides_path p (left l) (left r) (left s) w.less_left w.less_right (tree decide f k l).found (tried (tree decide f) (k - length (tree decide f k l).found) r).found
          (ih k l w.good_left) (tried_path (tree decide f) r (left r) (λ j. ih j r w.good_right) (k - length (tree decide f k l).found))

path_fits : {n : ℕ} {f : Formula} → Within n f → PathWithin n (tree_of n f).found
unfolding tree_of
path_fits {n} {f} within = go (tree_of n f).found
    (tree_path (WellFormed n) (λ u. opens u n) (Extends n f) ◌≼◌ (decide n f) (picking_means within (branch_picking within)) (suc n) 1 initial (initial_well n))
  where
    go : (l : List (Found Choice)) → PathWithin (opens initial n) l → PathWithin n l
    go [] h = tt
    go (a ∷ l) h = omega (arith, opens_bound initial n)

-- what a search finds fills the first n of both lists
module _ (n : ℕ) (t : List ℤ) (accepted : Accepted n t) (b : ℕ) where
  pub found_path : PathWithin n (search n t b).found
  unfolding search
  found_path = limited_found b (tree_of n (clauses t)) (PathWithin n) tt (path_fits (accepted_within n t accepted))

  pub trail_long : length (trail_of n (search n t b).found) ≡ n
  trail_long = go (search n t b).found found_path
    where
      go : (l : List (Found Choice)) → PathWithin n l → length (trail_of n l) ≡ n
      go [] h = length-replicate n (posℤ 0)
      go (a ∷ l) h =
          let k : ℕ = n - length a.path in
          omega (arith, length-append (map entry_of a.path) (replicate k (posℤ 0)), length-map a.path entry_of, length-replicate k (posℤ 0))

  pub plan_long : length (plan_of n (search n t b).found) ≡ n
  unfolding search
  plan_long = limited_found b (tree_of n (clauses t)) (λ l. length (plan_of n l) ≡ n) (length-replicate n 0)
      (go (tree_of n (clauses t)).found (tree_first_solution (accepted_within n t accepted)))
    where
      go : (l : List (Found Choice)) → IsFirst (Solution n (clauses t)) (choice_found l) → length (plan_of n l) ≡ n
      go [] h = length-replicate n 0
      go (a ∷ l) h = length-map a.choice bit ∙ h.member.long
