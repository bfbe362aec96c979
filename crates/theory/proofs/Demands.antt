-- Demands 2 and 3 of the user, as theorems about the search of an accepted table.
use mathlib.Core.Path.{◌≡◌, refl, ap, sym, ◌∙◌}
use mathlib.Core.Logic.{◌↔◌}
use Rattle.std.specs.Prelude.{Option, None, Some}
use mathlib.Core.List.{List, [], ◌∷◌}
use Prim.Native.Nat.{ℕ, suc, ◌<◌, ◌≤◌, min}
use native.Mathlib.Omega.{arith}
use lib.IntN.{ℤ}
use Rattle.theory.specs.Bound.{N}
use Rattle.theory.specs.Formula.{Formula, Choice, clauses, Solution, Within}
use Rattle.theory.specs.Order.{Least, IsFirst, ◌≼◌}
use Rattle.receipt.specs.declared.Outcome.TheVariants.{LaidOut, NoLayout, Stopped}
use Rattle.theory.specs.Search.{decide, tree_of, needs, search}
use Rattle.theory.specs.State.{initial, opens, WellFormed}
use Rattle.theory.specs.Table.{Accepted}
use Rattle.theory.specs.Tree.{Found, finished, finish}
use Rattle.theory.proofs.Agreement.{Extends}
use Rattle.theory.proofs.Budget.{stopped_iff, count_min, larger_budget, limited_finished}
use Rattle.theory.proofs.Propagation.{initial_well}
use Rattle.theory.proofs.Picking.{branch_picking, picking_means}
use Rattle.theory.proofs.Splits.{tree_bound}
use Rattle.theory.proofs.States.{opens_bound}
use Rattle.theory.proofs.Tables.{accepted_within}
use Rattle.theory.proofs.Tree.{choice_found, tree_first}

-- the tree -----------------------------------------------------------------------------------------------------------

module _ {n : ℕ} {f : Formula} (within : Within n f) where
  -- the tree finds the first solution of the formula, or there is none
  pub tree_first_solution : IsFirst (Solution n f) (choice_found (tree_of n f).found)
  unfolding tree_of
  tree_first_solution = go (choice_found (tree_of n f).found)
      (tree_first (WellFormed n) (λ u. opens u n) (Extends n f) ◌≼◌ (decide n f) (picking_means within (branch_picking within)) (suc n) 0 initial (initial_well n) (omega (arith, opens_bound initial n)))
    where
      agrees : (c : Choice) → Solution n f c → Extends n f initial c
      agrees c h = record { solves = h; agrees = record { at = λ p. refl } }

      go : (o : Option Choice) → IsFirst (Extends n f initial) o → IsFirst (Solution n f) o
      go None h = λ c k. h c (agrees c k)
      go (Some c) h = record { member = h.member.solves; least = λ d k. h.least d (agrees d k) }

-- demands 2 and 3, of the search of an accepted table with an allowance of b ----------------------------------------

module _ (n : ℕ) (t : List ℤ) (accepted : Accepted n t) where
  abbrev found : List (Found Choice)
  found = (tree_of n (clauses t)).found

  solved : IsFirst (Solution n (clauses t)) (choice_found found)
  solved = tree_first_solution (accepted_within n t accepted)

  pub search_finished : (b : ℕ) → ¬ ((search n t b).outcome ≡ Stopped) → search n t b ≡ finish (tree_of n (clauses t))
  unfolding search
  search_finished b = limited_finished b (tree_of n (clauses t))

  -- demand 2: "it is the first such choice"
  pub laid_out_is_first : (b : ℕ) → (search n t b).outcome ≡ LaidOut →
      (a : Found Choice) × (l : List (Found Choice)) × ((search n t b).found ≡ a ∷ l) × Least ◌≼◌ (Solution n (clauses t)) a.choice
  laid_out_is_first b e =
      let f = search_finished b (λ q. let z : ◌≡◌ {A = ℕ} 0 1 = cc in omega arith) in
      rw (ap (λ r. r.found) f) (go found solved (sym (ap (λ r. r.outcome) f) ∙ e))
    where
      go : (x : List (Found Choice)) → IsFirst (Solution n (clauses t)) (choice_found x) → finished x ≡ LaidOut →
          (a : Found Choice) × (l : List (Found Choice)) × (x ≡ a ∷ l) × Least ◌≼◌ (Solution n (clauses t)) a.choice
      go [] h q = absurd (let z : ◌≡◌ {A = ℕ} 0 1 = cc in omega arith)
      go (a ∷ l) h q = (a, l, refl, h)

  -- demand 2: "When no choice does so it reports no layout, and at no other time"
  pub no_layout_iff : (b : ℕ) → ¬ ((search n t b).outcome ≡ Stopped) → ((search n t b).outcome ≡ NoLayout) ↔ ((c : Choice) → ¬ Solution n (clauses t) c)
  no_layout_iff b h = rw (ap (λ r. r.outcome) (search_finished b h)) (go found solved)
    where
      go : (x : List (Found Choice)) → IsFirst (Solution n (clauses t)) (choice_found x) → (finished x ≡ NoLayout) ↔ ((c : Choice) → ¬ Solution n (clauses t) c)
      go [] f = (λ e. f, λ k. refl)
      go (a ∷ l) f = (λ e. absurd (let z : ◌≡◌ {A = ℕ} 0 1 = cc in omega arith), λ k. absurd (k a.choice f.member))

  -- demand 3: "stops exactly when the tree of document 01 needs more splits than allowed"
  pub stops_iff : (b : ℕ) → ((search n t b).outcome ≡ Stopped) ↔ (b < needs n t)
  unfolding search
  stops_iff b = stopped_iff b (tree_of n (clauses t))

  -- demand 3: "its count is the smaller of what that tree needs and the allowance"
  pub count_smaller : (b : ℕ) → (search n t b).count ≡ min (needs n t) b
  unfolding search
  count_smaller b = count_min b (tree_of n (clauses t))

  -- demand 3: "A search that finishes does so at every larger allowance too, and all finished searches of one filing are alike"
  pub larger_allowance : (b b' : ℕ) → b ≤ b' → ¬ ((search n t b).outcome ≡ Stopped) → search n t b' ≡ search n t b
  unfolding search
  larger_allowance b b' = larger_budget b b' (tree_of n (clauses t))

  -- demand 3: "the tree never needs more than the bound N(n)"
  pub needs_bound : needs n t ≤ N n
  needs_bound = tree_bound (accepted_within n t accepted)

  -- "An allowance of N(n) .. always finishes"
  pub bound_finishes : (b : ℕ) → N n ≤ b → ¬ ((search n t b).outcome ≡ Stopped)
  bound_finishes b h e = omega (arith, (stops_iff b).0 e, needs_bound)
