-- The walk of a table from the initial state, wherever the steps of the start have led.
use mathlib.Core.Path.{◌≡◌, ap}
use mathlib.Core.Bool.{Bool, true, false}
use mathlib.Core.List.{List}
use Prim.Native.Nat.{ℕ}
use native.Mathlib.Omega.{arith}
use lib.IntN.{ℤ}
use Rattle.theory.specs.Formula.{clauses, Within}
use Rattle.theory.specs.State.{initial}
use Rattle.theory.specs.Tree.{limited}
use Rattle.theory.proofs.AtRest.{settled_same}
use Rattle.engine.proofs.Settles.{died_settles}
use Rattle.theory.proofs.Guard.{guard_start, guard_steps}
use Rattle.theory.proofs.Picking.{branch_picking, at_dead_end, same_tree}
use Rattle.theory.proofs.Propagation.{initial_well, steps_well}
use Rattle.theory.proofs.States.{opens_bound}
use Rattle.theory.proofs.Tables.{accepted_sizes, accepted_within}
use Rattle.occurrences.specs.Index.{formula_of}
use Rattle.tally.specs.Tally.{state_in}
use Rattle.start.specs.Starting.{StartOf}
use Rattle.walk.specs.Walk.{Walkable, Begins, Searchable, walk_from, walk_of, table_walk}
use Rattle.walk.proofs.Walking.{dead_walk}
use Rattle.occurrences.specs.declared.Index.{Index}
use Rattle.tally.specs.declared.Tally.{Tally}
use Rattle.notes.specs.declared.Notes.{Notes}

module _ {n : ℕ} {t : List ℤ} {plan : List ℕ} {trail : List ℤ} (k : Searchable n t plan trail) (ix : Index) (st : Tally) (wk : Notes) (is : formula_of ix ≡ clauses t) (left : ℕ) where
  within : Within n (formula_of ix)
  within = rw is (accepted_within n t k.accepted)

  pub start_walkable : (r : Bool) → StartOf ix st wk r → Walkable ix st wk r (record { variables = n; from = 1; left = left; depth = 0 }) plan trail
  start_walkable r s = record {
    lasting = record { within = within; small = (accepted_sizes n t k.accepted).variables; plan_room = k.plan_room; trail_room = k.trail_room };
    begins = go r s;
  }
    where
      go : (r : Bool) → StartOf ix st wk r → Begins ix st wk (record { variables = n; from = 1; left = left; depth = 0 }) r
      go true s = tt
      go false s = record {
        ready = s.ready;
        well = steps_well within s.steps.1 (initial_well n);
        guard = guard_steps within (initial_well n) s.steps.1 (guard_start (formula_of ix) initial);
        positive = omega arith;
        deep = omega (arith, opens_bound (state_in st) n);
      }

  pub start_walk : (r : Bool) → StartOf ix st wk r → walk_from r (record { variables = n; from = 1; left = left; depth = 0 }) ix st plan trail ≡ table_walk n t left plan trail
  start_walk true s = rw (← is) (dead_walk n 0 left plan trail _ (at_dead_end within (branch_picking within) 1 initial (initial_well n) (died_settles within (initial_well n) s)))
  start_walk false s =
      rw (← is)
      (ap (λ r. walk_of n 0 (limited left r) plan trail)
      (same_tree within (branch_picking within) 1 initial (state_in st) (initial_well n) (steps_well within s.steps.1 (initial_well n)) (settled_same within (initial_well n) s.steps.1)))
