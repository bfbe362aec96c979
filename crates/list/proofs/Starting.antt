-- The walk of a table from the initial state, wherever the steps of the start have led.
use mathlib.Core.Path.{◌≡◌, sym}
use mathlib.Core.Bool.{Bool, true, false}
use mathlib.Core.List.{List}
use Prim.Native.Nat.{ℕ, suc, ◌-◌}
use native.Mathlib.Omega.{arith}
use lib.IntN.{ℤ}
use Rattle.theory.specs.Formula.{clauses, Within}
use Rattle.theory.specs.Listing.{list_tree}
use Rattle.theory.specs.State.{initial}
use Rattle.theory.proofs.AtRest.{settled_same}
use Rattle.theory.proofs.Listing.{open_picking}
use Rattle.theory.proofs.Picking.{at_dead_end, same_tree}
use Rattle.theory.proofs.Propagation.{initial_well, steps_well}
use Rattle.theory.proofs.Tables.{accepted_sizes, accepted_within}
use Rattle.engine.proofs.Settles.{died_settles}
use Rattle.occurrences.specs.Index.{formula_of}
use Rattle.tally.specs.Tally.{state_in}
use Rattle.start.specs.Starting.{StartOf}
use Rattle.list.specs.Walk.{Walkable, Begins, Listable, run_from, top}
use Rattle.occurrences.specs.declared.Index.{Index}
use Rattle.tally.specs.declared.Tally.{Tally}
use Rattle.notes.specs.declared.Notes.{Notes}

module _ {n : ℕ} {t : List ℤ} {k : ℕ} {bytes : List ℕ} (b : Listable n t k bytes) (ix : Index) (st : Tally) (wk : Notes) (is : formula_of ix ≡ clauses t) (left : ℕ) where
  within : Within n (formula_of ix)
  within = rw is (accepted_within n t b.accepted)

  pub start_walkable : (r : Bool) → StartOf ix st wk r → Walkable ix st wk r (top n k left) bytes
  start_walkable r s = record {
    lasting = record { within = within; rowable = record { small = (accepted_sizes n t b.accepted).variables; next = omega arith; fits = b.fits; word = b.word } };
    begins = go r s;
  }
    where
      go : (r : Bool) → StartOf ix st wk r → Begins ix st wk (top n k left) r
      go true s = tt
      go false s = record {
        ready = s.ready;
        well = steps_well within s.steps.1 (initial_well n);
        shut = λ p h o. omega (arith, o.positive);
        positive = omega arith;
      }

  pub start_run : (r : Bool) → StartOf ix st wk r → list_tree n t k ≡ run_from r (top n k left) ix st
  unfolding list_tree
  start_run true s = rw (← is) (at_dead_end within (open_picking within) (suc k) initial (initial_well n) (died_settles within (initial_well n) s))
  start_run false s =
      let all : k - 0 ≡ k = omega arith in
      rw (← is, all)
      (sym (same_tree within (open_picking within) (suc k) initial (state_in st) (initial_well n) (steps_well within s.steps.1 (initial_well n)) (settled_same within (initial_well n) s.steps.1)))
