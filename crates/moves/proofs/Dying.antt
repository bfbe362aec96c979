-- Dead ends: of the index as of the formula, and after steps.
use mathlib.Core.Logic.{inl, ⊎_elim}
use Prim.Native.Nat.{ℕ}
use native.Mathlib.Omega.{arith}
use Rattle.theory.specs.Formula.{Formula}
use Rattle.theory.specs.State.{State, standing}
use Rattle.theory.proofs.Asks.{Dies, standing_no_false}
use Rattle.theory.proofs.Propagation.{Steps}
use Rattle.theory.proofs.ByCount.{dead_counted}
use Rattle.theory.proofs.Falls.{Falls, falls_steps, steps_trans}
use Rattle.occurrences.specs.Index.{clause_of, formula_of}
use Rattle.occurrences.proofs.Formulas.{mem_formula}
use Rattle.tally.proofs.Standing.{opens_standing, trues_standing}
use Rattle.moves.specs.Deciding.{DeadIn}
use Rattle.moves.specs.Stepping.{Died}
use Rattle.occurrences.specs.declared.Index.{Index}

pub dies_in : {ix : Index} {s : State} → DeadIn ix s → Dies (formula_of ix) s
dies_in {ix} {s} d = record {
  clause = clause_of ix d.clause;
  member = mem_formula ix d.clause d.inside;
  dead_end = ⊎_elim
      (λ h. inl (omega (arith, trues_standing s (clause_of ix d.clause))))
      (λ h. dead_counted (standing s (clause_of ix d.clause)) (standing_no_false s (clause_of ix d.clause))
      (omega (arith, trues_standing s (clause_of ix d.clause))) (omega (arith, opens_standing s (clause_of ix d.clause))))
      d.dead;
}

pub died_after : {f : Formula} {s u : State} {k : ℕ} → Steps f s u k → Died f u → Died f s
died_after r d = record { state = d.state; count = _; steps = steps_trans r d.steps; dies = d.dies }

pub died_fallen : {f : Formula} {s u : State} → Falls f s u → Died f u → Died f s
died_fallen r = died_after (falls_steps r).1

pub fallen_dies : {f : Formula} {s u : State} → Falls f s u → Dies f u → Died f s
fallen_dies {u = u} r d = record { state = u; count = _; steps = (falls_steps r).1; dies = d }
