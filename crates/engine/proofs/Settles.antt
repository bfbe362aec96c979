-- What propagation by lists answers is what settling does.
use mathlib.Core.Path.{◌≡◌}
use Prim.Native.Nat.{ℕ}
use Rattle.theory.specs.Formula.{Formula, Within}
use Rattle.theory.specs.State.{State, WellFormed}
use Rattle.theory.specs.Propagation.{dead, rest, settle}
use Rattle.theory.proofs.AtRest.{settled_at, settled_dead}
use Rattle.occurrences.specs.Index.{formula_of}
use Rattle.occurrences.proofs.Formulas.{formula_mem}
use Rattle.tally.specs.Tally.{state_in}
use Rattle.moves.specs.Stepping.{Died}
use Rattle.engine.specs.Ready.{Rested}
use Rattle.occurrences.specs.declared.Index.{Index}
use Rattle.tally.specs.declared.Tally.{Tally}
use Rattle.notes.specs.declared.Notes.{Notes}

pub rested_settles : {n : ℕ} {ix : Index} {st st' : Tally} {wk' : Notes} → Within n (formula_of ix) → WellFormed n (state_in st) → Rested ix st st' wk' →
    settle n (formula_of ix) (state_in st) ≡ rest (state_in st')
rested_settles {ix = ix} within well r = settled_at within well r.steps.1 (λ c m. let g = formula_mem ix m in rw g.2 (r.counted g.0 g.1)) r.pairs

pub died_settles : {n : ℕ} {f : Formula} {s : State} → Within n f → WellFormed n s → Died f s → settle n f s ≡ dead
died_settles within well d = settled_dead within well d.steps d.dies
