-- What the start of a search ends in.
use Rattle.std.specs.Prelude.{Bool, true, false, List, ℕ}
use Rattle.theory.specs.State.{initial}
use Rattle.theory.proofs.Propagation.{Steps}
use Rattle.occurrences.specs.Index.{formula_of}
use Rattle.tally.specs.Tally.{state_in}
use Rattle.moves.specs.Stepping.{Died}
use Rattle.engine.specs.Ready.{Ready}
use Rattle.occurrences.specs.declared.Index.{Index}
use Rattle.tally.specs.declared.Tally.{Tally}
use Rattle.notes.specs.declared.Notes.{Notes}

-- by steps from the initial state, what propagation starts from
pub record Started (ix : Index) (st : Tally) (wk : Notes) : Type 0 where
  pub steps : (k : ℕ) × Steps (formula_of ix) initial (state_in st) k
  pub ready : Ready ix st wk 0 0

-- after a dead end (true) nothing is known of the state and the lists
abbrev pub StartOf : (ix : Index) (st : Tally) (wk : Notes) → Bool → Type 0
StartOf ix st wk true = Died (formula_of ix) initial
StartOf ix st wk false = Started ix st wk
