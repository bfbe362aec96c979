-- What a function that decides by rules answers: the steps that it made, or those that led to a dead end.
use Rattle.std.specs.Prelude.{Bool, true, false, ℕ}
use Rattle.theory.specs.Formula.{Formula}
use Rattle.theory.specs.State.{State}
use Rattle.theory.proofs.Asks.{Dies}
use Rattle.theory.proofs.Propagation.{Steps}
use Rattle.theory.proofs.Falls.{Falls}
use Rattle.occurrences.specs.Index.{formula_of}
use Rattle.tally.specs.Tally.{state_in}
use Rattle.moves.specs.Moving.{Moved}
use Rattle.occurrences.specs.declared.Index.{Index}
use Rattle.tally.specs.declared.Tally.{Tally}
use Rattle.notes.specs.declared.Notes.{Notes}

-- steps that some rule asks lead to a dead end
pub record Died (f : Formula) (s : State) : Type 0 where
  pub state : State
  pub count : ℕ
  pub steps : Steps f s state count
  pub dies : Dies f state

-- variables were decided, each by a rule; or they met a dead end, after which nothing is known of the state and the lists
abbrev pub Fell : (ix : Index) (st : Tally) (wk : Notes) (st' : Tally) (wk' : Notes) → Bool → Type 0
Fell ix st wk st' wk' true = Died (formula_of ix) (state_in st)
Fell ix st wk st' wk' false = Falls (formula_of ix) (state_in st) (state_in st') × Moved ix st wk st' wk'
