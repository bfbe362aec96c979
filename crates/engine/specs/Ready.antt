-- What propagation by lists starts from, and where it ends.
use Rattle.std.specs.Prelude.{Bool, true, false, ℕ, ◌<◌}
use Rattle.literal.specs.Literal.{max_variables}
use Rattle.theory.specs.State.{standing, WellFormed}
use Rattle.theory.proofs.Propagation.{Steps}
use Rattle.theory.proofs.Paired.{Paired}
use Rattle.theory.proofs.DistinctBut.{DistinctBut}
use Rattle.theory.proofs.ByCount.{ByCount}
use Rattle.occurrences.specs.Index.{clause_count, clause_of, formula_of}
use Rattle.tally.specs.Tally.{state_in}
use Rattle.moves.specs.Sound.{Sound}
use Rattle.moves.specs.Stepping.{Died}
use Rattle.moves.specs.Listing.{Listed, Blocks}
use Rattle.engine.specs.Short.{Short}
use Rattle.occurrences.specs.declared.Index.{Index}
use Rattle.tally.specs.declared.Tally.{Tally}
use Rattle.notes.specs.declared.Notes.{Notes}

-- whatever a rule fits is listed: a short clause from its cursor on, a pair of clauses in a block; rules 4 and 5 fit no wide clause
pub record Ready (ix : Index) (st : Tally) (wk : Notes) (at next : ℕ) : Type 0 where
  pub sound : Sound ix st wk
  pub well : WellFormed max_variables (state_in st)
  pub short : Short ix st wk at next
  pub distinct : DistinctBut (λ p. ⊥) (formula_of ix) (state_in st)
  pub blocks : Blocks st wk
  pub pairs : Paired (Listed st wk) (formula_of ix) (state_in st)

-- no rule fits
pub record Rested (ix : Index) (st st' : Tally) (wk' : Notes) : Type 0 where
  pub steps : (k : ℕ) × Steps (formula_of ix) (state_in st) (state_in st') k
  pub sound : Sound ix st' wk'
  pub counted : (g : ℕ) → g < clause_count ix → ByCount (standing (state_in st') (clause_of ix g))
  pub distinct : DistinctBut (λ p. ⊥) (formula_of ix) (state_in st')
  pub pairs : Paired (λ g h. ⊥) (formula_of ix) (state_in st')

-- after a dead end (true) nothing is known of the state and the lists
abbrev pub Propagated : (ix : Index) (st st' : Tally) (wk' : Notes) → Bool → Type 0
Propagated ix st st' wk' true = Died (formula_of ix) (state_in st)
Propagated ix st st' wk' false = Rested ix st st' wk'
