-- A state at rest, where no rule fits, and the first step of a side of a split from there.
use Rattle.std.specs.Prelude.{◌≡◌, Bool, true, false, List, ℕ, ◌*◌, ◌/◌, ◌≤◌, ◌<◌, length}
use Rattle.literal.specs.Literal.{FALSE, literal_at, max_variables, max_table, codes, variables}
use Rattle.theory.specs.State.{assign, standing, WellFormed}
use Rattle.theory.proofs.ByCount.{ByCount}
use Rattle.theory.proofs.DistinctBut.{DistinctBut}
use Rattle.theory.proofs.Paired.{Paired}
use Rattle.occurrences.specs.Index.{Indexed, clause_count, clause_of, formula_of}
use Rattle.tally.specs.Tally.{state_in, value_in}
use Rattle.tally.specs.Ring.{Classes}
use Rattle.tally.specs.Counts as counts
use Rattle.tally.specs.Counts.{Exact}
use Rattle.notes.specs.Notes.{max_blocks}
use Rattle.moves.specs.Deciding.{DeadIn}
use Rattle.engine.specs.Ready.{Ready}
use Rattle.occurrences.specs.declared.Index.{Index}
use Rattle.tally.specs.declared.Tally.{Tally}
use Rattle.notes.specs.declared.Notes.{Notes}

-- what is sound whatever the work space holds
pub record Tallied (ix : Index) (st : Tally) : Type 0 where
  pub index : Indexed ix
  pub exact : Exact ix st.values st.counts
  pub linked : length st.links ≡ variables
  pub classes : Classes st.values st.links
  pub room : counts.room ix st.values ≤ max_table
  pub roots : counts.roots st.values max_variables ≤ max_blocks

-- no rule fits
pub record Calm (ix : Index) (st : Tally) : Type 0 where
  pub tallied : Tallied ix st
  pub counted : (g : ℕ) → g < clause_count ix → ByCount (standing (state_in st) (clause_of ix g))
  pub distinct : DistinctBut (λ p. ⊥) (formula_of ix) (state_in st)
  pub pairs : Paired (λ g h. ⊥) (formula_of ix) (state_in st)

-- x is the code of a literal of an open root there
pub record Siding (ix : Index) (st : Tally) (x : ℕ) : Type 0 where
  pub calm : Calm ix st
  pub well : WellFormed max_variables (state_in st)
  pub opened : 1 < x
  pub below : x < codes
  pub root : value_in st (x / 2) ≡ 2 * (x / 2)

-- after a dead end (true) nothing is known of the state and the lists; else all that is to be looked at is listed
abbrev pub Begun : (ix : Index) (st : Tally) → ℕ → (st' : Tally) (wk' : Notes) → Bool → Type 0
Begun ix st x st' wk' true = DeadIn ix (assign (literal_at x) FALSE (state_in st))
Begun ix st x st' wk' false = (state_in st' ≡ assign (literal_at x) FALSE (state_in st)) × Ready ix st' wk' 0 0
