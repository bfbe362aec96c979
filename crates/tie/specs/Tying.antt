-- Rules 6 and 8: of two open literals exactly one is true, and the higher becomes the opposite of the lower.
use Rattle.std.specs.Prelude.{◌≡◌, Bool, true, false, ℕ, ◌+◌, ◌*◌, ◌/◌, ◌≤◌, ◌<◌}
use Rattle.literal.specs.Literal.{opposite, literal_at, max_variables, codes}
use Rattle.theory.proofs.Asks.{Asks}
use Rattle.theory.proofs.Propagation.{Steps}
use Rattle.theory.proofs.Paired.{Adds}
use Rattle.theory.proofs.DistinctBut.{DistinctBut}
use Rattle.occurrences.specs.Index.{formula_of}
use Rattle.tally.specs.Tally.{state_in, value_in}
use Rattle.tally.specs.Counts.{roots}
use Rattle.moves.specs.Sound.{Sound}
use Rattle.moves.specs.Moving.{Noting}
use Rattle.moves.specs.Listing.{Listed, Blocks, Carried}
use Rattle.moves.specs.Stepping.{Died}
use Rattle.occurrences.specs.declared.Index.{Index}
use Rattle.tally.specs.declared.Tally.{Tally}
use Rattle.notes.specs.declared.Notes.{Notes}

-- some rule asks that of two open roots' literals, given by their codes, of which low's is the lower, exactly one is true
pub record Tying (ix : Index) (st : Tally) (low high : ℕ) : Type 0 where
  pub opened : 1 < low
  pub order : low / 2 < high / 2
  pub below : high < codes
  pub low_root : value_in st (low / 2) ≡ 2 * (low / 2)
  pub high_root : value_in st (high / 2) ≡ 2 * (high / 2)
  pub asked : Asks (formula_of ix) (state_in st) (literal_at high) (opposite (literal_at low))

pub record Tieable (ix : Index) (st : Tally) (wk : Notes) (low high : ℕ) : Type 0 where
  pub tying : Tying ix st low high
  pub sound : Sound ix st wk
  pub distinct : DistinctBut (λ p. ⊥) (formula_of ix) (state_in st)
  pub blocks : Blocks st wk

-- what meets now and did not before is listed; one block more is at most, and one root fewer is open
pub record Tied (ix : Index) (st : Tally) (wk : Notes) (st' : Tally) (wk' : Notes) : Type 0 where
  pub steps : (k : ℕ) × Steps (formula_of ix) (state_in st) (state_in st') k
  pub sound : Sound ix st' wk'
  pub noting : Noting ix st wk st' wk'
  pub distinct : DistinctBut (λ p. ⊥) (formula_of ix) (state_in st')
  pub blocks : Blocks st' wk'
  pub carried : Carried st wk st' wk'
  pub adds : Adds (Listed st' wk') (formula_of ix) (state_in st) (state_in st')
  pub listed : wk'.blocks_end ≤ wk.blocks_end + 1
  pub fewer : roots st'.values max_variables < roots st.values max_variables

-- after a dead end (true) nothing is known of the state and the lists
abbrev pub TieOf : (ix : Index) (st : Tally) (wk : Notes) (st' : Tally) (wk' : Notes) → Bool → Type 0
TieOf ix st wk st' wk' true = Died (formula_of ix) (state_in st)
TieOf ix st wk st' wk' false = Tied ix st wk st' wk'
