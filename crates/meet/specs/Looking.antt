-- A look at pairs of clauses by rules 7 and 8.
use Rattle.std.specs.Prelude.{Bool, true, false, ℕ, ◌+◌, ◌≤◌}
use Rattle.literal.specs.Literal.{max_variables}
use Rattle.theory.specs.Formula.{Clause}
use Rattle.theory.proofs.Propagation.{Steps}
use Rattle.theory.proofs.Paired.{Relation, Looked}
use Rattle.theory.proofs.DistinctBut.{DistinctBut}
use Rattle.occurrences.specs.Index.{formula_of}
use Rattle.tally.specs.Tally.{state_in}
use Rattle.tally.specs.Counts.{roots}
use Rattle.moves.specs.Sound.{Sound}
use Rattle.moves.specs.Moving.{Noting}
use Rattle.moves.specs.Stepping.{Died}
use Rattle.moves.specs.Listing.{Listed, Blocks, Carried}
use Rattle.occurrences.specs.declared.Index.{Index}
use Rattle.tally.specs.declared.Tally.{Tally}
use Rattle.notes.specs.declared.Notes.{Notes}

-- no variable stands twice in a wide clause, and what is listed can be walked along
pub record Lookable (ix : Index) (st : Tally) (wk : Notes) : Type 0 where
  pub sound : Sound ix st wk
  pub distinct : DistinctBut (λ p. ⊥) (formula_of ix) (state_in st)
  pub blocks : Blocks st wk

-- the pairs of K were looked at: of those that still meet, and of those that meet since, each is listed, as is what was; a block more is paid by a root fewer
pub record LookedAt (K : Relation) (ix : Index) (st : Tally) (wk : Notes) (st' : Tally) (wk' : Notes) : Type 0 where
  pub steps : (k : ℕ) × Steps (formula_of ix) (state_in st) (state_in st') k
  pub lookable : Lookable ix st' wk'
  pub noting : Noting ix st wk st' wk'
  pub kept : (g h : Clause) → Listed st wk g h → Listed st' wk' g h
  pub looked : Looked K (Listed st' wk') (formula_of ix) (state_in st) (state_in st')
  pub paid : wk'.blocks_end + roots st'.values max_variables ≤ wk.blocks_end + roots st.values max_variables
  pub fewer : roots st'.values max_variables ≤ roots st.values max_variables

-- after a dead end (true) nothing is known of the state and the lists
abbrev pub LookOf : Relation → (ix : Index) (st : Tally) (wk : Notes) (st' : Tally) (wk' : Notes) → Bool → Type 0
LookOf K ix st wk st' wk' true = Died (formula_of ix) (state_in st)
LookOf K ix st wk st' wk' false = LookedAt K ix st wk st' wk'

-- a part of a look, after which it goes on: stretches are as they were, and so are the clauses that were gathered for it
pub record Looking (K : Relation) (ix : Index) (st : Tally) (wk : Notes) (st' : Tally) (wk' : Notes) : Type 0 where
  pub at : LookedAt K ix st wk st' wk'
  pub carried : Carried st wk st' wk'

abbrev pub LookingOf : Relation → (ix : Index) (st : Tally) (wk : Notes) (st' : Tally) (wk' : Notes) → Bool → Type 0
LookingOf K ix st wk st' wk' true = Died (formula_of ix) (state_in st)
LookingOf K ix st wk st' wk' false = Looking K ix st wk st' wk'
