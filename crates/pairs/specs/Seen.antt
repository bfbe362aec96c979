-- In which clauses of a chunk each literal stands, by code, and which of them may meet another clause.
use Rattle.std.specs.Prelude.{◌≡◌, ℕ, ◌%◌, ◌≤◌, ◌<◌, get_or, length}
use mathlib.Core.List.{List, Memᴰ}
use Rattle.general.specs.Sets.{Has}
use Rattle.literal.specs.declared.Literal.{Literal}
use Rattle.literal.specs.Literal.{code_of, codes}
use Rattle.theory.specs.Formula.{Clause}
use Rattle.theory.specs.State.{standing}
use Rattle.theory.proofs.Counts.{Wide}
use Rattle.theory.proofs.Paired.{Meet}
use Rattle.occurrences.specs.Index.{Indexed, clause_count, clause_of}
use Rattle.tally.specs.Tally.{state_in}
use Rattle.tally.specs.Ring.{Classes}
use Rattle.tally.specs.Counts.{Exact}
use Rattle.meet.specs.Places.{number_at, clause_at, Placed}
use Rattle.occurrences.specs.declared.Index.{Index}
use Rattle.tally.specs.declared.Tally.{Tally}
use Rattle.notes.specs.declared.Notes.{Notes}

-- as many clauses as are seen at once
abbrev pub chunk_size : ℕ
chunk_size = 8

-- a set for each literal
abbrev pub Seen : List ℕ → Type 0
Seen seen = length seen ≡ codes

-- the literal with code x is seen as one of place k
abbrev pub IsSeen : List ℕ → ℕ → ℕ → Type 0
IsSeen seen k x = Has (get_or seen x 0) k

-- so is every literal of a clause as it stands
abbrev pub SeenIn : (st : Tally) (seen : List ℕ) → ℕ → Clause → Type 0
SeenIn st seen k c = (y : Literal) → Memᴰ y (standing (state_in st) c) → IsSeen seen k (code_of y)

-- clause g can be read
pub record Seeable (ix : Index) (st : Tally) (g : ℕ) : Type 0 where
  pub index : Indexed ix
  pub exact : Exact ix st.values st.counts
  pub classes : Classes st.values st.links
  pub inside : g < clause_count ix

-- its literals are seen as well, if it is wide, as those of every place of a set
pub record SeenBy (ix : Index) (st : Tally) (seen : List ℕ) (g set : ℕ) (seen' : List ℕ) : Type 0 where
  pub kept : (k x : ℕ) → IsSeen seen k x → IsSeen seen' k x
  pub all : Wide (standing (state_in st) (clause_of ix g)) → (k : ℕ) → Has set k → SeenIn st seen' k (clause_of ix g)

-- those from place a to b can
pub record Seeing (ix : Index) (st : Tally) (wk : Notes) (a b : ℕ) : Type 0 where
  pub index : Indexed ix
  pub exact : Exact ix st.values st.counts
  pub classes : Classes st.values st.links
  pub placed : Placed ix wk a b

-- the literals of those that are wide are seen, each as one of its place in the chunk
pub record SeenAll (ix : Index) (st : Tally) (wk : Notes) (a b : ℕ) (seen : List ℕ) : Type 0 where
  pub all : (i : ℕ) → a ≤ i → i < b → Wide (standing (state_in st) (clause_at ix wk i)) → SeenIn st seen (i % chunk_size) (clause_at ix wk i)

-- the set has the place of every clause that meets clause g and whose literals are seen
abbrev pub MayMeet : (ix : Index) (st : Tally) (seen : List ℕ) → (g set : ℕ) → Type 0
MayMeet ix st seen g set = (k : ℕ) (h : Clause) → SeenIn st seen k h → Meet (state_in st) (clause_of ix g) h → Has set k

-- those from place a to r meet no clause whose literals are seen
pub record FirstRow (ix : Index) (st : Tally) (wk : Notes) (seen : List ℕ) (a b r : ℕ) : Type 0 where
  pub from : a ≤ r
  pub within : r ≤ b
  pub apart : (i : ℕ) → a ≤ i → i < r → MayMeet ix st seen (number_at wk i) 0
