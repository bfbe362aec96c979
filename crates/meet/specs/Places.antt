-- A wide clause and clauses that were gathered for a look, each at its place.
use Rattle.std.specs.Prelude.{◌≡◌, Bool, true, false, ℕ, ◌≤◌, ◌<◌, get_or, Option, None, Some}
use mathlib.Core.List.{Memᴰ}
use Rattle.literal.specs.declared.Literal.{Literal}
use Rattle.literal.specs.Literal.{max_variables}
use Rattle.theory.specs.Formula.{Clause}
use Rattle.theory.specs.State.{standing}
use Rattle.theory.proofs.Counts.{Wide}
use Rattle.theory.proofs.Falls.{Falls}
use Rattle.theory.proofs.Pairs.{Meets}
use Rattle.theory.proofs.Paired.{Meet, Relation}
use Rattle.occurrences.specs.Index.{clause_count, clause_of, formula_of}
use Rattle.tally.specs.Tally.{state_in}
use Rattle.tally.specs.Counts.{roots}
use Rattle.notes.specs.Notes.{near_from, max_gathered}
use Rattle.moves.specs.Moving.{Moved}
use Rattle.moves.specs.Stepping.{Died}
use Rattle.tie.specs.Tying.{Tying}
use Rattle.meet.specs.Meeting.{Readable}
use Rattle.meet.specs.Looking.{Lookable, LookingOf}
use Rattle.meet.specs.declared.Met.{Met}
use Rattle.meet.specs.declared.Met.TheVariants.{Common, Crossed}
use Rattle.occurrences.specs.declared.Index.{Index}
use Rattle.tally.specs.declared.Tally.{Tally}
use Rattle.notes.specs.declared.Notes.{Notes}

-- the clause at place i, and its number
abbrev pub number_at : Notes → ℕ → ℕ
number_at wk i = get_or wk.gathered i 0

abbrev pub clause_at : (ix : Index) (wk : Notes) → ℕ → Clause
clause_at ix wk i = clause_of ix (number_at wk i)

-- there is one at each place from a to b; ties leave them
pub record Placed (ix : Index) (wk : Notes) (a b : ℕ) : Type 0 where
  pub late : near_from ≤ a
  pub room : b ≤ max_gathered
  pub inside : (i : ℕ) → a ≤ i → i < b → number_at wk i < clause_count ix

-- clause g and the one at place i do not meet
abbrev pub Unmet : (ix : Index) (st : Tally) (wk : Notes) → ℕ → ℕ → Type 0
Unmet ix st wk g i = ¬ Meet (state_in st) (clause_of ix g) (clause_at ix wk i)

pub record Comparing (ix : Index) (st : Tally) (wk : Notes) (g a b : ℕ) : Type 0 where
  pub lookable : Lookable ix st wk
  pub placed : Placed ix wk a b
  pub inside : g < clause_count ix

-- rule 7 fits clauses g and h
pub record Sharing (ix : Index) (st : Tally) (g h : ℕ) : Type 0 where
  pub one : Readable ix st g
  pub other : Readable ix st h
  pub common : Literal
  pub crossing : Literal
  pub meets : Meets Wide (standing (state_in st) (clause_of ix g)) (standing (state_in st) (clause_of ix h)) common crossing
  pub shared : Memᴰ common (standing (state_in st) (clause_of ix h))

-- place i is the first from a to b at which one may meet clause g
pub record FirstAt (ix : Index) (st : Tally) (wk : Notes) (g a b i : ℕ) : Type 0 where
  pub from : a ≤ i
  pub below : i < b
  pub before : (j : ℕ) → a ≤ j → j < i → Unmet ix st wk g j

abbrev pub FacedBy : (ix : Index) (st : Tally) (wk : Notes) → (g a b : ℕ) → Option (ℕ × Met) → Type 0
FacedBy ix st wk g a b None = (j : ℕ) → a ≤ j → j < b → Unmet ix st wk g j
FacedBy ix st wk g a b (Some (i, Common x)) = FirstAt ix st wk g a b i × Sharing ix st g (number_at wk i)
FacedBy ix st wk g a b (Some (i, Crossed low high)) = FirstAt ix st wk g a b i × Tying ix st low high

-- literals fell by rule 7, at least one; after a dead end (true) nothing is known of the state and the lists
abbrev pub ClearOf : (ix : Index) (st : Tally) (wk : Notes) (st' : Tally) (wk' : Notes) → Bool → Type 0
ClearOf ix st wk st' wk' true = Died (formula_of ix) (state_in st)
ClearOf ix st wk st' wk' false =
    Falls (formula_of ix) (state_in st) (state_in st') × Moved ix st wk st' wk' × (roots st'.values max_variables < roots st.values max_variables)

-- c is at a place from a to b
abbrev pub Among : (ix : Index) (wk : Notes) → ℕ → ℕ → Clause → Type 0
Among ix wk a b c = (i : ℕ) × (a ≤ i) × (i < b) × (c ≡ clause_at ix wk i)

-- clause g, with those from a to b
abbrev pub Row : (ix : Index) (wk : Notes) → (g a b : ℕ) → Relation
Row ix wk g a b c d = (c ≡ clause_of ix g) × Among ix wk a b d

abbrev pub RowOf : (ix : Index) (st : Tally) (wk : Notes) → (g a b : ℕ) → (st' : Tally) (wk' : Notes) → Bool → Type 0
RowOf ix st wk g a b = LookingOf (Row ix wk g a b) ix st wk
