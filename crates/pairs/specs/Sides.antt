-- A look at pairs of clauses that were gathered: some with some others, and the two sides of a block.
use Rattle.std.specs.Prelude.{◌≡◌, Bool, ℕ, ◌+◌, ◌≤◌, ◌<◌, get_or}
use Rattle.literal.specs.Literal.{max_literals}
use Rattle.theory.specs.Formula.{Clause}
use Rattle.theory.proofs.Paired.{Relation}
use Rattle.occurrences.specs.Index.{clause_count, clause_of}
use Rattle.notes.specs.declared.Block.{Block}
use Rattle.notes.specs.Notes.{Gathered, near_from, far_from}
use Rattle.moves.specs.Listing.{ListsIn}
use Rattle.gather.specs.Gathering.{WideIn, Beside}
use Rattle.pairs.specs.declared.Range.{Range}
use Rattle.pairs.specs.declared.Side.{Side}
use Rattle.pairs.specs.declared.Side.TheVariants.{Near, Far}
use Rattle.meet.specs.Looking.{Lookable, LookingOf}
use Rattle.meet.specs.Places.{number_at, Placed, Unmet, Among}
use Rattle.occurrences.specs.declared.Index.{Index}
use Rattle.tally.specs.declared.Tally.{Tally}
use Rattle.notes.specs.declared.Notes.{Notes}

-- those from a to b, with those from c to d
abbrev pub Facing : (ix : Index) (wk : Notes) → (a b c d : ℕ) → Relation
Facing ix wk a b c d g h = Among ix wk a b g × Among ix wk c d h

abbrev pub FacingOf : (ix : Index) (st : Tally) (wk : Notes) → Range → Range → (st' : Tally) (wk' : Notes) → Bool → Type 0
FacingOf ix st wk rows others = LookingOf (Facing ix wk rows.from rows.to others.from others.to) ix st wk

pub record Chunkable (ix : Index) (st : Tally) (wk : Notes) (rows others : Range) : Type 0 where
  pub lookable : Lookable ix st wk
  pub ordered : rows.from ≤ rows.to
  pub placed : Placed ix wk rows.from rows.to
  pub others_ordered : others.from ≤ others.to
  pub chunk : Placed ix wk others.from others.to

-- the rows before place r meet none of the others
pub record NextRow (ix : Index) (st : Tally) (wk : Notes) (rows others : Range) (r : ℕ) : Type 0 where
  pub from : rows.from ≤ r
  pub within : r ≤ rows.to
  pub apart : (i : ℕ) → rows.from ≤ i → i < r → (j : ℕ) → others.from ≤ j → j < others.to → Unmet ix st wk (number_at wk i) j

-- a clause of a pair of a block
abbrev pub near_side : Tally → Block → Clause → Type 0
near_side st b g = (h : Clause) × ListsIn st b g h

abbrev pub far_side : Tally → Block → Clause → Type 0
far_side st b h = (g : Clause) × ListsIn st b g h

abbrev pub side_of : Side → Tally → Block → Clause → Type 0
side_of Near = near_side
side_of Far = far_side

-- from where its clauses are gathered
abbrev pub start_of : Side → ℕ
start_of Near = near_from
start_of Far = far_from

-- the wide clauses of P were gathered from place `start` to `end`
pub record SideOf (P : Clause → Type 0) (ix : Index) (st : Tally) (wk : Notes) (start : ℕ) (wk' : Notes) (end : ℕ) : Type 0 where
  pub grew : start ≤ end
  pub few : end ≤ start + max_literals
  pub beside : Beside wk wk'
  pub kept : (i : ℕ) → i < start → get_or wk'.gathered i 0 ≡ get_or wk.gathered i 0
  pub inside : (i : ℕ) → start ≤ i → i < end → get_or wk'.gathered i 0 < clause_count ix
  pub all : (g : ℕ) → WideIn ix st g → P (clause_of ix g) → Gathered wk' start end g
