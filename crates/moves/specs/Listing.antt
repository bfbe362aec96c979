-- The pairs of clauses that rules 7 and 8 are still to look at: those of the listed blocks.
use Rattle.std.specs.Prelude.{◌≡◌, ℕ, ◌≤◌, ◌<◌, get_or}
use Rattle.theory.specs.Formula.{Clause}
use Rattle.tally.specs.Stretch.{Followed}
use Rattle.tally.specs.Block.{Spans, Lists}
use Rattle.notes.specs.declared.Block.{Block}
use Rattle.notes.specs.Notes.{block_at, near_from}
use Rattle.tally.specs.declared.Tally.{Tally}
use Rattle.notes.specs.declared.Notes.{Notes}

-- the pairs of a block
abbrev pub ListsIn : Tally → Block → Clause → Clause → Type 0
ListsIn st b = Lists st.links st.values b.first b.last b.from b.to

-- clauses g and h are a pair of some listed block
abbrev pub Listed : (st : Tally) (wk : Notes) → Clause → Clause → Type 0
Listed st wk g h = (i : ℕ) × (i < wk.blocks_end) × ListsIn st (block_at wk i) g h

-- a block can be walked along
abbrev pub SpansIn : Tally → Block → Type 0
SpansIn st b = Spans st.links st.values b.first b.last b.from b.to

-- and so can all that are listed
pub record Blocks (st : Tally) (wk : Notes) : Type 0 where
  pub at : (i : ℕ) → i < wk.blocks_end → SpansIn st (block_at wk i)

-- steps keep what is listed, every stretch, and the clauses that were gathered for a look
pub record Carried (st : Tally) (wk : Notes) (st' : Tally) (wk' : Notes) : Type 0 where
  pub followed : Followed st.values st.links st'.values st'.links
  pub grows : wk.blocks_end ≤ wk'.blocks_end
  pub kept : (i : ℕ) → i < wk.blocks_end → block_at wk' i ≡ block_at wk i
  pub gathered : (i : ℕ) → near_from ≤ i → get_or wk'.gathered i 0 ≡ get_or wk.gathered i 0
