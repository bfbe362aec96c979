-- What holds of index, state and work space between any two steps of the engine.
use Rattle.std.specs.Prelude.{◌≡◌, ℕ, ◌+◌, ◌≤◌, ◌<◌, get_or, length}
use Rattle.literal.specs.Literal.{max_variables, max_table, variables}
use Rattle.occurrences.specs.Index.{Indexed, clause_count}
use Rattle.tally.specs.Ring.{Classes}
use Rattle.tally.specs.Counts.{Exact, room, roots}
use Rattle.notes.specs.Notes.{max_blocks}
use Rattle.occurrences.specs.declared.Index.{Index}
use Rattle.tally.specs.declared.Tally.{Tally}
use Rattle.notes.specs.declared.Notes.{Notes}

-- the index is right, the counts are the state's, the classes are rings, and the lists have room for every note and tie that may still come
pub record Sound (ix : Index) (st : Tally) (wk : Notes) : Type 0 where
  pub index : Indexed ix
  pub exact : Exact ix st.values st.counts
  pub linked : length st.links ≡ variables
  pub classes : Classes st.values st.links
  pub todo_room : wk.todo_end + room ix st.values ≤ max_table
  pub blocks_room : wk.blocks_end + roots st.values max_variables ≤ max_blocks
  pub todo_inside : (i : ℕ) → i < wk.todo_end → get_or wk.todo i 0 < clause_count ix
