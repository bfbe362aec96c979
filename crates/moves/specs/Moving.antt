-- What every step keeps and notes.
use Rattle.std.specs.Prelude.{◌≡◌, ℕ, ◌+◌, ◌≤◌, ◌<◌, get_or}
use Rattle.literal.specs.Literal.{max_variables}
use Rattle.occurrences.specs.Index.{clause_count}
use Rattle.tally.specs.Tally.{count_in}
use Rattle.tally.specs.Counts.{one_true, room, roots}
use Rattle.notes.specs.Notes.{Noted}
use Rattle.moves.specs.Sound.{Sound}
use Rattle.occurrences.specs.declared.Index.{Index}
use Rattle.tally.specs.declared.Tally.{Tally}
use Rattle.notes.specs.declared.Notes.{Notes}

-- what was noted stays noted; a clause that fell to two or fewer, or has a new true literal, is noted, and each note is paid by an open occurrence;
-- no clause lost all that was open or true
pub record Noting (ix : Index) (st : Tally) (wk : Notes) (st' : Tally) (wk' : Notes) : Type 0 where
  pub grows : wk.todo_end ≤ wk'.todo_end
  pub kept : (i : ℕ) → i < wk.todo_end → get_or wk'.todo i 0 ≡ get_or wk.todo i 0
  pub few : (g : ℕ) → g < clause_count ix → count_in st' g < 3 → count_in st' g < count_in st g → Noted wk' wk.todo_end g
  pub paid : wk'.todo_end + room ix st'.values ≤ wk.todo_end + room ix st.values
  pub never : (g : ℕ) → g < clause_count ix → 0 < count_in st g → 0 < count_in st' g
  pub won : (g : ℕ) → g < clause_count ix → count_in st g < one_true → one_true ≤ count_in st' g → Noted wk' wk.todo_end g

-- variables were decided: the rings and the listed blocks are as they were, and no variable became a root
pub record Went (ix : Index) (st : Tally) (wk : Notes) (st' : Tally) (wk' : Notes) : Type 0 where
  pub sound : Sound ix st' wk'
  pub noting : Noting ix st wk st' wk'
  pub fewer : roots st'.values max_variables ≤ roots st.values max_variables
  pub links : st'.links ≡ st.links
  pub blocks : wk'.blocks ≡ wk.blocks
  pub blocks_end : wk'.blocks_end ≡ wk.blocks_end

-- and what was gathered too
pub record Moved (ix : Index) (st : Tally) (wk : Notes) (st' : Tally) (wk' : Notes) : Type 0 where
  pub went : Went ix st wk st' wk'
  pub gathered : wk'.gathered ≡ wk.gathered
