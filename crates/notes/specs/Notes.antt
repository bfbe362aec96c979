-- The work space of the search as code keeps it: clauses to look at and how many there are, blocks of pairs to look at and how many, gathered clauses.
use Rattle.std.specs.Prelude.{◌≡◌, ℕ, ◌+◌, ◌*◌, ◌≤◌, ◌<◌, get_or, set}
use Rattle.literal.specs.Literal.{max_literals, max_variables}
use Rattle.notes.specs.declared.Block.{Block}
use Rattle.notes.specs.declared.Notes.{Notes}

-- a block is listed for each variable at the start, and by each tie, which leaves a root fewer
abbrev pub max_blocks : ℕ
max_blocks = 2 * max_variables

-- clauses are gathered from place 0 on for a tie; for a look at pairs those of the two sides of a block, from here on
abbrev pub near_from : ℕ
near_from = max_literals

abbrev pub far_from : ℕ
far_from = 2 * max_literals

abbrev pub max_gathered : ℕ
max_gathered = far_from + max_literals

-- clause g is to be looked at: it stands at an index from a on
abbrev pub Noted : Notes → ℕ → ℕ → Type 0
Noted w a g = (i : ℕ) × (a ≤ i) × (i < w.todo_end) × (get_or w.todo i 0 ≡ g)

-- clauses of no variable
abbrev pub no_block : Block
no_block = record { first = 0; last = 0; from = 0; to = 0 }

-- the block at index i
abbrev pub block_at : Notes → ℕ → Block
block_at w i = get_or w.blocks i no_block

-- clause g is among those that were gathered from place a to n
abbrev pub Gathered : Notes → ℕ → ℕ → ℕ → Type 0
Gathered w a n g = (i : ℕ) × (a ≤ i) × (i < n) × (get_or w.gathered i 0 ≡ g)

-- one part written
abbrev pub with_todo : ℕ → ℕ → Notes → Notes
with_todo i g w = record { todo = set w.todo i g; todo_end = w.todo_end; blocks = w.blocks; blocks_end = w.blocks_end; gathered = w.gathered }

abbrev pub with_todo_end : ℕ → Notes → Notes
with_todo_end n w = record { todo = w.todo; todo_end = n; blocks = w.blocks; blocks_end = w.blocks_end; gathered = w.gathered }

abbrev pub with_block : ℕ → Block → Notes → Notes
with_block i b w = record { todo = w.todo; todo_end = w.todo_end; blocks = set w.blocks i b; blocks_end = w.blocks_end; gathered = w.gathered }

abbrev pub with_blocks_end : ℕ → Notes → Notes
with_blocks_end n w = record { todo = w.todo; todo_end = w.todo_end; blocks = w.blocks; blocks_end = n; gathered = w.gathered }

abbrev pub with_gathered : ℕ → ℕ → Notes → Notes
with_gathered i g w = record { todo = w.todo; todo_end = w.todo_end; blocks = w.blocks; blocks_end = w.blocks_end; gathered = set w.gathered i g }
