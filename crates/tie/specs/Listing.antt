-- The block that a tie lists.
use Rattle.std.specs.Prelude.{◌≡◌, ◌⊎◌, ℕ, ◌+◌, ◌≤◌, ◌<◌}
use Rattle.tally.specs.Tally.{link_in}
use Rattle.notes.specs.declared.Block.{Block}
use Rattle.notes.specs.Notes.{block_at}
use Rattle.notes.specs.declared.Notes.{Notes}
use Rattle.tally.specs.declared.Tally.{Tally}

-- the rings of two roots
abbrev pub block_between : Tally → ℕ → ℕ → Block
block_between st q r = record { first = link_in st q; last = q; from = link_in st r; to = r }

-- b is listed where n is not 0, what was listed stays so, and nothing else is
pub record ListedBy (wk : Notes) (n : ℕ) (b : Block) (wk' : Notes) : Type 0 where
  pub todo : wk'.todo ≡ wk.todo
  pub todo_end : wk'.todo_end ≡ wk.todo_end
  pub gathered : wk'.gathered ≡ wk.gathered
  pub grows : wk.blocks_end ≤ wk'.blocks_end
  pub one : wk'.blocks_end ≤ wk.blocks_end + 1
  pub kept : (i : ℕ) → i < wk.blocks_end → block_at wk' i ≡ block_at wk i
  pub only : (i : ℕ) → i < wk'.blocks_end → (i < wk.blocks_end) ⊎ (block_at wk' i ≡ b)
  pub listed : 0 < n → (i : ℕ) × (i < wk'.blocks_end) × (block_at wk' i ≡ b)
