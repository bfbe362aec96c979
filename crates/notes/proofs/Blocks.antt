-- A block that is written is there, and the others stay.
use mathlib.Core.Path.{◌≡◌}
use mathlib.Core.Logic.{◌≢◌}
use Prim.Native.Nat.{ℕ, ◌<◌}
use lib.ListN.{length}
use lib.Seq.{get_or-set_same, get_or-set_other}
use Rattle.notes.specs.declared.Block.{Block}
use Rattle.notes.specs.declared.Notes.{Notes}
use Rattle.notes.specs.Notes.{no_block, block_at, with_block}

module _ (w : Notes) (i : ℕ) (b : Block) where
  pub block_there : i < length w.blocks → block_at (with_block i b w) i ≡ b
  block_there h = get_or-set_same w.blocks i b no_block h

  pub block_kept : (j : ℕ) → j ≢ i → block_at (with_block i b w) j ≡ block_at w j
  block_kept j n = get_or-set_other w.blocks i j b no_block n
