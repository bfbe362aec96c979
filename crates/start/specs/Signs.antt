-- The variables that occur with both signs, and the list of them.
use Rattle.std.specs.Prelude.{◌≡◌, Bool, true, false, List, ℕ, ◌+◌, ◌%◌, ◌≤◌, ◌<◌}
use Rattle.occurrences.specs.Index.{first_at, occurrence_at}
use Rattle.notes.specs.declared.Block.{Block}
use Rattle.notes.specs.Notes.{block_at, with_blocks_end}
use Rattle.occurrences.specs.declared.Index.{Index}
use Rattle.notes.specs.declared.Notes.{Notes}

-- variable p has an occurrence of this sign
abbrev pub Signed : (ix : Index) → ℕ → ℕ → Type 0
Signed ix p sign = (j : ℕ) × (first_at ix p ≤ j) × (j < first_at ix (p + 1)) × (occurrence_at ix j % 2 ≡ sign)

pub record BothSigns (ix : Index) (p : ℕ) : Type 0 where
  pub plus : Signed ix p 0
  pub minus : Signed ix p 1

abbrev pub SignsOf : (ix : Index) → ℕ → Bool → Type 0
SignsOf ix p true = BothSigns ix p
SignsOf ix p false = ¬ BothSigns ix p

-- the pairs of a clause that holds variable p and one that holds its opposite
abbrev pub signs_block : ℕ → Block
signs_block p = record { first = p; last = 0; from = 0; to = 0 }

-- the variables below n with both signs are listed, in a list of such blocks
pub record ListedBelow (ix : Index) (w : Notes) (n : ℕ) : Type 0 where
  pub listed : (p : ℕ) → 0 < p → p < n → BothSigns ix p → (i : ℕ) × (i < w.blocks_end) × (block_at w i ≡ signs_block p)
  pub inside : (i : ℕ) → i < w.blocks_end → (p : ℕ) × (p < n) × (block_at w i ≡ signs_block p)
  pub few : w.blocks_end < n

-- of which there are `end`, and the notes are as they were
pub record Listing (ix : Index) (wk wk' : Notes) (end n : ℕ) : Type 0 where
  pub todo : wk'.todo ≡ wk.todo
  pub todo_end : wk'.todo_end ≡ wk.todo_end
  pub below : ListedBelow ix (with_blocks_end end wk') n
