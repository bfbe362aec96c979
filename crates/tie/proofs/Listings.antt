-- A block that is appended to the list.
use mathlib.Core.Path.{◌≡◌, refl}
use mathlib.Core.Logic.{inl, inr}
use lib.ListN.{length}
use Prim.Native.Nat.{ℕ, ◌+◌, ◌<◌}
use native.Mathlib.Decide.{dec_lt}
use native.Mathlib.Omega.{arith}
use Rattle.notes.specs.declared.Block.{Block}
use Rattle.notes.specs.Notes.{block_at, with_block, with_blocks_end, max_blocks}
use Rattle.notes.proofs.Blocks.{block_there, block_kept}
use Rattle.tie.specs.Listing.{ListedBy}
use Rattle.notes.specs.declared.Notes.{Notes}

pub listed_none : {wk : Notes} {n : ℕ} {b : Block} → n ≡ 0 → ListedBy wk n b wk
listed_none z = record {
  todo = refl;
  todo_end = refl;
  gathered = refl;
  grows = omega arith;
  one = omega arith;
  kept = λ i h. refl;
  only = λ i h. inl h;
  listed = λ h. absurd (omega arith);
}

pub listed_last : {wk : Notes} {n : ℕ} {b : Block} → length wk.blocks ≡ max_blocks → wk.blocks_end < max_blocks →
    ListedBy wk n b (with_blocks_end (wk.blocks_end + 1) (with_block wk.blocks_end b wk))
listed_last {wk} {b = b} long low = record {
  todo = refl;
  todo_end = refl;
  gathered = refl;
  grows = omega arith;
  one = omega arith;
  kept = λ i h. block_kept wk wk.blocks_end b i (λ q. omega arith);
  only = λ i h. elim (dec_lt i wk.blocks_end) [
    | yes k ↦ inl k
    | no k ↦ inr (let j : i ≡ wk.blocks_end = omega arith in rw j there)
  ];
  listed = λ h. (wk.blocks_end, omega arith, there);
}
  where
    there : block_at (with_block wk.blocks_end b wk) wk.blocks_end ≡ b
    there = block_there wk wk.blocks_end b (omega (arith, long))
