-- What code answers, and leaves in the buffer, is the call of Take back.
use mathlib.Core.Path.{◌≡◌, ap, ◌∙◌}
use mathlib.Core.List.{List, ◌++◌}
use Prim.Native.Nat.{ℕ, ◌+◌, ◌-◌, ◌<◌, ◌≤◌}
use native.Mathlib.Omega.{arith}
use borrow.Author.Tests.{le-ltb, ne_eqb}
use lib.IntN.{ℤ, pos as posℤ}
use lib.ListN.{length, take, drop, replicate}
use lib.Seq.{length-take-le}
use Rattle.std.specs.Prelude.{Ok}
use Rattle.receipt.specs.Receipt.{pass}
use Rattle.theory.specs.Calls.{cleared, take_back_call}
use Rattle.theory.specs.Heads.{last_start}
use Rattle.theory.specs.Table.{zeros, check}
use Rattle.theory.proofs.LastGroup.{last_found, last_zeros, start_inside}
use Rattle.theory.proofs.Tables.{accepted_closed}
use Rattle.take_back.specs.TakeBack.{called}

-- a table that isn't empty has a group
module _ (u n : ℕ) (b : List ℤ) (room : u ≤ length b) (passed : check n (take u b) ≡ pass) (some : 0 < u) where
  length_used : length (take u b) ≡ u
  length_used = length-take-le u b room

  pub some_used : 0 < length (take u b)
  some_used = omega (arith, length_used)

  pub start_before : last_start (take u b) < u
  start_before = omega (arith, start_inside (take u b) (accepted_closed n (take u b) passed) some_used, length_used)

  pub call_taken : called (Ok (last_start (take u b))) (cleared (last_start (take u b)) u b) ≡ take_back_call u n b
  unfolding take_back_call
  call_taken =
      let z = last_zeros (last_found (take u b) (accepted_closed n (take u b) passed) some_used) in
      rw (le-ltb (length b) u room, passed, ne_eqb (zeros (take u b)) 0 (λ e. omega (arith, e, z)))

  -- by where code finds the start, and what it clears
  pub call_cleared : (v : ℕ) → v ≡ last_start (take u b) → (b' : List ℤ) → b' ≡ take v b ++ (replicate (u - v) (posℤ 0) ++ drop (v + (u - v)) b) →
      called (Ok v) b' ≡ take_back_call u n b
  call_cleared v e b' i =
      let k : v + (u - v) ≡ u = omega (arith, e, start_before) in
      ap (called (Ok v)) (rw k at i) ∙ rw e call_taken
