-- A call of Preview, and when it is accepted.
use Rattle.std.specs.Prelude.{◌≡◌, List, ℕ, ◌≤◌, ℤ, length, take, Result}
use Rattle.receipt.specs.declared.Refusal.{Refusal}
use Rattle.receipt.specs.declared.Settling.{Settling}
use Rattle.theory.specs.Calls.{preview_call}
use Rattle.add.specs.Addable.{Follows}
use Rattle.settle.specs.Settle.{called}

-- list g after the first u elements of buffer b: the answer r, both lists before and after it, and the buffer after it
pub record Call (u n : ℕ) (g b l : List ℤ) (m : List ℕ) (r : Result Settling Refusal) (l' : List ℤ) (m' : List ℕ) (b' : List ℤ) : Type 0 where
  pub is : called r l' m' ≡ preview_call u n g b l m
  pub kept : b' ≡ b

-- without an order of refusals: nothing is asked of the buffer's room
pub record Previewable (u n : ℕ) (g b l : List ℤ) (m : List ℕ) : Type 0 where
  pub used : u ≤ length b
  pub follows : Follows n (take u b) g
  pub list_room : n ≤ length l
  pub reasons_room : n ≤ length m
