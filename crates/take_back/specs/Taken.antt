-- When a group can be taken back, what the buffer then is, and what undoes what. (Document 02, A7.)
use Rattle.std.specs.Prelude.{◌≡◌, List, [], ◌∷◌, ◌++◌, map, ℕ, ◌-◌, ◌≤◌, ◌<◌, ℤ, pos as posℤ, length, take, drop, replicate, Result}
use Rattle.literal.specs.Literal.{literal_of}
use Rattle.receipt.specs.declared.Refusal.{Refusal}
use Rattle.receipt.specs.Answers.{adding_receipt, added_length, taking_back_receipt, length_left}
use Rattle.receipt.specs.Receipt.{done, receipt}
use Rattle.theory.specs.Formula.{clauses}
use Rattle.theory.specs.Table.{zeros, WithinLimits}

-- from the first u elements of buffer b, without an order of refusals
pub record Takeable (u n : ℕ) (b : List ℤ) : Type 0 where
  -- u is at most "the buffer's length"
  pub used : u ≤ length b
  -- "1 to 5"
  pub within : WithinLimits n (take u b)
  -- there is a group
  pub some : 0 < zeros (take u b)

-- the buffer b' after the group g was taken back, with v the new used length
pub record Taken (u n : ℕ) (g b b' : List ℤ) (v : ℕ) : Type 0 where
  -- "the last group of the used part", its elements and its closing zero; no other group's zero is among them
  pub last : take u b ≡ take v b ++ (g ++ (posℤ 0 ∷ []))
  pub one : zeros g ≡ 0
  -- "its elements and its closing zero become 0"
  pub cleared : take (u - v) (drop v b') ≡ replicate (u - v) (posℤ 0)
  -- "Elements not named are never changed."
  pub before : take v b' ≡ take v b
  pub after : drop u b' ≡ drop u b
  -- what is left is again a table within the limits, and has all groups but that one
  pub limits : WithinLimits n (take v b')
  pub groups : clauses (take u b) ≡ clauses (take v b') ++ (map literal_of g ∷ [])

-- the answer r and the buffer b'' after a group that had made the used length v was taken back, beside the buffer b before it was added to the first u elements
pub record Restored (u v : ℕ) (b : List ℤ) (r : Result ℕ Refusal) (b'' : List ℤ) : Type 0 where
  pub answer : taking_back_receipt r ≡ receipt done 0 0
  -- "restores the length and all elements before it"
  pub length_is : length_left r ≡ u
  pub before : take u b'' ≡ take u b
  -- "those the group had filled are 0, later ones untouched"
  pub filled : take (v - u) (drop u b'') ≡ replicate (v - u) (posℤ 0)
  pub after : drop v b'' ≡ drop v b

-- the answer s and the buffer b'' after a group that had been taken back from the first u elements of buffer b was added again
pub record AddedBack (u : ℕ) (b : List ℤ) (s : Result ℕ Refusal) (b'' : List ℤ) : Type 0 where
  pub answer : adding_receipt s ≡ receipt 15 0 0
  pub length_is : added_length s ≡ u
  -- the whole buffer is as it was
  pub buffer : b'' ≡ b
