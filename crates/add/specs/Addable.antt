-- When a list may follow a table as one group more, and when it may be added to the used part of a buffer, without an order of refusals.
use mathlib.Core.List.{List, Memᴰ}
use Rattle.std.specs.Prelude.{ℕ, ◌+◌, ◌≤◌, ◌<◌, ℤ, nat_abs, length, take}
use Rattle.literal.specs.Literal.{max_clauses, max_literals}
use Rattle.theory.specs.Table.{zeros, nonzeros, WithinLimits}

-- list g, after table t, for n placements
pub record Follows (n : ℕ) (t g : List ℤ) : Type 0 where
  -- "1 to 5 on the used part"
  pub within : WithinLimits n t
  -- "2 and 3 with the group added (each element of the list counts as an entry)"
  pub clauses : zeros t + 1 ≤ max_clauses
  pub literals : nonzeros t + length g ≤ max_literals
  -- no "entry's size above n, or a zero .. in an added list"
  pub known : (e : ℤ) → Memᴰ e g → (0 < nat_abs e) × (nat_abs e ≤ n)

-- list g, after the first u elements of buffer b
pub record Addable (u n : ℕ) (g b : List ℤ) : Type 0 where
  -- u is at most "the buffer's length"
  pub used : u ≤ length b
  pub follows : Follows n (take u b) g
  -- "The list and a closing 0 are stored at u"
  pub room : u + length g + 1 ≤ length b
