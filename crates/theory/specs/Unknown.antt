-- A2, "Tell me the group too": what the group on a receipt is, where the number is 5. "For all other numbers it is 0."
use Rattle.std.specs.Prelude.{◌≡◌, true, false, ◌||◌, ◌⊎◌, ◌≢◌, List, [], ◌∷◌, ◌++◌, ℕ, ◌+◌, ◌-◌, ◌<◌, ◌≤◌, eqb, ltb, ℤ, pos, length, get_or, take, drop}
use Rattle.general.specs.Search.{First}
use Rattle.literal.specs.declared.Literal.{Literal}
use Rattle.literal.specs.Literal.{clause_number, var}
use Rattle.receipt.specs.declared.Receipt.{Receipt}
use Rattle.theory.specs.declared.Mark.TheVariants.{Closes, Ends}
use Rattle.theory.specs.Formula.{Clause, Within}
use Rattle.theory.specs.Table.{closes, zeros, is_unknown, Accepted}
use Rattle.theory.specs.Heads.{heads_of, head_at}
use Rattle.theory.specs.Encoding.{Item, group, groups, command_bytes, entry_bytes, encode, table_of}
use Rattle.theory.specs.Calls.{is_wrong}

-- the group with number k, counted from 1, has its head around the place i: an entry of it stands there
pub record Encloses (t : List ℤ) (k i : ℕ) : Type 0 where
  pub from_one : 0 < k
  pub is_clause : k ≤ length (heads_of t)
  pub starts : (head_at (heads_of t) (k - 1)).start ≤ i
  pub ends : i < (head_at (heads_of t) (k - 1)).start + (head_at (heads_of t) (k - 1)).entries

-- In a table: the first entry whose size is above n stands at i, in the group with number k.
pub record UnknownInTable (n : ℕ) (t : List ℤ) (k i : ℕ) : Type 0 where
  pub first : First (is_unknown n) t i
  pub number : k ≡ zeros (take i t) + 1
  -- the group is the one whose head, as Index stores it, is around the place
  pub encloses : Encloses t k i

-- In Add's list g, after a used part t that passes: the first element that is a zero or of an unknown placement, by its place i.
pub record UnknownInList (n : ℕ) (t g : List ℤ) (k i : ℕ) : Type 0 where
  pub used : Accepted n t
  pub index : ℕ
  -- "place u plus its index there"
  pub place : i ≡ length t + index
  pub first : First (is_wrong n) g index
  -- the number that the added group would have
  pub number : k ≡ zeros t + 1
  -- an entry is in that group: in the table with the list and a closing 0 the group's head is around the place
  pub encloses : closes (get_or g index (pos 1)) ≡ false → Encloses (t ++ (g ++ (pos 0 ∷ []))) k i

-- In a strip: at i stands the first entry that is 0 or of an unknown placement, and the group with number k is open.
pub record UnknownInStrip (s : List ℕ) (k i : ℕ) : Type 0 where
  pub variables : ℕ
  pub items : List Item
  pub clause : Clause
  pub literal : Literal
  pub rest : List ℕ
  -- the strip up to the place, with the group closed and the strip ended there, is one by the grammar, and its last group is the open one
  pub before : take i s ++ (command_bytes Closes 0 ++ command_bytes Ends 0) ≡ encode variables (items ++ (group clause ∷ []))
  pub known : Within variables (groups items ++ (clause ∷ []))
  -- and here stands the first entry that isn't known
  pub here : drop i s ≡ entry_bytes (literal ∷ []) ++ rest
  pub wrong : (eqb (var literal) 0 || ltb variables (var literal)) ≡ true
  -- the groups opened, and not the chapters
  pub number : k ≡ length (groups items) + 1
  -- in the table of the groups with the entry, the open group's head is around it
  pub encloses : 0 < var literal → Encloses (table_of (groups items ++ ((clause ++ (literal ∷ [])) ∷ []))) k (length (table_of (groups items)) + length clause)

-- what a receipt says of the group; Where is what holds of group and place where the number is 5
pub record Names (Where : ℕ → ℕ → Type 0) (r : Receipt) : Type 0 where
  pub unknown : r.number ≡ 5 → Where r.clause.0 r.place
  pub others : r.number ≢ 5 → r.clause ≡ clause_number 0

-- of Add: 5 is of the used part, or of the list
abbrev pub UnknownInAdd : ℕ → List ℤ → List ℤ → ℕ → ℕ → Type 0
UnknownInAdd n t g k i = UnknownInTable n t k i ⊎ UnknownInList n t g k i
