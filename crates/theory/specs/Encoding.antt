-- A strip by its grammar: the placements, then chapters and groups, then the end; and the table that it stands for.
use Rattle.std.specs.Prelude.{◌≡◌, cond, List, [], ◌∷◌, ◌++◌, map, ℕ, ◌+◌, ◌*◌, ◌/◌, ◌%◌, ◌≤◌, ◌<◌, eqb, ℤ, pos, length, get_or, take}
use Rattle.literal.specs.declared.Literal.TheVariants.{Pos, Neg}
use Rattle.literal.specs.Literal.{entry_of, max_variables, max_clauses, max_literals}
use Rattle.theory.specs.declared.Mark.{Mark}
use Rattle.theory.specs.declared.Mark.TheVariants.{Placements, Chapter, Opens, Taken, LeftOut, Closes, Ends}
use Rattle.theory.specs.Formula.{Clause, Formula, clauses, Within}
use Rattle.theory.specs.Mentions.{Mentioned}
use Rattle.theory.specs.Strip.{byte_of, operand_bytes, max_strip}

-- what stands between the placements and the end: a chapter with its number, or a group
pub data Item : Type 0 where
  chapter : ℕ → Item
  group : Clause → Item

-- "operands high byte first": v as k bytes
abbrev pub operand_of : ℕ → ℕ → List ℕ
operand_of k v = cond (eqb k 0) [] (cond (eqb k 1) (v ∷ []) (v / 256 ∷ v % 256 ∷ []))

-- a command as bytes
abbrev pub command_bytes : Mark → ℕ → List ℕ
command_bytes m v = byte_of m ∷ operand_of (operand_bytes m) v

-- "54 and 4C inside a group, taken and left out"
unfoldable pub entry_bytes : Clause → List ℕ
entry_bytes [] = []
entry_bytes (Pos p ∷ c) = command_bytes Taken p ++ entry_bytes c
entry_bytes (Neg p ∷ c) = command_bytes LeftOut p ++ entry_bytes c

-- "43 chapter (1 byte, any number), outside a group; 47 opens a group; .. 45 closes it; 5A ends the strip, outside a group"
unfoldable pub item_bytes : List Item → List ℕ
item_bytes [] = command_bytes Ends 0
item_bytes (chapter b ∷ l) = command_bytes Chapter b ++ item_bytes l
item_bytes (group c ∷ l) = command_bytes Opens 0 ++ (entry_bytes c ++ (command_bytes Closes 0 ++ item_bytes l))

-- "50 placements (2 bytes), first and once"
abbrev pub encode : ℕ → List Item → List ℕ
encode n l = command_bytes Placements n ++ item_bytes l

-- "Chapters don't change the table"
unfoldable pub groups : List Item → Formula
groups [] = []
groups (chapter b ∷ l) = groups l
groups (group c ∷ l) = c ∷ groups l

-- the table of a formula: "0 closes a group"
unfoldable pub table_of : Formula → List ℤ
table_of [] = []
table_of (c ∷ f) = map entry_of c ++ (pos 0 ∷ table_of f)

-- its entries
unfoldable pub entries : Formula → ℕ
entries [] = 0
entries (c ∷ f) = length c + entries f

-- Saving ----------------------------------------------------------------------------------------------------------

-- A1: "Write a strip from a table: placements, each group in table order, no chapter marks, the end."
unfoldable pub saved_strip : ℕ → List ℤ → List ℕ
saved_strip n t = encode n (map group (clauses t))

-- how long it is: three bytes for the placements and one for the end, two for each group, three for each entry
abbrev pub saved_length : ℕ → ℕ → ℕ
saved_length c l = 4 + 2 * c + 3 * l

abbrev pub max_saved : ℕ
max_saved = saved_length max_clauses max_literals

-- "a strip without chapter marks"
abbrev pub Unchaptered : List ℕ → Type 0
Unchaptered s = (n : ℕ) × (f : Formula) × (s ≡ encode n (map group f))

-- Limits ----------------------------------------------------------------------------------------------------------

-- a strip within document 01's limits, of n placements and these chapters and groups
pub record StripLimits (s : List ℕ) (n : ℕ) (l : List Item) : Type 0 where
  pub is : s ≡ encode n l
  -- "over 16,384 bytes" it is too long
  pub short : length s ≤ max_strip
  -- "n is 0 to 256."
  pub variables : n ≤ max_variables
  -- groups: "at most 512"; entries: "at most 2,048"
  pub clauses : length (groups l) ≤ max_clauses
  pub literals : entries (groups l) ≤ max_literals
  -- an operand of 54 and 4C is "a placement"
  pub known : Within n (groups l)

-- A3: "a strip counts as within the limits only if it keeps" the rule that it "must name every declared placement"
pub record StripWithin (s : List ℕ) (n : ℕ) (l : List Item) : Type 0 where
  pub limits : StripLimits s n l
  pub mentioned : Mentioned n (table_of (groups l))

-- A3, 26 "with the end mark's place", i: with the end mark at i and without what stands after it the strip is within document 01's limits, its table has room,
-- and a placement is not named
pub record UnmentionedInStrip (s : List ℕ) (room i : ℕ) : Type 0 where
  pub short : length s ≤ max_strip
  pub mark : get_or s i 0 ≡ byte_of Ends
  pub variables : ℕ
  pub items : List Item
  pub limits : StripLimits (take (i + 1) s) variables items
  pub fits : length (table_of (groups items)) ≤ room
  pub unmentioned : ¬ Mentioned variables (table_of (groups items))

-- a strip is of bytes
abbrev pub Bytes : List ℕ → Type 0
Bytes s = (i : ℕ) → get_or s i 0 < 256
