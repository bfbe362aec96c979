-- Literals (document 01's entries): Pos p says that variable p (its placement) is taken, Neg p that it is left out.
-- Variables of a formula are counted from 1. Variable 0 is the constant: Pos 0 is always true and Neg 0 always false.
use Rattle.std.specs.Prelude.{ℕ, zero, suc, ◌+◌, ◌*◌, ◌/◌, ◌%◌, Bool, true, false, eqb, ltb, ℤ, negsuc, pos}
use Rattle.literal.specs.declared.ClauseNumber.{ClauseNumber}
use Rattle.literal.specs.declared.Literal.{Literal}
use Rattle.literal.specs.declared.Literal.TheVariants.{Pos, Neg}

-- a clause number (document 01's group number), counted from 1
abbrev pub clause_number : ℕ → ClauseNumber
clause_number k = record { 0 = k }

abbrev pub TRUE : Literal
TRUE = Pos 0

abbrev pub FALSE : Literal
FALSE = Neg 0

-- "+p says placement p is taken, -p that it is left out"
abbrev pub literal : ℕ → Bool → Literal
literal p true = Pos p
literal p false = Neg p

abbrev pub var : Literal → ℕ
var (Pos p) = p
var (Neg p) = p

-- of a variable, not of the constant
abbrev pub is_open : Literal → Bool
is_open l = ltb 0 (var l)

-- the opposite of an entry
abbrev pub opposite : Literal → Literal
opposite (Pos p) = Neg p
opposite (Neg p) = Pos p

abbrev pub same : Literal → Literal → Bool
same (Pos p) (Pos q) = eqb p q
same (Pos p) (Neg q) = false
same (Neg p) (Pos q) = false
same (Neg p) (Neg q) = eqb p q

-- a literal as one number, by which code indexes its lists
abbrev pub code_of : Literal → ℕ
code_of (Pos p) = 2 * p
code_of (Neg p) = 2 * p + 1

-- and back
unfoldable pub literal_at : ℕ → Literal
literal_at c = literal (c / 2) (eqb (c % 2) 0)

-- an element of a table as a literal: +p, -p
abbrev pub literal_of : ℤ → Literal
literal_of (pos n) = Pos n
literal_of (negsuc n) = Neg (suc n)

-- and back, as a trail writes it
abbrev pub entry_of : Literal → ℤ
entry_of (Pos p) = pos p
entry_of (Neg zero) = pos 0
entry_of (Neg (suc p)) = negsuc p

-- The three filing limits, stated once: placements, groups and entries.
abbrev pub max_variables : ℕ
max_variables = 256

abbrev pub max_clauses : ℕ
max_clauses = 512

abbrev pub max_literals : ℕ
max_literals = 2048

-- the elements of the longest table: every literal, and a 0 for every clause
abbrev pub max_table : ℕ
max_table = max_literals + max_clauses

-- the constant and every variable
abbrev pub variables : ℕ
variables = max_variables + 1

-- how many literals code can index
abbrev pub codes : ℕ
codes = 2 * variables
