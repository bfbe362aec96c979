-- What every operation asks of a table first: document 01's refusals 1 to 5, each over the whole table before the next.
use Rattle.std.specs.Prelude.{Bool, false, not, cond, ◌≡◌, ℕ, ◌+◌, ◌≤◌, ltb, eqb, ℤ, nat_abs, pos as posℤ, take}
use mathlib.Core.List.{List, [], ◌∷◌, ◌++◌, Memᴰ}
use Rattle.std.specs.Prelude.{Option, None, Some}
use Rattle.general.specs.Booleans.{bit}
use Rattle.general.specs.Search.{first_place}
use Rattle.literal.specs.Literal.{max_variables, max_clauses, max_literals}
use Rattle.receipt.specs.declared.Fault.{Fault}
use Rattle.receipt.specs.declared.Fault.TheVariants.{TooManyVariables, TooManyClauses, TooManyLiterals, OpenClause}
use Rattle.receipt.specs.Receipt.{unknown_variable, refusal, pass}
use Rattle.std.specs.Prelude.{Ok, Err}
use Rattle.receipt.specs.Receipt.{Checked}

abbrev pub closes : ℤ → Bool
closes e = eqb (nat_abs e) 0

-- closed groups
unfoldable pub zeros : List ℤ → ℕ
zeros [] = 0
zeros (e ∷ t) = bit (closes e) + zeros t

-- entries
unfoldable pub nonzeros : List ℤ → ℕ
nonzeros [] = 0
nonzeros (e ∷ t) = bit (not (closes e)) + nonzeros t

-- "A non-empty table ends in 0": b says whether the element before is an entry
unfoldable pub ends_open : Bool → List ℤ → Bool
ends_open b [] = b
ends_open b (e ∷ t) = ends_open (not (closes e)) t

abbrev pub refused : Fault → ℕ → Checked
refused why at = Err (refusal why at)

-- "entry's size above n"
abbrev pub is_unknown : ℕ → ℤ → Bool
is_unknown n e = ltb n (nat_abs e)

-- "Place of 5 is the first wrong index"; its group's number (document 02, A2) is one more than the zeros before it
abbrev pub table_unknown : List ℤ → Option ℕ → Checked
table_unknown t None = pass
table_unknown t (Some i) = refused (unknown_variable (zeros (take i t) + 1)) i

unfoldable pub check : ℕ → List ℤ → Checked
check n t =
    cond (ltb max_variables n) (refused TooManyVariables 0)
    (cond (ltb max_clauses (zeros t)) (refused TooManyClauses 0)
    (cond (ltb max_literals (nonzeros t)) (refused TooManyLiterals 0)
    (cond (ends_open false t) (refused OpenClause 0)
    (table_unknown t (first_place (is_unknown n) 0 t)))))

-- the check passes
abbrev pub Accepted : ℕ → List ℤ → Type 0
Accepted n t = check n t ≡ pass

-- "within the limits of document 01": the same without an order of refusals
pub record WithinLimits (n : ℕ) (t : List ℤ) : Type 0 where
  -- "n is 0 to 256."
  pub variables : n ≤ max_variables
  -- "Closed groups (zeros): at most 512 over the whole table."
  pub clauses : zeros t ≤ max_clauses
  -- "Entries (non-zeros): at most 2,048 over the whole table."
  pub literals : nonzeros t ≤ max_literals
  -- "A non-empty table ends in 0."
  pub ends : (b : List ℤ) (e : ℤ) → t ≡ b ++ (e ∷ []) → e ≡ posℤ 0
  -- no "entry's size above n"
  pub known : (e : ℤ) → Memᴰ e t → nat_abs e ≤ n
