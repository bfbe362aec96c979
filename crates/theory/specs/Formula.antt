-- A filing as a formula: the clauses (groups) of a table, assignments (choices), and when one is a solution (a layout).
use Rattle.std.specs.Prelude.{◌≡◌, Bool, true, false, not, ℕ, zero, suc, ◌+◌, ◌≤◌, ◌<◌, length, get_or, ℤ, negsuc, pos as posℤ}
use mathlib.Core.List.{List, [], ◌∷◌, Memᴰ}
use Rattle.general.specs.Booleans.{bit}
use Rattle.literal.specs.declared.Literal.{Literal}
use Rattle.literal.specs.declared.Literal.TheVariants.{Pos, Neg}
use Rattle.literal.specs.Literal.{var}

abbrev pub Clause : Type 0
Clause = List Literal

abbrev pub Formula : Type 0
Formula = List Clause

-- a literal in front of the first clause; after the last 0 there is none
abbrev pub push : Literal → Formula → Formula
push l [] = []
push l (c ∷ f) = (l ∷ c) ∷ f

-- "0 closes a group"
unfoldable pub clauses : List ℤ → Formula
clauses [] = []
clauses (posℤ zero ∷ t) = [] ∷ clauses t
clauses (posℤ (suc p) ∷ t) = push (Pos (suc p)) (clauses t)
clauses (negsuc p ∷ t) = push (Neg (suc p)) (clauses t)

-- a value for each variable, of which variable 0 is the constant
abbrev pub Assignment : Type 0
Assignment = ℕ → Bool

-- +p is true where p is taken, -p where it is left out
abbrev pub holds : Assignment → Literal → Bool
holds a (Pos p) = a p
holds a (Neg p) = not (a p)

-- how many occurrences are true: "an entry written twice counts twice"
unfoldable pub true_count : Assignment → Clause → ℕ
true_count a [] = 0
true_count a (l ∷ c) = bit (holds a l) + true_count a c

-- "A group is met when exactly one occurrence in it is true"
abbrev pub Met : Assignment → Clause → Type 0
Met a c = true_count a c ≡ 1

abbrev pub Satisfies : Assignment → Formula → Type 0
Satisfies a f = (c : Clause) → Memᴰ c f → Met a c

-- "A choice gives each placement 0 (left out) or 1 (taken)": placement p stands at index p - 1
abbrev pub Choice : Type 0
Choice = List Bool

abbrev pub assignment : Choice → Assignment
assignment c zero = true
assignment c (suc p) = get_or c p false

-- a layout of n placements
pub record Solution (n : ℕ) (f : Formula) (c : Choice) : Type 0 where
  pub long : length c ≡ n
  pub satisfies : Satisfies (assignment c) f

-- every literal is of a variable from 1 to n
pub record Within (n : ℕ) (f : Formula) : Type 0 where
  pub low : (c : Clause) (l : Literal) → Memᴰ c f → Memᴰ l c → 0 < var l
  pub high : (c : Clause) (l : Literal) → Memᴰ c f → Memᴰ l c → var l ≤ n
