-- What is kept of the placements that a table names.
use Rattle.std.specs.Prelude.{◌≡◌, Bool, false, List, ℕ, suc, ◌≤◌, ℤ, length, get_or}
use Rattle.literal.specs.Literal.{max_variables}
use Rattle.theory.specs.Mentions.{mentions}

-- a truth value for each placement number, and for 0: whether the table names it
pub record Noted (l : List Bool) (t : List ℤ) : Type 0 where
  pub long : length l ≡ suc max_variables
  pub is : (p : ℕ) → p ≤ max_variables → get_or l p false ≡ mentions t p
