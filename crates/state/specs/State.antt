-- The state of propagation as code keeps it: at index p the code of the literal that variable p stands for.
use Rattle.std.specs.Prelude.{cond, List, ℕ, ◌≤◌, ◌<◌, leb, get_or}
use Rattle.literal.specs.declared.Literal.TheVariants.{Pos}
use Rattle.literal.specs.Literal.{literal_at, max_variables, codes}
use Rattle.theory.specs.State.{State}

-- the constant and the variables that a filing can have stand in the array; the others are open
unfoldable pub state_of : List ℕ → State
state_of v p = cond (leb p max_variables) (literal_at (get_or v p 0)) (Pos p)

-- every element is the code of a literal whose variable is an index again
pub record InRange (v : List ℕ) : Type 0 where
  pub below : (p : ℕ) → p ≤ max_variables → get_or v p 0 < codes
