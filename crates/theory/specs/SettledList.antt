-- What a list that Settle wrote says of each placement, and the choices that it leaves.
use Rattle.std.specs.Prelude.{◌≡◌, cond, ℕ, zero, suc, eqb, ltb, ℤ, negsuc, pos as posℤ, length, get_or}
use mathlib.Core.List.{List, Memᴰ}
use Rattle.literal.specs.declared.Literal.{Literal}
use Rattle.literal.specs.declared.Literal.TheVariants.{Pos, Neg}
use Rattle.literal.specs.Literal.{TRUE, FALSE, max_variables}
use Rattle.theory.specs.Formula.{Clause, Formula, Choice, assignment, Met}
use Rattle.theory.specs.State.{State, standing, Agrees}

-- 257, the number of no placement
abbrev pub decided : ℕ
decided = suc max_variables

-- "257 taken, -257 left out", +r or -r the value of placement r or its opposite
abbrev pub told : ℤ → Literal
told (posℤ k) = cond (eqb k decided) TRUE (Pos k)
told (negsuc k) = cond (eqb (suc k) decided) FALSE (Neg (suc k))

-- the state that the first n elements say, of which the one at index i is that of placement i + 1; +p there says nothing of placement p
unfoldable pub state_in : ℕ → List ℤ → State
state_in n l zero = TRUE
state_in n l (suc i) = cond (ltb i n) (told (get_or l i (posℤ 0))) (Pos (suc i))

-- a choice of n placements that does what the state says, and meets every group as it stands there
pub record Remains (n : ℕ) (f : Formula) (s : State) (c : Choice) : Type 0 where
  pub long : length c ≡ n
  pub agrees : Agrees (assignment c) s
  pub met : (g : Clause) → Memᴰ g f → Met (assignment c) (standing s g)
