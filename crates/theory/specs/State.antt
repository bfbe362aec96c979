-- States of propagation (settling) as substitutions, and a clause as it stands in a state.
use Rattle.std.specs.Prelude.{◌≡◌, cond, [], ◌∷◌, ℕ, zero, suc, ◌+◌, ◌≤◌, ◌<◌}
use Rattle.general.specs.Booleans.{bit}
use Rattle.literal.specs.declared.Literal.{Literal}
use Rattle.literal.specs.declared.Literal.TheVariants.{Pos, Neg}
use Rattle.literal.specs.Literal.{FALSE, var, opposite, same}
use Rattle.theory.specs.Formula.{Clause, Assignment, holds}

-- "A state says of each placement: taken, left out, open, or tied to a lower open placement as equal or opposite":
-- TRUE, FALSE, Pos p itself, or Pos r or Neg r of that lower one
abbrev pub State : Type 0
State = ℕ → Literal

-- everything is open
abbrev pub initial : State
initial p = Pos p

abbrev pub value : State → Literal → Literal
value s (Pos p) = s p
value s (Neg p) = opposite (s p)

-- x becomes t, and its opposite the opposite of t
abbrev pub replace : Literal → Literal → Literal → Literal
replace x t l = cond (same l x) t (cond (same l (opposite x)) (opposite t) l)

-- the one operation of all rules and splits: an open literal becomes t, and "followers move with it"
abbrev pub assign : Literal → Literal → State → State
assign x t s p = replace x t (s p)

-- a literal as it stands in front of a clause: "false entries dropped"
abbrev pub stand : Literal → Clause → Clause
stand l c = cond (same l FALSE) c (l ∷ c)

-- "A group as it stands has tied entries replaced and false entries dropped"
unfoldable pub standing : State → Clause → Clause
standing s [] = []
standing s (l ∷ c) = stand (value s l) (standing s c)

-- how many of 1 to n are open
unfoldable pub opens : State → ℕ → ℕ
opens s zero = 0
opens s (suc n) = bit (same (s (suc n)) (Pos (suc n))) + opens s n

-- an open placement of 1 to n
pub record Open (n : ℕ) (s : State) (p : ℕ) : Type 0 where
  pub positive : 0 < p
  pub inside : p ≤ n
  pub root : s p ≡ Pos p

-- an assignment does what the state says: a taken placement has 1, a tied one its root's value or the opposite
pub record Agrees (a : Assignment) (s : State) : Type 0 where
  pub at : (p : ℕ) → a p ≡ holds a (s p)

-- what settling keeps of a state of n variables: each stands for a literal of a variable no higher than itself, which stands for itself;
-- what lies past n is open
pub record WellFormed (n : ℕ) (s : State) : Type 0 where
  pub low : (p : ℕ) → var (s p) ≤ p
  pub fixed : (p : ℕ) → value s (s p) ≡ s p
  pub beyond : (p : ℕ) → n < p → s p ≡ Pos p
