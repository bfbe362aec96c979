-- The search of document 01: what is decided after settling, and the tree from the initial state.
use Rattle.std.specs.Prelude.{cond, List, [], ◌∷◌, ◌++◌, map, ℕ, suc, ◌-◌, min, eqb, ℤ, pos as posℤ, length, replicate}
use Rattle.std.specs.Prelude.{Option, None, Some}
use Rattle.general.specs.Booleans.{bit}
use Rattle.general.specs.Lists.{up_to}
use Rattle.literal.specs.declared.Literal.TheVariants.{Pos}
use Rattle.literal.specs.Literal.{TRUE, FALSE, var, entry_of}
use Rattle.theory.specs.Formula.{Clause, Formula, Assignment, holds, Choice, clauses}
use Rattle.theory.specs.State.{State, initial, assign, standing}
use Rattle.theory.specs.Rules.{live}
use Rattle.theory.specs.Propagation.{Settled, dead, rest, settle}
use Rattle.theory.specs.Tree.{Decision, done, branch, Found, Run, tree, Limited, limited}
use Rattle.theory.specs.Tree as t

-- the variables that stand in live clauses
unfoldable pub live_variables : List Clause → List ℕ
live_variables [] = []
live_variables (c ∷ g) = cond (live c) (map var c) [] ++ live_variables g

abbrev pub lower : ℕ → Option ℕ → Option ℕ
lower p None = Some p
lower p (Some q) = Some (min p q)

unfoldable pub lowest : List ℕ → Option ℕ
lowest [] = None
lowest (p ∷ l) = lower p (lowest l)

-- "the lowest open placement standing in a live group"; none where there is no live group
unfoldable pub branch_variable : Formula → State → Option ℕ
branch_variable f s = lowest (live_variables (map (standing s) f))

-- of the roots only the constant is true: "open placements are left out"
abbrev pub only_constant : Assignment
only_constant p = eqb p 0

-- "tied ones follow"
unfoldable pub choice_of : ℕ → State → Choice
choice_of n s = up_to (λ p. holds only_constant (s p)) n

-- "try it left out, and only if that has no layout try it taken"; "The second side starts from the state as it was before the split"
abbrev pub split_on : ℕ → State → Option ℕ → Decision State Choice
split_on n s None = done (choice_of n s)
split_on n s (Some p) = branch p (assign (Pos p) FALSE s) (assign (Pos p) TRUE s)

-- what settling leaves: a dead end, or a state of which one variable is picked, if any is, to split on
abbrev pub decided : (State → Option ℕ) → ℕ → Settled → Decision State Choice
decided pick n dead = t.dead
decided pick n (rest s) = split_on n s (pick s)

-- "Settling hands over to the split"
unfoldable pub decide : ℕ → Formula → State → Decision State Choice
decide n f s = decided (branch_variable f) n (settle n f s)

-- the tree from a state, walked to the first layout: each split closes one of n open variables, so fuel n + 1 is enough
abbrev pub tree_from : ℕ → Formula → State → Run Choice
tree_from n f s = tree (decide n f) (suc n) 1 s

-- the tree of a filing
unfoldable pub tree_of : ℕ → Formula → Run Choice
tree_of n f = tree_from n f initial

-- what the tree of a table needs: "the number of splits met in this order up to that end, as if no allowance were set"
abbrev pub needs : ℕ → List ℤ → ℕ
needs n t = (tree_of n (clauses t)).splits

-- the search of a table with an allowance of b splits
unfoldable pub search : ℕ → List ℤ → ℕ → Limited Choice
search n t b = limited b (tree_of n (clauses t))

-- "the first n of the plan are the choice"; "No layout or stopped: the first n of both become 0"
abbrev pub plan_of : ℕ → List (Found Choice) → List ℕ
plan_of n [] = replicate n 0
plan_of n (a ∷ l) = map bit a.choice

-- "the first n of the trail are the splits on the path, -p or +p in order, then zeros"
abbrev pub trail_of : ℕ → List (Found Choice) → List ℤ
trail_of n [] = replicate n (posℤ 0)
trail_of n (a ∷ l) = map entry_of a.path ++ replicate (n - length a.path) (posℤ 0)
