-- Show all layouts (document 02, A6): the tree that splits on the lowest open placement, walked past the first layout, and the rows.
use Rattle.std.specs.Prelude.{List, [], ◌∷◌, ◌++◌, map, ℕ, suc, ◌*◌, ◌-◌, ℤ, length, take, replicate}
use Rattle.std.specs.Prelude.{Option}
use Rattle.general.specs.Booleans.{bit}
use Rattle.general.specs.Lists.{up_to}
use Rattle.general.specs.Search.{find}
use Rattle.literal.specs.declared.Literal.TheVariants.{Pos}
use Rattle.literal.specs.Literal.{same}
use Rattle.theory.specs.Formula.{Formula, Choice, clauses}
use Rattle.theory.specs.State.{State, initial}
use Rattle.theory.specs.Propagation.{settle}
use Rattle.theory.specs.Tree.{Decision, Run, tree, Limited, limited}
use Rattle.theory.specs.Search.{decided}

-- "the lowest open placement, live group or none"
unfoldable pub open_variable : ℕ → State → Option ℕ
open_variable n s = find (λ p. same (s p) (Pos p)) (up_to (λ p. p) n)

unfoldable pub decide_open : ℕ → Formula → State → Decision State Choice
decide_open n f s = decided (open_variable n) n (settle n f s)

-- the tree from a state, walked until k layouts are found
abbrev pub open_tree : ℕ → Formula → ℕ → State → Run Choice
open_tree n f k s = tree (decide_open n f) (suc n) k s

-- "walks until k+1 layouts or the end"
unfoldable pub list_tree : ℕ → List ℤ → ℕ → Run Choice
list_tree n t k = open_tree n (clauses t) (suc k) initial

-- "its splits are the count"
abbrev pub list_needs : ℕ → List ℤ → ℕ → ℕ
list_needs n t k = (list_tree n t k).splits

-- the listing of a table for k rows with an allowance of b splits
unfoldable pub list : ℕ → List ℤ → ℕ → ℕ → Limited Choice
list n t k b = limited b (list_tree n t k)

-- layout after layout, a row of n bytes each
unfoldable pub row_bytes : List Choice → List ℕ
row_bytes [] = []
row_bytes (c ∷ l) = map bit c ++ row_bytes l

-- "each once, up to k"; "Unused rows become 0."
abbrev pub rows_of : ℕ → ℕ → List Choice → List ℕ
rows_of n k l = row_bytes (take k l) ++ replicate ((k - length l) * n) 0
