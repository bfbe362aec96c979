-- How many literals of a clause are true, and open, in a state; the counts that code keeps of them.
use Rattle.std.specs.Prelude.{◌≡◌, cond, List, [], ◌∷◌, ℕ, zero, suc, ◌+◌, ◌*◌, ◌<◌, eqb, ltb, get_or, length}
use Rattle.general.specs.Booleans.{bit}
use Rattle.literal.specs.Literal.{TRUE, is_open, same, variables, max_clauses, max_literals}
use Rattle.theory.specs.Formula.{Clause}
use Rattle.theory.specs.State.{State, value}
use Rattle.state.specs.State.{state_of}
use Rattle.occurrences.specs.declared.Index.{Index}
use Rattle.occurrences.specs.Index.{clause_count, clause_of, width}

unfoldable pub trues_of : State → Clause → ℕ
trues_of s [] = 0
trues_of s (l ∷ c) = bit (same (value s l) TRUE) + trues_of s c

unfoldable pub opens_of : State → Clause → ℕ
opens_of s [] = 0
opens_of s (l ∷ c) = bit (is_open (value s l)) + opens_of s c

-- what a true literal adds to a count; a clause has fewer open ones than that
abbrev pub one_true : ℕ
one_true = 2 * max_literals

abbrev pub two_true : ℕ
two_true = 2 * one_true

-- the counts are those of the state, and no clause has two true literals
pub record Exact (ix : Index) (values counts : List ℕ) : Type 0 where
  pub long_values : length values ≡ variables
  pub long_counts : length counts ≡ max_clauses
  pub is : (g : ℕ) → g < clause_count ix → get_or counts g 0 ≡ opens_of (state_of values) (clause_of ix g) + one_true * trues_of (state_of values) (clause_of ix g)
  pub low : (g : ℕ) → g < clause_count ix → get_or counts g 0 < two_true

-- a sum over the open variables below n
unfoldable pub load : (ℕ → ℕ) → List ℕ → ℕ → ℕ
load w v zero = 0
load w v (suc n) = cond (ltb 1 (get_or v n 0)) (w n) 0 + load w v n

-- how many occurrences are open: as many notes may still come
abbrev pub room : Index → List ℕ → ℕ
room ix v = load (width ix) v variables

-- how many variables are open roots: as many ties may still come
unfoldable pub roots : List ℕ → ℕ → ℕ
roots v zero = 0
roots v (suc n) = bit (eqb (get_or v (suc n) 0) (2 * suc n)) + roots v n
