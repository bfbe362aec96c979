-- A clause of a table as it stands in a state, and how code reads and counts it.
use Rattle.std.specs.Prelude.{◌≡◌, false, List, [], ◌∷◌, map, ℕ, zero, suc, ◌≤◌, ℤ, negsuc, nat_abs, pos as posℤ, length, get_or, drop}
use Rattle.literal.specs.declared.Literal.{Literal}
use Rattle.literal.specs.declared.Literal.TheVariants.{Pos, Neg}
use Rattle.literal.specs.Literal.{var, code_of, max_variables, max_table}
use Rattle.theory.specs.Formula.{Clause, clauses}
use Rattle.theory.specs.State.{standing}
use Rattle.theory.specs.Rules.{occurs}
use Rattle.theory.specs.Table.{ends_open}
use Rattle.state.specs.State.{state_of}

-- what code may read without a further test: a table within the limits
pub record Readable (t : List ℤ) : Type 0 where
  pub known : (i : ℕ) → nat_abs (get_or t i (posℤ 0)) ≤ max_variables
  pub short : length t ≤ max_table
  pub closed : ends_open false t ≡ false

-- the literals up to the first 0
unfoldable pub group : List ℤ → Clause
group [] = []
group (posℤ zero ∷ t) = []
group (posℤ (suc p) ∷ t) = Pos (suc p) ∷ group t
group (negsuc p ∷ t) = Neg (suc p) ∷ group t

-- how many elements there are up to the first 0, which counts too
unfoldable pub group_length : List ℤ → ℕ
group_length [] = 0
group_length (posℤ zero ∷ t) = 1
group_length (posℤ (suc p) ∷ t) = suc (group_length t)
group_length (negsuc p ∷ t) = suc (group_length t)

-- the clause that begins at an index, and all that begin from there on, as they stand
abbrev pub clause_at : List ℤ → List ℕ → ℕ → Clause
clause_at t v from = standing (state_of v) (group (drop from t))

abbrev pub clauses_from : List ℤ → List ℕ → ℕ → List Clause
clauses_from t v from = map (standing (state_of v)) (clauses (drop from t))

-- an index where a clause begins, or the end
pub record Begins (t : List ℤ) (from : ℕ) : Type 0 where
  pub inside : from ≤ length t
  pub closed : ends_open false (drop from t) ≡ false

-- an array counts the literals of a clause by their codes
pub record CountsOf (k : List ℕ) (c : Clause) : Type 0 where
  pub each : (x : Literal) → var x ≤ max_variables → get_or k (code_of x) 0 ≡ occurs x c
