-- What the walk over the variables for the branch variable asks, and what it finds of one.
use Rattle.std.specs.Prelude.{Bool, true, false, List, ℕ, ◌≤◌, ◌<◌}
use Rattle.literal.specs.Literal.{max_variables}
use Rattle.theory.specs.Formula.{Within}
use Rattle.theory.specs.State.{WellFormed}
use Rattle.theory.proofs.Guard.{Guard, InWide}
use Rattle.occurrences.specs.Index.{formula_of}
use Rattle.tally.specs.Tally.{state_in}
use Rattle.side.specs.Side.{Calm}
use Rattle.occurrences.specs.declared.Index.{Index}
use Rattle.tally.specs.declared.Tally.{Tally}

-- variable p stands in a wide clause, or in none
abbrev pub BranchesOn : (ix : Index) (st : Tally) → ℕ → Bool → Type 0
BranchesOn ix st p true = InWide (formula_of ix) (state_in st) p
BranchesOn ix st p false = ¬ InWide (formula_of ix) (state_in st) p

pub record Branching (ix : Index) (st : Tally) (p : ℕ) : Type 0 where
  pub calm : Calm ix st
  pub well : WellFormed max_variables (state_in st)
  pub positive : 0 < p
  pub inside : p ≤ max_variables

-- a state at rest in whose live clauses no open variable under `from` stands
pub record Branchable (ix : Index) (st : Tally) (from n : ℕ) : Type 0 where
  pub calm : Calm ix st
  pub within : Within n (formula_of ix)
  pub small : n ≤ max_variables
  pub well : WellFormed n (state_in st)
  pub guard : Guard (formula_of ix) (state_in st) from
  pub positive : 0 < from
