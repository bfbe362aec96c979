-- Every variable is open and alone in its class.
use Rattle.std.specs.Prelude.{◌≡◌, ℕ, ◌*◌, ◌<◌, get_or, length}
use Rattle.literal.specs.Literal.{variables, max_clauses}
use Rattle.tally.specs.declared.Tally.{Tally}

-- the variables below n
pub record OpenBelow (t : Tally) (n : ℕ) : Type 0 where
  pub long_values : length t.values ≡ variables
  pub long_links : length t.links ≡ variables
  pub long_counts : length t.counts ≡ max_clauses
  pub values : (p : ℕ) → p < n → get_or t.values p 0 ≡ 2 * p
  pub links : (p : ℕ) → p < n → get_or t.links p 0 ≡ p
