-- The number of the variable to split on, if there is one.
use Rattle.std.specs.Prelude.{ℕ, Option, option_map}
use Rattle.literal.specs.declared.Variable.{Variable}

abbrev pub branch_of : Option Variable → Option ℕ
branch_of = option_map (λ p. p.0)
