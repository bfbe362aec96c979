-- What is looked for in a clause, beside the literals of one.
use Rattle.std.specs.Prelude.{Bool, ◌&&◌, ◌||◌, leb}
use Rattle.literal.specs.declared.Literal.{Literal}
use Rattle.literal.specs.Literal.{opposite, is_open}
use Rattle.theory.specs.Formula.{Clause}
use Rattle.theory.specs.Rules.{occurs, stands, differ}
use Rattle.clause.specs.declared.Test.{Test}
use Rattle.clause.specs.declared.Test.TheVariants.{Open, Twice, Common, Opposed, Apart, Partner, Shared}

-- a literal stands itself or by its opposite
abbrev pub shares : Clause → Literal → Bool
shares c x = stands x c || stands (opposite x) c

-- the tests of rules 2 to 8, beside the literals of a clause c
abbrev pub passes : Test → Clause → Literal → Bool
passes Open c x = is_open x
passes Twice c x = leb 2 (occurs x c)
passes Common c x = stands x c
passes Opposed c x = stands (opposite x) c
passes (Apart y) c x = differ y x
passes (Partner y) c x = stands (opposite x) c && differ y x
passes (Shared y) c x = shares c x && differ y x
