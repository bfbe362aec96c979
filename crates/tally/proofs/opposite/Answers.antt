-- `opposite` meets its contract.
use Rattle.std.proofs.Common.{ap, ◌∙◌, arith}
use Rattle.literal.specs.Literal.{var, opposite, literal_at}
use Rattle.literal.proofs.Codes.{var_at}
use Rattle.theory.proofs.Literals.{var_opposite}
use Rattle.tally.proofs.opposite.Goals as goal

pub code-requires : goal.code-requires
code-requires c =
    let x = c.args.x in
    omega (arith, c.ranges.x, ap var (c.opposite.ensures ∙ ap opposite c.of_code.ensures) ∙ var_opposite (literal_at x) ∙ var_at x)
