-- By the literals that were found.
use Rattle.std.proofs.Common.{rules}
use Rattle.rules.proofs.rule_5.Goals as goal

pub returns : goal.returns
returns c =
    let x = rw (c.count-counted.ensures.of, c.count-counted.ensures.at) at c.in_ok-x.ensures in
    let y = rw (c.count-counted.ensures.of, c.count-counted.ensures.at) at c.first-2.ensures in
    search rules
