-- The clause that is counted is the one at from.
use Rattle.std.proofs.Common.{rules}
use Rattle.clause.proofs.Standing.live.Goals as goal

pub returns-in-Some : goal.returns-in-Some
returns-in-Some c =
    let x = rw (c.count-counted.ensures.of, c.count-counted.ensures.at) at c.in-Some.ensures in
    let y = rw (c.count-counted.ensures.of, c.count-counted.ensures.at) at c.first-in-Some.ensures in
    search rules
