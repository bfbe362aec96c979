-- What the loop of `stands_live` keeps.
use Rattle.literal.specs.Literal.{variables}
use Rattle.tally.specs.Stretch.{far}
use Rattle.gather.proofs.Gathers.{Looks}
use Rattle.gather.proofs.stands_live.Given as goal

abbrev pub invariant-loop-r : goal.invariant-loop-r
invariant-loop-r l = Looks l.index l.state l.r l.p

abbrev pub decreases-loop-r : goal.decreases-loop-r
decreases-loop-r l = far l.state.links l.r variables l.p
