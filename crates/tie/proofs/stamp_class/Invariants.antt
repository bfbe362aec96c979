use Rattle.literal.specs.Literal.{variables}
use Rattle.tally.specs.Stretch.{far}
use Rattle.tie.proofs.Stamping.{StampsAlong}
use Rattle.tie.proofs.stamp_class.Given as goal

abbrev pub invariant-loop-p : goal.invariant-loop-p
invariant-loop-p l = StampsAlong l.index l.state l.r l.stamps l.p

abbrev pub decreases-loop-p : goal.decreases-loop-p
decreases-loop-p l = far l.state.links l.r variables l.p
