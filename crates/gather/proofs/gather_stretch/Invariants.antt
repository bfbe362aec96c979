-- What the loop of `gather_stretch` keeps.
use Rattle.literal.specs.Literal.{variables}
use Rattle.tally.specs.Stretch.{far}
use Rattle.gather.proofs.Gathers.{Gathers}
use Rattle.gather.proofs.gather_stretch.Given as goal

abbrev pub invariant-loop-p : goal.invariant-loop-p
invariant-loop-p l = Gathers l.index l.state l.fn.work l.first l.last l.start l.work l.end l.p

abbrev pub decreases-loop-p : goal.decreases-loop-p
decreases-loop-p l = far l.state.links l.last variables l.p
