-- `decide`: the walk round the class has reached p.
use Prim.Native.Nat.{◌/◌}
use Rattle.literal.specs.Literal.{variables}
use Rattle.tally.proofs.Rings.{size}
use Rattle.decide.specs.Members.{ended}
use Rattle.decide.proofs.Deciding.{Turning}
use Rattle.decide.proofs.decide.Given as goal

abbrev pub invariant-loop-end : goal.invariant-loop-end
invariant-loop-end l = Turning l.index l.fn.state l.fn.work l.x l.state (ended l.end l.work) l.p

abbrev pub decreases-loop-end : goal.decreases-loop-end
decreases-loop-end l = size (l.x / 2) l.state.values variables
