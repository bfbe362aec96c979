use Rattle.std.proofs.Common.{◌/◌}
use Rattle.literal.specs.Literal.{variables}
use Rattle.tally.proofs.Rings.{size}
use Rattle.tie.proofs.Turns.{Turning}
use Rattle.tie.proofs.turn.Given as goal

abbrev pub invariant-loop-p : goal.invariant-loop-p
invariant-loop-p l = Turning l.fn.state l.x l.t l.state l.p

abbrev pub decreases-loop-p : goal.decreases-loop-p
decreases-loop-p l = size (l.x / 2) l.state.values variables
