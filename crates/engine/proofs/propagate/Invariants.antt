use Rattle.std.proofs.Common.{◌-◌}
use Rattle.engine.specs.Turning.{weight}
use Rattle.engine.proofs.Loops.{Going}
use Rattle.engine.proofs.propagate.Given as goal

abbrev pub invariant-loop-at : goal.invariant-loop-at
invariant-loop-at l = Going l.index l.fn.state l.state l.work l.twos

abbrev pub decreases-loop-at : goal.decreases-loop-at
decreases-loop-at l = weight l.index l.state l.work - l.twos
