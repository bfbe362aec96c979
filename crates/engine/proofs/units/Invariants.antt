use Rattle.engine.proofs.Loops.{Looking, left}
use Rattle.engine.proofs.units.Given as goal

abbrev pub invariant-loop-at : goal.invariant-loop-at
invariant-loop-at l = Looking l.index l.fn.state l.fn.work l.state l.work l.at

abbrev pub decreases-loop-at : goal.decreases-loop-at
decreases-loop-at l = left l.index l.state l.work l.at
