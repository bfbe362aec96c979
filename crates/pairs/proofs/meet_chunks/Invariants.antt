use Rattle.std.proofs.Common.{◌-◌}
use Rattle.pairs.proofs.Chunks.{Parts}
use Rattle.pairs.proofs.meet_chunks.Given as goal

abbrev pub invariant-loop-from : goal.invariant-loop-from
invariant-loop-from l = Parts l.index l.fn.state l.fn.work l.rows l.others l.state l.work l.from

abbrev pub decreases-loop-from : goal.decreases-loop-from
decreases-loop-from l = l.others.to - l.from
