-- `weights`: the generator stays in its range.
use Rattle.std.proofs.Common.{◌<◌}
use Rattle.memo.proofs.weights.Given as goal

abbrev pub invariant-loop-i : goal.invariant-loop-i
invariant-loop-i l = l.x < 1048576
