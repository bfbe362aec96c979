use Rattle.std.proofs.Common.{◌+◌, ◌-◌}
use Rattle.occurrences.specs.Index.{start_at}
use Rattle.engine.proofs.Reading.{Walk}
use Rattle.engine.proofs.open_place.Given as goal

abbrev pub invariant-loop-i : goal.invariant-loop-i
invariant-loop-i l = Walk l.index l.state l.g l.from l.i

abbrev pub decreases-loop-i : goal.decreases-loop-i
decreases-loop-i l = start_at l.index (l.g + 1) - l.i
