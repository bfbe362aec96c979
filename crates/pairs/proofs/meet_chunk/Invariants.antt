use Rattle.std.proofs.Common.{◌-◌}
use Rattle.pairs.proofs.Chunks.{Chunks}
use Rattle.pairs.proofs.meet_chunk.Given as goal

abbrev pub invariant-loop-rows : goal.invariant-loop-rows
invariant-loop-rows l = Chunks l.index l.fn.state l.fn.work l.rows l.chunk l.state l.work l.from

abbrev pub decreases-loop-rows : goal.decreases-loop-rows
decreases-loop-rows l = l.rows.to - l.from
