-- By the laws of Chunks.
use Rattle.pairs.proofs.Chunks.{row_more}
use Rattle.pairs.proofs.first_row.Goals as goal

pub loop-i-preserved : goal.loop-i-preserved
loop-i-preserved c =
    row_more c.loop-i.invariant c.loop-i-test.true c.gathered_at-g.result c.gathered_at-g.ensures c.may_meet.result c.may_meet.ensures c.if-may_meet-ne0.false
