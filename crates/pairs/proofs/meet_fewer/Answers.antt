-- By the laws of Chunks.
use Rattle.pairs.proofs.Chunks.{one_facing, facing_turned}
use Rattle.pairs.proofs.meet_fewer.Goals as goal

pub returns-then-fewer-eq1 : goal.returns-then-fewer-eq1
returns-then-fewer-eq1 c = one_facing c.requires c.if-fewer-eq1.true c.gathered_at-g.result c.gathered_at-g.ensures _ _ _ c.meet_row.ensures

pub returns : goal.returns
returns c = facing_turned c.requires _ _ _ c.meet_chunks.ensures
