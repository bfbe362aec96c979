-- By the laws of Seeing.
use Rattle.std.proofs.Common.{arith}
use Rattle.general.specs.Sets.{has_one}
use Rattle.pairs.proofs.Seeing.{sees_all_go, sees_all_end}
use Rattle.pairs.proofs.see_chunk.Goals as goal

pub loop-i-preserved : goal.loop-i-preserved
loop-i-preserved c = sees_all_go c.loop-i.invariant c.gathered_at-g.result c.gathered_at-g.ensures (has_one 8 _ (omega arith)) c.see_clause.ensures

pub returns : goal.returns
returns c = sees_all_end c.loop-i.invariant c.args.chunk.to c.loop-i-test.false
