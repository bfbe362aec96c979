use Rattle.gather.proofs.Along.{along_known, along_falls}
use Rattle.tie.proofs.Stamping.{stamps_begin, stamps_go, stamps_end}
use Rattle.tie.proofs.stamp_class.Goals as goal

pub loop-p-init : goal.loop-p-init
loop-p-init c = stamps_begin c.requires c.link_of-p.ensures

pub stamp_variable-requires-clause-p_le_max_variables : goal.stamp_variable-requires-clause-p_le_max_variables
stamp_variable-requires-clause-p_le_max_variables c = along_known c.loop-p.invariant.along

pub returns-then-p-r : goal.returns-then-p-r
returns-then-p-r c = stamps_end c.loop-p.invariant c.stamp_variable.ensures c.if-p-r.true

pub link_of-p-requires-in-loop-p : goal.link_of-p-requires-in-loop-p
link_of-p-requires-in-loop-p c = along_known c.loop-p.invariant.along

pub loop-p-smaller : goal.loop-p-smaller
loop-p-smaller c = along_falls c.loop-p.invariant.along c.if-p-r.false c.link_of-p-in-loop-p.result c.link_of-p-in-loop-p.ensures

pub loop-p-preserved : goal.loop-p-preserved
loop-p-preserved c = stamps_go c.loop-p.invariant c.stamp_variable.ensures c.if-p-r.false c.link_of-p-in-loop-p.ensures
