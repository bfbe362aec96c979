-- `gather_stretch` meets its contract, by the laws of Gathers.
use Rattle.gather.proofs.Along.{along_known, along_falls}
use Rattle.gather.proofs.Gathers.{gathers_begins, gathers_asks, gathers_goes, gathers_ends}
use Rattle.gather.proofs.gather_stretch.Goals as goal

pub loop-p-init : goal.loop-p-init
loop-p-init c = gathers_begins c.requires

pub gather_variable-end-requires : goal.gather_variable-end-requires
gather_variable-end-requires c = gathers_asks c.loop-p.invariant

pub returns-then-p-last : goal.returns-then-p-last
returns-then-p-last c = gathers_ends c.loop-p.invariant c.gather_variable-end.ensures c.if-p-last.true

pub link_of-p-requires : goal.link_of-p-requires
link_of-p-requires c = along_known c.loop-p.invariant.along

pub loop-p-smaller : goal.loop-p-smaller
loop-p-smaller c = along_falls c.loop-p.invariant.along c.if-p-last.false c.link_of-p.result c.link_of-p.ensures

pub loop-p-preserved : goal.loop-p-preserved
loop-p-preserved c = gathers_goes c.loop-p.invariant c.gather_variable-end.ensures c.if-p-last.false c.link_of-p.result c.link_of-p.ensures
