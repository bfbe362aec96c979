-- `stands_live` meets its contract, by the laws of Gathers.
use Rattle.gather.proofs.Along.{along_known, along_falls}
use Rattle.gather.proofs.Gathers.{looks_begins, looks_finds, looks_goes, looks_ends}
use Rattle.gather.proofs.stands_live.Goals as goal

pub loop-r-init : goal.loop-r-init
loop-r-init c = looks_begins c.requires c.link_of-p.result c.link_of-p.ensures

pub stands_wide-requires-clause-p_le_max_variables : goal.stands_wide-requires-clause-p_le_max_variables
stands_wide-requires-clause-p_le_max_variables c = along_known c.loop-r.invariant.along

pub returns-then-stands_wide : goal.returns-then-stands_wide
returns-then-stands_wide c = looks_finds c.loop-r.invariant (rw c.if-stands_wide.true at c.stands_wide.ensures)

pub returns-then-p-r : goal.returns-then-p-r
returns-then-p-r c = looks_ends c.loop-r.invariant (rw c.if-stands_wide.false at c.stands_wide.ensures) c.if-p-r.true

pub link_of-p-requires-in-loop-r : goal.link_of-p-requires-in-loop-r
link_of-p-requires-in-loop-r c = along_known c.loop-r.invariant.along

pub loop-r-smaller : goal.loop-r-smaller
loop-r-smaller c = along_falls c.loop-r.invariant.along c.if-p-r.false c.link_of-p-in-loop-r.result c.link_of-p-in-loop-r.ensures

pub loop-r-preserved : goal.loop-r-preserved
loop-r-preserved c =
    looks_goes c.loop-r.invariant (rw c.if-stands_wide.false at c.stands_wide.ensures) c.if-p-r.false c.link_of-p-in-loop-r.result c.link_of-p-in-loop-r.ensures
