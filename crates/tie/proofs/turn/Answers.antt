use Rattle.tie.proofs.Turns.{turning_begins, turning_falls, turning_ends, turning_goes}
use Rattle.tie.proofs.turn.Goals as goal

pub loop-p-init : goal.loop-p-init
loop-p-init c = turning_begins c.requires

pub returns-then-p-root : goal.returns-then-p-root
returns-then-p-root c = turning_ends c.requires c.loop-p.invariant c.value_of-v.ensures c.turned.ensures c.set_value.ensures c.link_of-p.ensures c.if-p-root.true

pub loop-p-smaller : goal.loop-p-smaller
loop-p-smaller c = turning_falls c.requires c.loop-p.invariant c.value_of-v.ensures c.turned.ensures c.set_value.ensures

pub loop-p-preserved : goal.loop-p-preserved
loop-p-preserved c = turning_goes c.requires c.loop-p.invariant c.value_of-v.ensures c.turned.ensures c.set_value.ensures c.link_of-p.ensures c.if-p-root.false
