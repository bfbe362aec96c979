use Rattle.engine.proofs.Reading.{walk_begins, walk_goes, walk_ends}
use Rattle.engine.proofs.open_place.Goals as goal

pub loop-i-init : goal.loop-i-init
loop-i-init c = walk_begins c.requires

pub loop-i-preserved : goal.loop-i-preserved
loop-i-preserved c = walk_goes c.loop-i.invariant c.value_of_code.result c.value_of_code.ensures c.loop-i-test.true

pub returns : goal.returns
returns c = walk_ends c.loop-i.invariant c.value_of_code.result c.value_of_code.ensures c.loop-i-test.false
