use Rattle.meet.proofs.Reading.{mark_begins, mark_goes, mark_ends}
use Rattle.meet.proofs.mark_clause.Goals as goal

pub loop-code-init : goal.loop-code-init
loop-code-init c = mark_begins c.requires c.literals_of-code-items.ensures

pub loop-code-preserved : goal.loop-code-preserved
loop-code-preserved c = mark_goes c.requires c.literals_of-code-items.ensures c.loop-code.invariant c.loop-code-test.true c.value_of_code-v.ensures

pub returns : goal.returns
returns c = mark_ends c.requires c.literals_of-code-items.ensures c.loop-code.invariant c.loop-code-test.false
