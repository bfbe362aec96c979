-- By the laws of Reading and Meeting.
use Rattle.meet.proofs.Meeting.{none_crosses, one_alone}
use Rattle.meet.proofs.Reading.{meet_begins, meet_goes, met_all}
use Rattle.meet.proofs.meet.Goals as goal

pub loop-code-init : goal.loop-code-init
loop-code-init c = meet_begins c.requires.readable c.literals_of-code-items.ensures

pub loop-code-preserved : goal.loop-code-preserved
loop-code-preserved c =
    meet_goes c.requires.readable c.literals_of-code-items.ensures c.loop-code.invariant c.loop-code-test.true c.requires.marks_value
    c.value_of_code-v.ensures c.mark_of-mark.ensures c.opposite-across.ensures c.choose-common.ensures c.choose-again.ensures c.choose-crossing.ensures

pub returns-then-crossing-eq0 : goal.returns-then-crossing-eq0
returns-then-crossing-eq0 c =
    let r = c.requires.readable in
    none_crosses _ _ r.wide _ (met_all r c.literals_of-code-items.ensures c.loop-code.invariant c.loop-code-test.false) c.if-crossing-eq0.true

pub returns-then-again-eq0 : goal.returns-then-again-eq0
returns-then-again-eq0 c =
    let r = c.requires.readable in
    one_alone _ _ r.wide _ (met_all r c.literals_of-code-items.ensures c.loop-code.invariant c.loop-code-test.false) c.if-common-ne0.false c.if-again-eq0.true
