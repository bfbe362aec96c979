-- By the laws of Seeing.
use Rattle.std.proofs.Common.{arith}
use Rattle.meet.proofs.Reading.{value_low}
use Rattle.pairs.proofs.Seeing.{sees_narrow, sees_go, sees_end}
use Rattle.pairs.proofs.see_clause.Goals as goal

pub returns-then-not-wide : goal.returns-then-not-wide
returns-then-not-wide c = sees_narrow c.args.set c.requires c.count_of.result c.wide.result c.count_of.ensures c.wide.ensures c.if-not-wide.true

pub loop-code-preserved : goal.loop-code-preserved
loop-code-preserved c =
    let r = c.requires in
    let low = value_low r.index r.inside c.literals_of-code-items.ensures c.loop-code-test.true c.args.state.now r.classes c.value_of_code-v.ensures in
    sees_go c.loop-code.invariant (omega arith) c.value_of_code-v.result low c.value_of_code-v.ensures

pub returns : goal.returns
returns c = sees_end c.requires c.literals_of-code-items.ensures c.loop-code.invariant c.loop-code-test.false
