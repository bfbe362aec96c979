-- By the laws of Touching.
use Rattle.std.proofs.Common.{refl}
use Rattle.pairs.proofs.Touching.{touches_go, touches_end, touches_narrow}
use Rattle.pairs.proofs.may_meet.Goals as goal

pub returns-then-not-wide : goal.returns-then-not-wide
returns-then-not-wide c = touches_narrow c.args.seen.now c.requires c.count_of.result c.wide.result c.count_of.ensures c.wide.ensures c.if-not-wide.true

pub loop-code-preserved : goal.loop-code-preserved
loop-code-preserved c = touches_go c.loop-code.invariant c.value_of_code-v.result c.opposite.result c.value_of_code-v.ensures c.opposite.ensures _ _ refl refl

pub returns : goal.returns
returns c = touches_end c.loop-code.invariant c.requires c.literals_of-code-items.ensures c.loop-code-test.false
