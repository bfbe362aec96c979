-- The clauses that are left give what all give.
use Rattle.std.proofs.Common.{◌∙◌}
use Rattle.rules.specs.Rules.{rule_of}
use Rattle.propagate.proofs.Scanning.{ahead_asks, ahead_passes, ahead_end}
use Rattle.propagate.proofs.first_clause.Goals as goal

pub returns-in-Some-asks : goal.returns-in-Some-asks
returns-in-Some-asks c =
    let k = c.loop-clause.invariant in
    ahead_asks c.in-Some.ensures.steps (rule_of c.args.rule) (rw k.of (rw c.in-Some-asks.is at c.asks.ensures)) ∙ k.same

pub loop-clause-preserved : goal.loop-clause-preserved
loop-clause-preserved c =
    let k = c.loop-clause.invariant in
    let p = c.in-Some.ensures.steps in
    record { can = tt; finite = tt; of = p.same ∙ k.of; same = ahead_passes p (rule_of c.args.rule) (rw k.of (rw c.in_default.is at c.asks.ensures)) ∙ k.same }

pub returns : goal.returns
returns c = ahead_end c.loop-clause.clause-iterator c.in-None.ensures.steps (rule_of c.args.rule) ∙ c.loop-clause.invariant.same
