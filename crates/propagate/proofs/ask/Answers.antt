-- One rule after the other.
use Rattle.std.proofs.Common.{sym, ◌∙◌}
use Rattle.propagate.proofs.Lowest.{lowest_step, lowest_here, lowest_later, lowest_pairs}
use Rattle.propagate.proofs.ask.Goals as goal

pub loop-rule-init : goal.loop-rule-init
loop-rule-init c = lowest_step c.args.standing.table.now c.args.standing.state.now.values

pub returns-in-Some-clause-says : goal.returns-in-Some-clause-says
returns-in-Some-clause-says c = lowest_here _ _ _ _ _ c.loop-rule-test.true (rw c.in-Some.is at c.first_clause.ensures) ∙ c.loop-rule.invariant

pub loop-rule-preserved : goal.loop-rule-preserved
loop-rule-preserved c = lowest_later _ _ _ _ _ c.loop-rule-test.true (rw c.in_default.is at c.first_clause.ensures) ∙ c.loop-rule.invariant

pub returns-in-Some-first_pair-clause-says : goal.returns-in-Some-first_pair-clause-says
returns-in-Some-first_pair-clause-says c = rw (← (rw c.in-Some-first_pair.is at c.first_pair.ensures.says)) at (sym (lowest_pairs _ _ _ _ c.loop-rule-test.false) ∙ c.loop-rule.invariant)

pub returns-clause-says : goal.returns-clause-says
returns-clause-says c =
    c.first_pair-2.ensures.says ∙ rw (← (rw c.in_default-first_pair.is at c.first_pair.ensures.says)) at (sym (lowest_pairs _ _ _ _ c.loop-rule-test.false) ∙ c.loop-rule.invariant)
