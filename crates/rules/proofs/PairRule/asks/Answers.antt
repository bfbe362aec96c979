-- Where nothing is asked the rule does not fit, and both rules look at live clauses.
use Rattle.std.proofs.Common.{◌≡◌, ◌∙◌}
use Rattle.general.specs.Booleans.{cond_same}
use Rattle.clause.specs.Literals.{clause_of, counted}
use Rattle.rules.specs.Rules.{pair_step}
use Rattle.rules.proofs.Pairs.{pair_live}
use Rattle.rules.proofs.PairRule.asks.Goals as goal
use Rattle.rules.proofs.PairRule.asks.Goals.{After-pair_step}

step : (c : After-pair_step) → c.pair_step.result ≡ pair_step c.args.self (counted c.args.g.now) (clause_of c.args.g.now.of c.args.h)
step c = rw (c.count.ensures.of, c.count.ensures.at) at c.pair_step.ensures

pub returns-then-not-may_fit : goal.returns-then-not-may_fit
returns-then-not-may_fit c = rw (pair_live, c.may_fit.ensures c.if-not-may_fit.true, cond_same)

pub returns-in_err-asked : goal.returns-in_err-asked
returns-in_err-asked c = c.from_residual.ensures ∙ rw (pair_live, ← step (goal.at.returns-in_err-asked c).After-pair_step, c.in_err-asked.was, cond_same)

pub returns-then-live-2 : goal.returns-then-live-2
returns-then-live-2 c =
    rw (pair_live, ← c.live.ensures, c.if-live.true, ← c.live-then-live.ensures, c.if-live-2.true, ← step (goal.at.returns-then-live-2 c).After-pair_step, c.in_ok-asked.was)
