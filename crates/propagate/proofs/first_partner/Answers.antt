-- The clauses that are left give what all later ones give.
use Rattle.std.proofs.Common.{◌≡◌, sym, ◌∙◌}
use Rattle.clause.specs.Literals.{clause_of, clauses_of}
use Rattle.rules.specs.Rules.{pair_rule}
use Rattle.propagate.proofs.Scanning.{ahead_asks, ahead_passes, ahead_end, no_partner}
use Rattle.propagate.proofs.first_partner.Goals as goal
use Rattle.propagate.proofs.first_partner.Goals.{After-asks}

pub returns-then-not-live : goal.returns-then-not-live
returns-then-not-live c =
    let s = c.args.later in
    sym (no_partner c.args.rule _ (sym c.live.ensures ∙ c.if-not-live.true) s.clause.0 (clauses_of s.of s.at))

asked : (c : After-asks) → c.asks.result ≡ pair_rule c.args.rule (clause_of c.args.later.of c.args.g) (clause_of c.loop-clause.clause-iterator.of c.in-Some.h)
asked c = rw (c.loop-clause.invariant.of, ← c.count-counted.ensures.of, ← c.count-counted.ensures.at) c.asks.ensures

pub returns-in-Some-asks : goal.returns-in-Some-asks
returns-in-Some-asks c =
    ahead_asks c.in-Some.ensures.steps (pair_rule c.args.rule (clause_of c.args.later.of c.args.g)) (rw c.in-Some-asks.is at (asked (goal.at.returns-in-Some-asks c).After-asks))
    ∙ c.loop-clause.invariant.same

pub loop-clause-preserved : goal.loop-clause-preserved
loop-clause-preserved c =
    let p = c.in-Some.ensures.steps in
    record {
      can = tt;
      finite = tt;
      of = p.same ∙ c.loop-clause.invariant.of;
      same =
          ahead_passes p (pair_rule c.args.rule (clause_of c.args.later.of c.args.g)) (rw c.in_default.is at (asked (goal.at.loop-clause-preserved c).After-asks))
          ∙ c.loop-clause.invariant.same;
    }

pub returns : goal.returns
returns c =
    ahead_end c.loop-clause.clause-iterator c.in-None.ensures.steps (pair_rule c.args.rule (clause_of c.args.later.of c.args.g)) ∙ c.loop-clause.invariant.same
