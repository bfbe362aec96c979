use Rattle.std.proofs.Common.{◌≡◌}
use Rattle.clause.specs.Literals.{clause_of}
use Rattle.rules.specs.Rules.{pair_rule}
use Rattle.propagate.specs.Code.{asks_ahead}
use Rattle.propagate.proofs.first_partner.Given as goal

abbrev pub invariant-loop-clause : goal.invariant-loop-clause
invariant-loop-clause l = record {
  can : (goal.iterator-loop-clause).can_next l.clause-iterator;
  finite : (goal.iterator-loop-clause).is_finite l.clause-iterator;
  of : l.clause-iterator.of ≡ l.fn.later.of;
  same : asks_ahead (pair_rule l.rule (clause_of l.fn.later.of l.g)) l.clause-iterator ≡ asks_ahead (pair_rule l.rule (clause_of l.fn.later.of l.g)) l.fn.later;
}
