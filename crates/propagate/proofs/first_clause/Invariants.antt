use Rattle.std.proofs.Common.{◌≡◌}
use Rattle.rules.specs.Rules.{rule_of}
use Rattle.propagate.specs.Code.{first_from, asks_ahead}
use Rattle.propagate.proofs.first_clause.Given as goal

abbrev pub invariant-loop-clause : goal.invariant-loop-clause
invariant-loop-clause l = record {
  can : (goal.iterator-loop-clause).can_next l.clause-iterator;
  finite : (goal.iterator-loop-clause).is_finite l.clause-iterator;
  of : l.clause-iterator.of ≡ l.standing;
  same : asks_ahead (rule_of l.rule) l.clause-iterator ≡ first_from l.standing.table.now l.standing.state.now.values l.rule 1 0;
}
