use Rattle.std.proofs.Common.{◌≡◌, drop}
use Rattle.theory.specs.Formula.{clauses}
use Rattle.theory.specs.Propagation.{step}
use Rattle.state.specs.State.{state_of}
use Rattle.propagate.proofs.Lowest.{lowest}
use Rattle.propagate.proofs.ask.Given as goal

abbrev pub invariant-loop-rule : goal.invariant-loop-rule
invariant-loop-rule l =
    lowest l.standing.table.now l.standing.state.now.values (drop l.rule-index l.rule-items) ≡ step (clauses l.standing.table.now) (state_of l.standing.state.now.values)
