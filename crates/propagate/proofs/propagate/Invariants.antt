use Rattle.std.proofs.Common.{length, ◌≡◌, ◌+◌}
use Rattle.literal.specs.Literal.{max_variables}
use Rattle.theory.specs.Formula.{clauses}
use Rattle.theory.specs.State.{opens, WellFormed}
use Rattle.theory.specs.Reasons.{explained, unexplained, explain}
use Rattle.state.specs.State.{state_of}
use Rattle.propagate.specs.Code.{reasons_of}
use Rattle.propagate.specs.Partners.{NotedOf}
use Rattle.propagate.proofs.propagate.Given as goal

abbrev pub invariant-loop-asked : goal.invariant-loop-asked
invariant-loop-asked l = record {
  well : WellFormed l.n (state_of l.state.values);
  same :
      explain l.n (clauses l.table) (explained (state_of l.state.values) (reasons_of l.reasons))
      ≡ explain l.n (clauses l.table) (unexplained (state_of l.fn.start.values));
  room : length l.reasons ≡ max_variables + 1;
  noted : NotedOf l.table l.state.values l.alone;
}

abbrev pub decreases-loop-asked : goal.decreases-loop-asked
decreases-loop-asked l = opens (state_of l.state.values) l.n
