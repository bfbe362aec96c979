use Rattle.std.proofs.Common.{◌≡◌, ◌-◌, length}
use Rattle.propagate.specs.Code.{first_of_pairs, pairs_ahead}
use Rattle.propagate.specs.Partners.{Noted}
use Rattle.propagate.proofs.first_pair.Given as goal

abbrev pub invariant-loop-g : goal.invariant-loop-g
invariant-loop-g l = record {
  of : l.clauses.of ≡ l.standing;
  same : pairs_ahead l.rule l.clauses ≡ first_of_pairs l.standing.table.now l.standing.state.now.values l.rule;
  noted : Noted l.standing.table.now l.standing.state.now.values l.rule l.alone;
}

abbrev pub decreases-loop-g : goal.decreases-loop-g
decreases-loop-g l = length l.clauses.of.table.now - l.clauses.at
