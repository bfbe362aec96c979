-- The next clause begins further on.
use Rattle.std.proofs.Common.{rules, arith}
use Rattle.clause.proofs.Advancing.{Advances, advances}
use Rattle.clause.proofs.ClausesIterator.next.Goals as goal
use Rattle.clause.proofs.ClausesIterator.next.Goals.{After-next_clause-self}

further : (c : After-next_clause-self) → Advances c.args.self.now.of.table.now c.args.self.now.at c.next_clause-self.result
further c = advances c.args.self.now.begins (omega arith) c.next_clause-self.ensures

pub invariant_of-self : goal.invariant_of-self
invariant_of-self c =
    let f = further (goal.at.invariant_of-self c).After-next_clause-self in
    record { begins = f.begins; low = omega (arith, f.further, c.args.self.now.low) }

pub returns-clause-goes : goal.returns-clause-goes
returns-clause-goes c =
    let f = further (goal.at.returns-clause-goes c).After-next_clause-self in
    let inside = f.begins.inside in
    let more = f.further in
    search rules
