use Rattle.std.proofs.Common.{◌≡◌, length}
use Rattle.clause.specs.Reading.{clause_at}
use Rattle.clause.proofs.LiteralsIterator.next.Given as goal

abbrev pub invariant-loop-i : goal.invariant-loop-i
invariant-loop-i l = record {
  long : l.i-end ≡ length l.table;
  kept : l.self ≡ l.fn.self;
  same : clause_at l.table l.state.values l.i ≡ clause_at l.table l.state.values l.self.at;
}
