use Rattle.std.proofs.Common.{◌≡◌}
use Rattle.propagate.specs.Partners.{Kept}
use Rattle.propagate.proofs.Partners.{PartedFrom}
use Rattle.propagate.proofs.part_all.Given as goal

abbrev pub invariant-loop-h : goal.invariant-loop-h
invariant-loop-h l = record {
  can : (goal.iterator-loop-h).can_next l.h-iterator;
  finite : (goal.iterator-loop-h).is_finite l.h-iterator;
  table : l.h-iterator.of.table.now ≡ l.standing.table.now;
  kept : Kept (PartedFrom l.standing.table.now l.before.values l.standing.state.now.values l.rule l.y l.h-iterator.at) l.fn.alone l.alone;
}
