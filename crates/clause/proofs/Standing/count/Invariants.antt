use Rattle.std.proofs.Common.{◌≡◌, ◌+◌, length}
use Rattle.clause.specs.Literals.{clause_of, left}
use Rattle.clause.proofs.Counting.{Counting}
use Rattle.clause.proofs.Standing.count.Given as goal

abbrev pub invariant-loop-x : goal.invariant-loop-x
invariant-loop-x l = record {
  can : (goal.iterator-loop-x).can_next l.x-iterator;
  finite : (goal.iterator-loop-x).is_finite l.x-iterator;
  low : length l.yielded + length (left l.x-iterator) ≡ length (clause_of l.fn.self l.at);
  counting : Counting l.by_code (length l.yielded) (left l.x-iterator) (clause_of l.fn.self l.at);
}
