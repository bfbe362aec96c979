-- A turn counts one clause.
use Rattle.std.proofs.Common.{◌≡◌, ◌≤◌}
use Rattle.literal.specs.Literal.{max_clauses}
use Rattle.start.specs.Counting.{CountedBelow}
use Rattle.start.proofs.count_all.Given as goal

abbrev pub invariant-loop-g : goal.invariant-loop-g
invariant-loop-g l = CountedBelow l.index l.state l.work l.end l.g
