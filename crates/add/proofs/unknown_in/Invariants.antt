-- What is left of the list gives the same answer as the whole.
use Rattle.std.proofs.Common.{◌≡◌, ◌+◌, drop}
use Rattle.theory.specs.Calls.{unknown_in}
use Rattle.add.proofs.unknown_in.Given as goal

abbrev pub invariant-loop-i : goal.invariant-loop-i
invariant-loop-i l = unknown_in (l.at + l.i) l.clause.0 l.n (drop l.i l.group) ≡ unknown_in l.at l.clause.0 l.n l.group
