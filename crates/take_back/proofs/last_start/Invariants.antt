-- It goes back from the last 0 to the 0 before it.
use Rattle.theory.proofs.LastGroup.{Back}
use Rattle.take_back.proofs.last_start.Given as goal

abbrev pub invariant-loop-i : goal.invariant-loop-i
invariant-loop-i l = Back l.table l.i
