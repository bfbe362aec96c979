-- None of the variables passed is open.
use Rattle.list.proofs.Opens.{Passed}
use Rattle.list.proofs.open_variable.Given as goal

abbrev pub invariant-loop-p : goal.invariant-loop-p
invariant-loop-p l = Passed l.state l.from l.n l.p
