-- None of the variables passed stands in a live clause.
use Rattle.walk.proofs.Branches.{Passed}
use Rattle.walk.proofs.branch_variable.Given as goal

abbrev pub invariant-loop-p : goal.invariant-loop-p
invariant-loop-p l = Passed l.index l.state l.from l.n l.p
