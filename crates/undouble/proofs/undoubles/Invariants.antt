-- `undoubles`: the clauses before i are done.
use Rattle.undouble.proofs.Along.{Along}
use Rattle.undouble.proofs.undoubles.Given as goal

abbrev pub invariant-loop-i : goal.invariant-loop-i
invariant-loop-i l = Along l.index l.fn.state l.fn.work l.n l.r l.state l.work l.i
