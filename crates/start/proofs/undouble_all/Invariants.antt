-- A turn takes one variable.
use Rattle.start.specs.Undoubling.{UndoubledBelow}
use Rattle.start.proofs.undouble_all.Given as goal

abbrev pub invariant-loop-r : goal.invariant-loop-r
invariant-loop-r l = UndoubledBelow l.index l.fn.state l.fn.work l.state l.work l.r
