-- A turn takes one variable.
use Rattle.start.specs.Signs.{Listing}
use Rattle.start.proofs.list_all.Given as goal

abbrev pub invariant-loop-p : goal.invariant-loop-p
invariant-loop-p l = Listing l.index l.fn.work l.work l.end l.p
