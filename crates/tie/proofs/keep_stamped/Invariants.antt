use Rattle.tie.specs.Keeping.{Stamped, Kept}
use Rattle.tie.proofs.keep_stamped.Given as goal

abbrev pub invariant-loop-i : goal.invariant-loop-i
invariant-loop-i l = Kept (Stamped l.stamps) l.fn.work l.i l.work l.end
