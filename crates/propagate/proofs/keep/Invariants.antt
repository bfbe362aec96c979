use Rattle.std.proofs.Common.{true, take}
use Rattle.propagate.proofs.Keeping.{Keeping}
use Rattle.propagate.proofs.keep.Given as goal

abbrev pub invariant-loop-i : goal.invariant-loop-i
invariant-loop-i g l = Keeping (λ j. goal.F-post g l.stays j true) (take l.n l.fn.alone) l.noted-items l.i
