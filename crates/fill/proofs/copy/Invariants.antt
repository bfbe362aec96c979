use Rattle.std.proofs.Common.{take}
use Rattle.general.specs.Runs.{Writing}
use Rattle.fill.proofs.copy.Given as goal

abbrev pub invariant-loop-i : goal.invariant-loop-i
invariant-loop-i g l = Writing l.at l.n (take l.n l.from) l.fn.list l.list l.i
