use Rattle.std.proofs.Common.{◌≡◌, ◌++◌, replicate, drop}
use Rattle.fill.proofs.clear.Given as goal

abbrev pub invariant-loop-element : goal.invariant-loop-element
invariant-loop-element g l = l.element-items ≡ replicate l.element-index l.zero ++ drop l.element-index l.initial.element-items
