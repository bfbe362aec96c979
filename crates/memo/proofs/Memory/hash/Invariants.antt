-- `hash`: the sum stays in its range.
use Rattle.std.proofs.Common.{◌≤◌, ◌*◌}
use Rattle.memo.specs.Memory.{share_most}
use Rattle.memo.proofs.Memory.hash.Given as goal

abbrev pub invariant-loop-j : goal.invariant-loop-j
invariant-loop-j l = l.sum ≤ share_most * l.j
