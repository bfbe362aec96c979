-- `is_key`: no difference so far says that the words so far are the key's.
use Rattle.std.proofs.Common.{◌≡◌, ◌+◌, ◌≤◌}
use Rattle.memo.proofs.Keys.{KeyedTo}
use Rattle.memo.proofs.is_key.Given as goal

abbrev pub invariant-loop-j : goal.invariant-loop-j
invariant-loop-j l = (l.differences ≤ l.j + 1) × (l.differences ≡ 0 → KeyedTo l.p l.base l.state l.slots l.j)
