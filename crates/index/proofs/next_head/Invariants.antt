-- What is passed of the group, and the elements that are left, give the same head in every turn.
use Rattle.std.proofs.Common.{◌≡◌, ◌≤◌, ◌-◌, max, length, drop}
use Rattle.index.specs.Index.{next_from, next_head}
use Rattle.index.proofs.next_head.Given as goal

abbrev pub invariant-loop-i : goal.invariant-loop-i
invariant-loop-i l = (l.i ≤ max (length l.table) l.at) × (next_from l.at (l.i - l.at) (drop l.i l.table) ≡ next_head l.table l.at)
