-- The heads stored so far, and those of the groups from `at` on, are the heads of the table.
use Rattle.std.proofs.Common.{◌≡◌, ◌-◌, ◌++◌, take}
use Rattle.index.specs.Index.{heads_at}
use Rattle.index.proofs.index.Given as goal

abbrev pub invariant-loop-head : goal.invariant-loop-head
invariant-loop-head l = take l.head-index l.head-items ++ heads_at (l.due - l.head-index) l.table l.at ≡ heads_at l.due l.table 0
