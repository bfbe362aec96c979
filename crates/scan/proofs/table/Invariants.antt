use Rattle.std.proofs.Common.{◌-◌, length}
use Rattle.scan.proofs.Tables.{Reached}
use Rattle.scan.proofs.table.Given as goal

abbrev pub invariant-loop-word : goal.invariant-loop-word
invariant-loop-word l = Reached l.text l.variables l.from l.fn.cells l.cells l.at l.used

abbrev pub decreases-loop-word : goal.decreases-loop-word
decreases-loop-word l = length l.text - l.at
