use Rattle.pairs.specs.Seen.{FirstRow}
use Rattle.pairs.proofs.first_row.Given as goal

abbrev pub invariant-loop-i : goal.invariant-loop-i
invariant-loop-i l = FirstRow l.index l.state l.work l.seen l.from l.to l.i
