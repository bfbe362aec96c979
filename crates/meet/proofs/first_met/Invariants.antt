use Rattle.meet.proofs.Compares.{Compares}
use Rattle.meet.proofs.first_met.Given as goal

abbrev pub invariant-loop-i : goal.invariant-loop-i
invariant-loop-i l = Compares l.index l.state l.work l.g l.from l.to l.marks l.i
