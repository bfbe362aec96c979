use Rattle.meet.proofs.Reading.{Marking}
use Rattle.meet.proofs.mark_clause.Given as goal

abbrev pub invariant-loop-code : goal.invariant-loop-code
invariant-loop-code l = Marking l.index l.state l.g l.code-items l.marks l.code-index
