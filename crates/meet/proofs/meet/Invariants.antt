use Rattle.meet.proofs.Reading.{Meets}
use Rattle.meet.proofs.meet.Given as goal

abbrev pub invariant-loop-code : goal.invariant-loop-code
invariant-loop-code l = Meets l.index l.state l.marks l.h l.code-items l.common l.crossing l.again l.code-index
