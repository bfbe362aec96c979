use Rattle.pairs.proofs.Touching.{Touches}
use Rattle.pairs.proofs.may_meet.Given as goal

abbrev pub invariant-loop-code : goal.invariant-loop-code
invariant-loop-code l = Touches l.state l.code-items l.seen l.crossed l.once l.twice l.code-index
