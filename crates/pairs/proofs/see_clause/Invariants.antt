use Rattle.pairs.proofs.Seeing.{Sees}
use Rattle.pairs.proofs.see_clause.Given as goal

abbrev pub invariant-loop-code : goal.invariant-loop-code
invariant-loop-code l = Sees l.state l.code-items l.fn.seen l.set l.seen l.code-index
