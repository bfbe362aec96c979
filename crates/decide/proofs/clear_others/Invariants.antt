-- `clear_others`: the codes of the clause before the index are done.
use Rattle.decide.proofs.Clearing.{Along}
use Rattle.decide.proofs.clear_others.Given as goal

abbrev pub invariant-loop-code : goal.invariant-loop-code
invariant-loop-code l = Along l.index l.fn.state l.fn.work l.g l.kept l.code-items l.state l.work l.code-index
