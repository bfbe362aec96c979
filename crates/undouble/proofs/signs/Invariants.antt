-- `signs`: both counts are right so far.
use Rattle.undouble.proofs.Signing.{Signing}
use Rattle.undouble.proofs.signs.Given as goal

abbrev pub invariant-loop-code : goal.invariant-loop-code
invariant-loop-code l = Signing l.index l.state l.g l.r l.code-items l.plus l.minus l.code-index
