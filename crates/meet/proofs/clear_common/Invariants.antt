use Rattle.meet.proofs.Sharing.{Shares}
use Rattle.meet.proofs.clear_common.Given as goal

abbrev pub invariant-loop-code : goal.invariant-loop-code
invariant-loop-code l = Shares l.index l.fn.state l.fn.work l.g l.h l.marks l.code-items l.state l.work l.code-index
