use Rattle.tie.proofs.Stamping.{Stamping}
use Rattle.tie.proofs.stamp_variable.Given as goal

abbrev pub invariant-loop-occurrence : goal.invariant-loop-occurrence
invariant-loop-occurrence l = Stamping l.index l.fn.stamps l.p l.stamps l.occurrence-index
