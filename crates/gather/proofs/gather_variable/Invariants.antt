-- What the loop of `gather_variable` keeps.
use Rattle.gather.proofs.Collects.{Collects}
use Rattle.gather.proofs.gather_variable.Given as goal

abbrev pub invariant-loop-occurrence : goal.invariant-loop-occurrence
invariant-loop-occurrence l = Collects l.index l.state l.fn.work l.start l.sign l.occurrence-items l.work l.end l.occurrence-index
