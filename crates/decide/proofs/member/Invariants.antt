-- `member`: the occurrences so far are taken in.
use Rattle.decide.specs.Members.{ended}
use Rattle.decide.proofs.Walking.{Walking}
use Rattle.decide.proofs.member.Given as goal

abbrev pub invariant-loop-occurrence : goal.invariant-loop-occurrence
invariant-loop-occurrence l = Walking l.index l.initial.state (ended l.from l.fn.work) l.p l.to l.occurrence-items l.state (ended l.end l.work) l.occurrence-index
