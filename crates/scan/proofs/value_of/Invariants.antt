use Rattle.scan.proofs.Words.{Valued}
use Rattle.scan.proofs.value_of.Given as goal

abbrev pub invariant-loop-byte : goal.invariant-loop-byte
invariant-loop-byte l = Valued l.limit l.fn.word l.value l.byte-index
