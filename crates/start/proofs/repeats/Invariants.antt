-- The occurrences passed are each in a later clause than the one before.
use Rattle.occurrences.specs.Index.{occurrence_at, first_at}
use Rattle.start.proofs.Repeating.{Rising}
use Rattle.start.proofs.repeats.Given as goal

abbrev pub invariant-loop-occurrence : goal.invariant-loop-occurrence
invariant-loop-occurrence l = Rising (occurrence_at l.index) (first_at l.index l.p) l.occurrence-index l.next
