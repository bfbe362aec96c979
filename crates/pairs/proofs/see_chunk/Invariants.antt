use Rattle.pairs.specs.Seen.{SeenAll}
use Rattle.pairs.proofs.see_chunk.Given as goal

abbrev pub invariant-loop-i : goal.invariant-loop-i
invariant-loop-i l = SeenAll l.index l.state l.work l.initial.i l.i l.seen
