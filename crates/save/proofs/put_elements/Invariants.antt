-- By the laws of Elements.
use Rattle.save.proofs.Elements.{Reached}
use Rattle.save.proofs.put_elements.Given as goal

abbrev pub invariant-loop-entry : goal.invariant-loop-entry
invariant-loop-entry l = Reached l.table l.fn.strip l.at l.strip l.next l.inside l.entry-index
