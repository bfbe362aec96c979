-- The state so far, taken on over what is left of the part, is the state after the part.
use Rattle.std.proofs.Common.{◌≡◌, drop}
use Rattle.table.specs.Pass.{after}
use Rattle.table.proofs.Pass.after.Given as goal

abbrev pub invariant-loop-entry : goal.invariant-loop-entry
invariant-loop-entry l = after l.pass (drop l.entry-index l.part) ≡ after l.fn.self l.fn.part
