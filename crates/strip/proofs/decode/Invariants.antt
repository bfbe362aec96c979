-- By the laws of Reached.
use Rattle.std.proofs.Common.{length, ◌-◌}
use Rattle.strip.proofs.Reached.{Reached}
use Rattle.strip.proofs.decode.Given as goal

abbrev pub invariant-loop-at : goal.invariant-loop-at
invariant-loop-at l = Reached l.strip l.room l.at l.used l.progress l.cells l.mentioned

abbrev pub decreases-loop-at : goal.decreases-loop-at
decreases-loop-at l = length l.strip - l.at
