-- What the loop of `stands_wide` keeps.
use Rattle.std.proofs.Common.{◌<◌}
use Rattle.gather.proofs.Waits.{Waits}
use Rattle.gather.proofs.stands_wide.Given as goal

abbrev pub invariant-loop-occurrence : goal.invariant-loop-occurrence
invariant-loop-occurrence l = Waits l.index l.state (λ k. k < 2) (λ g. ⊥) l.occurrence-items l.occurrence-index
