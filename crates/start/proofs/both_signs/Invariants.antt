-- The occurrences passed have the sign of the first.
use Rattle.std.proofs.Common.{◌≡◌, ℕ, ◌<◌, ◌%◌, get_or}
use Rattle.start.proofs.both_signs.Given as goal

abbrev pub invariant-loop-occurrence : goal.invariant-loop-occurrence
invariant-loop-occurrence l = (k : ℕ) → k < l.occurrence-index → get_or l.occurrences k 0 % 2 ≡ get_or l.occurrences 0 0 % 2
