-- The occurrence before is that of the place before.
use Rattle.std.proofs.Common.{◌≡◌, ℕ, suc, ◌+◌}
use Rattle.std.specs.Prelude.{Some}
use Rattle.occurrences.specs.Index.{occurrence_at, first_at}
use Rattle.start.proofs.doubled.Given as goal

abbrev pub invariant-loop-occurrence : goal.invariant-loop-occurrence
invariant-loop-occurrence l = (x : ℕ) → l.before ≡ Some x → (k : ℕ) × (suc k ≡ l.occurrence-index) × (x ≡ occurrence_at l.index (first_at l.index l.p + k))
