-- What the memo learns at the end of a split.
use Rattle.std.specs.Prelude.{◌≡◌, ℕ, Option}
use Rattle.receipt.specs.declared.Outcome.{Outcome}
use Rattle.receipt.specs.declared.Outcome.TheVariants.{LaidOut, NoLayout, Stopped}
use Rattle.memo.specs.declared.Memory.{Memory}
use Rattle.memo.specs.Memory.{KeepOf}

-- c splits, where the second side has no layout; nothing where it has one or is stopped
abbrev pub LearnOf : (n c : ℕ) (m m' : Memory) → Option ℕ → Outcome → Type 0
LearnOf n c m m' held LaidOut = m' ≡ m
LearnOf n c m m' held NoLayout = KeepOf n c m m' held
LearnOf n c m m' held Stopped = m' ≡ m
