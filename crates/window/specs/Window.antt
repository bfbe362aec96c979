-- What code puts on the receipt, and a call of the window: its answer, and the lists after it.
use Rattle.std.specs.Prelude.{List, ℕ, ◌+◌, ◌/◌, ◌%◌, set}
use Rattle.theory.specs.Calls.{WindowCall}

-- the four bytes of a number from an index on
abbrev pub put4 : ℕ → ℕ → List ℕ → List ℕ
put4 i v l = set (set (set (set l i (v / 16777216)) (i + 1) (v / 65536 % 256)) (i + 2) (v / 256 % 256)) (i + 3) (v % 256)

abbrev pub called : ℕ → List ℕ → List ℕ → WindowCall
called r plan receipt = record { number = r; plan = plan; receipt = receipt }
