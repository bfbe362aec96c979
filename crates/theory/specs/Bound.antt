-- The bound on the splits of a tree.
use Rattle.std.specs.Prelude.{ℕ, zero, suc, ◌+◌}

-- "N(0) = N(1) = N(2) = 0 and N(n) = 1 + N(n-1) + N(n-3)"
unfoldable pub N : ℕ → ℕ
N zero = 0
N (suc zero) = 0
N (suc (suc zero)) = 0
N (suc (suc (suc n))) = 1 + N (suc (suc n)) + N n
