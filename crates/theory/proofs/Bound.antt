-- The bound N grows with the number of open variables, and pays for a branch: one variable fewer on one side, three on the other.
use mathlib.Core.Path.{◌≡◌, refl}
use mathlib.Core.List.{[], ◌∷◌, map}
use Prim.Native.Nat.{ℕ, zero, suc, ◌+◌, ◌-◌, ◌≤◌}
use native.Mathlib.Omega.{arith}
use native.Mathlib.Nat.{add-zero, add-suc, le_refl}
use Rattle.theory.specs.Bound.{N}

N_step : (n : ℕ) → N n ≤ N (suc n)
unfolding N
N_step zero = omega arith
N_step (suc zero) = omega arith
N_step (suc (suc zero)) = omega arith
N_step (suc (suc (suc n))) = omega arith

N_add : (n k : ℕ) → N n ≤ N (n + k)
N_add n zero = rw add-zero (le_refl _)
N_add n (suc k) = rw add-suc (omega (arith, N_step (n + k), N_add n k))

pub N_mono : (m n : ℕ) → m ≤ n → N m ≤ N n
N_mono m n h = let e : n ≡ m + (n - m) = omega arith in rw e (N_add m (n - m))

pub N_branch : (n a b : ℕ) → a + 1 ≤ n → b + 3 ≤ n → 1 + N a + N b ≤ N n
unfolding N
N_branch zero a b p q = absurd (omega arith)
N_branch (suc zero) a b p q = absurd (omega arith)
N_branch (suc (suc zero)) a b p q = absurd (omega arith)
N_branch (suc (suc (suc n))) a b p q = omega (arith, N_mono a (suc (suc n)) (omega arith), N_mono b n (omega arith))

-- "So N(3) to N(8) are 1, 2, 3, 5, 8, 12."
pub N_values : map N (3 ∷ 4 ∷ 5 ∷ 6 ∷ 7 ∷ 8 ∷ []) ≡ 1 ∷ 2 ∷ 3 ∷ 5 ∷ 8 ∷ 12 ∷ []
unfolding N
N_values = refl
