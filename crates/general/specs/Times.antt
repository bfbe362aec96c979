-- How often a number stands in a list.
use Rattle.std.specs.Prelude.{◌≡◌, List, [], ◌∷◌, ℕ, zero, suc, ◌+◌, eqb}
use Rattle.std.proofs.Common.{arith}
use Rattle.general.specs.Booleans.{bit}
use Rattle.general.specs.Lists.{from}

unfoldable pub times : ℕ → List ℕ → ℕ
times k [] = 0
times k (o ∷ l) = bit (eqb o k) + times k l

-- one more at the end of a list made from a function
pub times_snoc : (k : ℕ) (f : ℕ → ℕ) (a n : ℕ) → times k (from f a (suc n)) ≡ times k (from f a n) + bit (eqb (f (a + n)) k)
unfolding from times
times_snoc k f a zero = let e : a + 0 ≡ a = omega arith in rw e (omega arith)
times_snoc k f a (suc n) = let e : a + suc n ≡ suc a + n = omega arith in rw e (omega (arith, times_snoc k f (suc a) n))
