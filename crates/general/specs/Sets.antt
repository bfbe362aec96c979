-- A number as the set of the places of its binary digits that are 1.
use Rattle.std.specs.Prelude.{◌≡◌, ℕ, ◌*◌, ◌/◌, ◌%◌, ◌^◌, ◌<◌}
use Rattle.std.proofs.Common.{arith, mod-eq_of_lt}
use Rattle.std.specs.Int.Bits.{bit_and, bit_or, and_step, or_step}
use Rattle.std.proofs.lemmas.Nat.{and_shr, or_shr, shl-shr, shr_le}
use Rattle.std.proofs.Math.Pow.{pow-lt}

abbrev pub Has : ℕ → ℕ → Type 0
Has w k = w / 2 ^ k % 2 ≡ 1

pub has_or_left : (a b k : ℕ) → Has a k → Has (bit_or a b) k
has_or_left a b k h = rw (or_shr a b k, or_step (a / 2 ^ k) (b / 2 ^ k), h) (omega arith)

pub has_or_right : (a b k : ℕ) → Has b k → Has (bit_or a b) k
has_or_right a b k h = rw (or_shr a b k, or_step (a / 2 ^ k) (b / 2 ^ k), h) (omega arith)

pub has_and : (a b k : ℕ) → Has a k → Has b k → Has (bit_and a b) k
has_and a b k g h = rw (and_shr a b k, and_step (a / 2 ^ k) (b / 2 ^ k), g, h) (omega arith)

-- the set of one place, in a word of w digits
pub has_one : (w k : ℕ) → k < w → Has (1 * 2 ^ k % 2 ^ w) k
has_one w k h = let e : 1 * 2 ^ k % 2 ^ w ≡ 1 * 2 ^ k = mod-eq_of_lt (omega (arith, pow-lt h)) in rw (e, shl-shr 1 k) (omega arith)

pub has_none : (k : ℕ) → ¬ Has 0 k
has_none k h = let z : 0 / 2 ^ k ≡ 0 = omega (arith, shr_le 0 k) in omega (arith, rw z at h)
