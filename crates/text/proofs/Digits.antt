-- The decimal digits of a number: those that io writes, the fewest that hold it; and how many there are.
use mathlib.Core.Path.{◌≡◌}
use mathlib.Core.List.{[], ◌∷◌, ◌++◌}
use Prim.Native.Nat.{ℕ, zero, suc, ◌-◌, ◌/◌, ◌%◌, ◌^◌, ◌≤◌, ◌<◌, zero-le}
use native.Mathlib.Nat.{pow-suc, pow-le-pow_right, mod-eq_of_lt}
use native.Mathlib.Decide.{dec_lt}
use native.Mathlib.Omega.{arith}
use borrow.Author.Tests.{lt-ltb, le-ltb}
use lib.ListN.{length, length-append}
use Rattle.io.specs.Digits.{hex_digit_ascii, last_digits, IsDigitCount}
use Rattle.text.specs.Text.{digit, digits_within, decimal}

one_digit : (f v : ℕ) → v < 10 → digits_within (suc f) v ≡ digit v ∷ []
unfolding digits_within
one_digit f v h = rw (lt-ltb v 10 h, digits_within)

more_digits : (f v : ℕ) → 10 ≤ v → digits_within (suc f) v ≡ digits_within f (v / 10) ++ (digit (v % 10) ∷ [])
unfolding digits_within
more_digits f v h = rw (le-ltb v 10 h, digits_within)

glyph_digit : (d : ℕ) → d < 10 → hex_digit_ascii d ≡ digit d
glyph_digit d h = rw (lt-ltb d 10 h)

less : (k : ℕ) → suc k - 1 ≡ k
less k = omega arith

-- two digits or more
large : (v k : ℕ) → IsDigitCount 10 1 v (suc (suc k)) → 10 ^ suc k ≤ v
large v k h = rw (less (suc k)) at (h.2 (omega arith))

-- and those of v / 10
fewer : (v k : ℕ) → IsDigitCount 10 1 v (suc (suc k)) → IsDigitCount 10 1 (v / 10) (suc k)
fewer v k h = (omega arith, omega (arith, h.1, pow-suc 10 (suc k)), λ l. rw (less k) (omega (arith, large v k h, pow-suc 10 k)))

within : (f v k : ℕ) → v < f → IsDigitCount 10 1 v k → last_digits 10 k v ≡ digits_within f v
within zero v k l h = absurd (omega arith)
within (suc f) v zero l h = absurd (omega (arith, h.0))
within (suc f) v (suc zero) l h =
    let s : v < 10 = h.1 in
    rw (one_digit f v s, mod-eq_of_lt s, glyph_digit v s)
within (suc f) v (suc (suc k)) l h =
    let p : 10 ^ 0 ≤ 10 ^ k = pow-le-pow_right (omega arith) zero-le in
    let s : 10 ≤ v = omega (arith, large v k h, pow-suc 10 k) in
    rw (more_digits f v s, within f (v / 10) (suc k) (omega arith) (fewer v k h), glyph_digit (v % 10) (omega arith))

pub digits_decimal : (v k : ℕ) → IsDigitCount 10 1 v k → last_digits 10 k v ≡ decimal v
unfolding decimal
digits_decimal v k h = within (suc v) v k (omega arith) h

-- a number below 10, 100, .. has at most 1, 2, .. digits
short : (f v k : ℕ) → v < 10 ^ suc k → length (digits_within f v) ≤ suc k
unfolding digits_within
short zero v k h = omega arith
short (suc f) v zero h = rw (one_digit f v h) (omega arith)
short (suc f) v (suc k) h = elim (dec_lt v 10) [
  | yes s ↦ rw (one_digit f v s) (omega arith)
  | no s ↦ rw (more_digits f v (omega arith), length-append) (omega (arith, short f (v / 10) k (omega (arith, pow-suc 10 (suc k)))))
]

pub length_decimal : (v k : ℕ) → v < 10 ^ suc k → length (decimal v) ≤ suc k
unfolding decimal
length_decimal v k h = short (suc v) v k h
