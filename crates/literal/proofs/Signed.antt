-- The absolute value of a 16-bit number.
use Prim.Native.Nat.{◌≤◌, ℕ, zero, suc, ◌<◌, ◌^◌, zero-le}
use lib.IntN.{ℤ, nat_abs, pos, negsuc, neg_ℤ, ◌-ℤ◌, +ℤ_idl}
use lib.Signed.{nat_abs-le, mag, lt_z, non_neg}
use mir.Syntax.{w16, Width, w32}
use mir.Val.{SFits, hbits, to_z, of_z}
use mathlib.Core.Path.{◌≡◌, refl, ◌∙◌}
use mathlib.Core.Bool.{true, false}
use native.Mathlib.Nat.{le_refl, le-suc, lt_of_le_of_lt, not-suc-le-zero}
use native.Mathlib.Omega.{arith}
use borrow.Author.Tests.{ltb-true}
use lib.Dec.{T}
use mir.ValLaws.{to_z-of_z}

mag_neg : (z : ℤ) → mag (neg_ℤ z) ≤ nat_abs z
mag_neg (pos zero) = zero-le
mag_neg (pos (suc n)) = le-suc n
mag_neg (negsuc n) = le_refl (suc n)

-- a negation, which the machine computes as a difference from 0
neg_is : (z : ℤ) → pos 0 -ℤ z ≡ neg_ℤ z
neg_is z = +ℤ_idl (neg_ℤ z)

pub neg_fits : {w : Width} (z : ℤ) → nat_abs z < 2 ^ hbits w → SFits w (pos 0 -ℤ z)
neg_fits z h = rw neg_is (record { sfits = lt_of_le_of_lt (mag_neg z) h })

pub negated : (w : Width) (z : ℤ) → nat_abs z < 2 ^ hbits w → to_z w (of_z w (pos 0 -ℤ z)) ≡ neg_ℤ z
negated w z h = to_z-of_z w (pos 0 -ℤ z) (neg_fits z h) ∙ neg_is z

pub abs_neg : (z : ℤ) → nat_abs (neg_ℤ z) ≡ nat_abs z
abs_neg (pos zero) = refl
abs_neg (pos (suc n)) = refl
abs_neg (negsuc n) = refl

-- a 16-bit number in 32 bits, and what is read back of it
pub widens : {z : ℤ} → SFits w16 z → SFits w32 z
widens {z} h = record { sfits = omega arith }

pub read_wide : (z : ℤ) → SFits w16 z → to_z w32 (of_z w32 (to_z w16 (of_z w16 z))) ≡ z
read_wide z h = rw (to_z-of_z w16 z h) (to_z-of_z w32 z (widens h))

-- the sign, by the test of order with 0
pub neg_of_lt : (z : ℤ) → lt_z z (pos 0) ≡ true → T (non_neg (neg_ℤ z))
neg_of_lt (pos n) h = absurd (not-suc-le-zero (ltb-true n 0 h))
neg_of_lt (negsuc n) h = tt

pub nonneg_of_le : (z : ℤ) → lt_z z (pos 0) ≡ false → T (non_neg z)
nonneg_of_le (pos n) h = tt
nonneg_of_le (negsuc n) h = let z : ◌≡◌ {A = ℕ} 0 1 = cc in absurd (omega arith)

-- in 16 bits without a sign
pub abs_below : {z : ℤ} → SFits w16 z → nat_abs z ≤ 32768
abs_below {z} h = nat_abs-le z h.sfits
