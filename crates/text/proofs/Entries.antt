-- An entry with its sign, after a space: of 16 bits, so at most five digits.
use mathlib.Core.Path.{◌≡◌, refl}
use mathlib.Core.Bool.{true, false}
use mathlib.Core.List.{List, [], ◌∷◌, ◌++◌}
use Prim.Native.Nat.{ℕ, ◌+◌, ◌≤◌}
use native.Mathlib.Omega.{arith}
use borrow.Author.Tests.{ltb-true}
use lib.IntN.{ℤ, pos, negsuc, nat_abs}
use lib.ListN.{length}
use lib.Signed.{lt_z}
use mir.Syntax.{w16}
use mir.Val.{SFits, to_z, of_z}
use mir.ValLaws.{to_z-of_z}
use Rattle.literal.proofs.Signed.{abs_below}
use Rattle.general.specs.Appending.{Appended}
use Rattle.text.specs.Text.{codes, decimal, signed, spaced}
use Rattle.general.specs.Appending.{append_both}
use Rattle.text.proofs.Digits.{length_decimal}
use Rattle.text.proofs.Words.{spaced_one, length_spaced}

spaced_negative : (e : ℤ) → lt_z e (pos 0) ≡ true → spaced (signed e ∷ []) ≡ codes " -" ++ decimal (nat_abs e)
spaced_negative (pos n) t = absurd (omega (arith, ltb-true n 0 t))
spaced_negative (negsuc n) t = spaced_one (signed (negsuc n))

not_negative : (e : ℤ) → lt_z e (pos 0) ≡ false → signed e ≡ decimal (nat_abs e)
not_negative (pos n) t = refl
not_negative (negsuc n) t = let z : ◌≡◌ {A = ℕ} 0 1 = cc in absurd (omega arith)

-- the machine reads the entry back as it is
module _ (e : ℤ) (f : SFits w16 e) {v : ℕ} (s : v ≡ nat_abs (to_z w16 (of_z w16 e))) where
  size_is : v ≡ nat_abs e
  size_is = rw (to_z-of_z w16 e f) at s

  short : length (decimal v) ≤ 5
  short = length_decimal v 4 (omega (arith, size_is, abs_below f))

  pub negative_entry : {l₀ l₁ l₂ : List ℕ} {at p q : ℕ} → lt_z (to_z w16 (of_z w16 e)) (pos 0) ≡ true → Appended l₀ at (codes " -") l₁ p →
      Appended l₁ p (decimal v) l₂ q → Appended l₀ at (spaced (signed e ∷ [])) l₂ q × (q ≤ at + 7)
  negative_entry t a b = (
    rw (spaced_negative e (rw (to_z-of_z w16 e f) at t), ← size_is) (append_both a b),
    omega (arith, a.ends, b.ends, short),
  )

  pub other_entry : {l₀ l₁ : List ℕ} {at p : ℕ} → lt_z (to_z w16 (of_z w16 e)) (pos 0) ≡ false → Appended l₀ at (spaced (decimal v ∷ [])) l₁ p →
      Appended l₀ at (spaced (signed e ∷ [])) l₁ p × (p ≤ at + 7)
  other_entry t a = (
    rw (not_negative e (rw (to_z-of_z w16 e f) at t), ← size_is) a,
    omega (arith, a.ends, length_spaced (decimal v), short),
  )
