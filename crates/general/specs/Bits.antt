-- Tests as the numbers 0 and 1.
use Rattle.std.specs.Prelude.{◌≡◌, refl, Bool, true, false, ℕ, ◌≤◌, eqb}
use Rattle.std.proofs.Math.Decide.{ℕ_discrete as dec_eq}
use Rattle.std.proofs.Common.{arith, eq-eqb, ne_eqb}
use Rattle.general.specs.Booleans.{bit}

pub bit_le : (b : Bool) → bit b ≤ 1
bit_le true = omega arith
bit_le false = omega arith

pub bit_true : (b : Bool) → bit b ≡ 1 → b ≡ true
bit_true true h = refl
bit_true false h = absurd (omega arith)

-- two tests that say the same count the same
pub bit_same : (a b c d : ℕ) → (a ≡ b → c ≡ d) → (c ≡ d → a ≡ b) → bit (eqb a b) ≡ bit (eqb c d)
bit_same a b c d f g = elim (dec_eq a b) [
  | yes e ↦ rw (eq-eqb a b e, eq-eqb c d (f e))
  | no e ↦ rw (ne_eqb a b e, ne_eqb c d (λ q. e (g q)))
]
