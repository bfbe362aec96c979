-- Codes of literals: a literal and its code say the same, and what equality, variables and openness are on codes.
use mathlib.Core.Path.{◌≡◌, refl, ap, sym, ◌∙◌}
use mathlib.Core.Bool.{Bool, true, false}
use mathlib.Core.Logic.{◌↔◌}
use Prim.Native.Nat.{ℕ, ◌+◌, ◌*◌, ◌/◌, ◌%◌, ◌<◌, ◌≤◌}
use native.Mathlib.Decide.{ℕ_discrete}
use native.Mathlib.Omega.{arith}
use borrow.Author.Tests.{eq-eqb, ne_eqb, eqb-true, eqb-false}
use lib.Dec.{eqb}
use Rattle.literal.specs.declared.Literal.{Literal}
use Rattle.literal.specs.declared.Literal.TheVariants.{Pos, Neg}
use Rattle.literal.specs.Literal.{var, same, code_of, literal_at}

-- both ways --------------------------------------------------------------------------------------------------------

-- the literal at an even code and at an odd one
pub at_even : (c : ℕ) → c % 2 ≡ 0 → literal_at c ≡ Pos (c / 2)
unfolding literal_at
at_even c e = rw (eq-eqb (c % 2) 0 e)

pub at_odd : (c : ℕ) → (c % 2 ≡ 0 → ⊥) → literal_at c ≡ Neg (c / 2)
unfolding literal_at
at_odd c h = rw (ne_eqb (c % 2) 0 h)

pub literal_at_code_of : (l : Literal) → literal_at (code_of l) ≡ l
literal_at_code_of (Pos p) = at_even (2 * p) (omega arith) ∙ ap Pos (omega arith)
literal_at_code_of (Neg p) = at_odd (2 * p + 1) (λ e. omega arith) ∙ ap Neg (omega arith)

pub code_of_literal_at : (c : ℕ) → code_of (literal_at c) ≡ c
code_of_literal_at c = elim (ℕ_discrete (c % 2) 0) [
  | yes e ↦ rw (at_even c e) (omega arith)
  | no h ↦ rw (at_odd c h) (omega arith)
]

-- what a contract that gives a code says of the literal
pub at_code : (c : ℕ) (l : Literal) → c ≡ code_of l → literal_at c ≡ l
at_code c l e = ap literal_at e ∙ literal_at_code_of l

pub code_of_injective : (x y : Literal) → code_of x ≡ code_of y → x ≡ y
code_of_injective x y e = sym (literal_at_code_of x) ∙ at_code (code_of x) y e

-- equality ---------------------------------------------------------------------------------------------------------

-- tests of equations that say the same are the same
eqb_same : (a b c d : ℕ) → (a ≡ b → c ≡ d) → (c ≡ d → a ≡ b) → eqb a b ≡ eqb c d
eqb_same a b c d f g = go (eqb c d) refl
  where
    go : (t : Bool) → eqb c d ≡ t → eqb a b ≡ t
    go true e = eq-eqb a b (g (eqb-true c d e))
    go false e = ne_eqb a b (λ q. eqb-false c d e (f q))

pub same_code : (x y : Literal) → eqb (code_of x) (code_of y) ≡ same x y
same_code (Pos p) (Pos q) = eqb_same (2 * p) (2 * q) p q (λ e. omega arith) (λ e. omega arith)
same_code (Pos p) (Neg q) = ne_eqb (2 * p) (2 * q + 1) (λ e. omega arith)
same_code (Neg p) (Pos q) = ne_eqb (2 * p + 1) (2 * q) (λ e. omega arith)
same_code (Neg p) (Neg q) = eqb_same (2 * p + 1) (2 * q + 1) p q (λ e. omega arith) (λ e. omega arith)

pub same_at : (c d : ℕ) → same (literal_at c) (literal_at d) ≡ eqb c d
same_at c d = sym (same_code (literal_at c) (literal_at d)) ∙ rw (code_of_literal_at c, code_of_literal_at d)

-- variables --------------------------------------------------------------------------------------------------------

pub var_code : (l : Literal) → var l ≡ code_of l / 2
var_code (Pos p) = omega arith
var_code (Neg p) = omega arith

pub var_at : (c : ℕ) → var (literal_at c) ≡ c / 2
var_at c = var_code (literal_at c) ∙ rw (code_of_literal_at c)

pub code_var_bound : (l : Literal) (m : ℕ) → var l ≤ m → code_of l ≤ 2 * m + 1
code_var_bound l m h = omega (arith, var_code l)

-- the codes of the constants are 0 and 1
pub code_open : (c : ℕ) → (1 < c) ↔ (0 < var (literal_at c))
code_open c = rw (var_at c) ((λ h. omega arith), λ h. omega arith)
