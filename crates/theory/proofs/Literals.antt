-- Laws of literals: equality, opposites and variables.
use mathlib.Core.Path.{◌≡◌, refl, ap}
use mathlib.Core.Bool.{true, false}
use mathlib.Core.Logic.{◌⊎◌, inl, inr, ◌≢◌, ⊎_elim}
use Prim.Native.Nat.{ℕ}
use native.Mathlib.Omega.{arith}
use native.Mathlib.Decide.{ℕ_discrete}
use borrow.Author.Tests.{eqb-true, eq-eqb}
use Rattle.general.specs.Booleans.{true_not_false, bool_cases}
use Rattle.literal.specs.declared.Literal.{Literal}
use Rattle.literal.specs.declared.Literal.TheVariants.{Pos, Neg}
use Rattle.literal.specs.Literal.{TRUE, FALSE, var, opposite, same}

pub opposite_opposite : (l : Literal) → opposite (opposite l) ≡ l
opposite_opposite (Pos p) = refl
opposite_opposite (Neg p) = refl

pub var_opposite : (l : Literal) → var (opposite l) ≡ var l
var_opposite (Pos p) = refl
var_opposite (Neg p) = refl

pub opposite_ne : (l : Literal) → opposite l ≢ l
opposite_ne (Pos p) e = let z : ◌≡◌ {A = ℕ} 0 1 = cc in omega arith
opposite_ne (Neg p) e = let z : ◌≡◌ {A = ℕ} 0 1 = cc in omega arith

pub same_true : (x y : Literal) → same x y ≡ true → x ≡ y
same_true (Pos p) (Pos q) e = ap Pos (eqb-true p q e)
same_true (Pos p) (Neg q) e = absurd (true_not_false e refl)
same_true (Neg p) (Pos q) e = absurd (true_not_false e refl)
same_true (Neg p) (Neg q) e = ap Neg (eqb-true p q e)

pub same_refl : (x : Literal) → same x x ≡ true
same_refl (Pos p) = eq-eqb p p refl
same_refl (Neg p) = eq-eqb p p refl

pub same_false : (x y : Literal) → same x y ≡ false → x ≢ y
same_false x y e q = true_not_false (rw q (same_refl y)) e

pub same_ne : (x y : Literal) → x ≢ y → same x y ≡ false
same_ne x y h = ⊎_elim (λ e. absurd (h (same_true x y e))) (λ e. e) (bool_cases (same x y))

pub literal_cases : (x y : Literal) → (x ≡ y) ⊎ (x ≢ y)
literal_cases x y = ⊎_elim (λ e. inl (same_true x y e)) (λ e. inr (same_false x y e)) (bool_cases (same x y))

pub of_variable_lem : (x y : Literal) → var x ≡ var y → (x ≡ y) ⊎ (x ≡ opposite y)
of_variable_lem (Pos p) (Pos q) e = inl (ap Pos e)
of_variable_lem (Pos p) (Neg q) e = inr (ap Pos e)
of_variable_lem (Neg p) (Pos q) e = inr (ap Neg e)
of_variable_lem (Neg p) (Neg q) e = inl (ap Neg e)

-- the three ways in which two literals can stand to each other
pub relation : (x y : Literal) → (x ≡ y) ⊎ ((x ≡ opposite y) ⊎ (var x ≢ var y))
relation x y = elim (ℕ_discrete (var x) (var y)) [ yes e ↦ ⊎_elim inl (λ q. inr (inl q)) (of_variable_lem x y e) | no h ↦ inr (inr h) ]

pub constant : (x : Literal) → var x ≡ 0 → (x ≡ TRUE) ⊎ (x ≡ FALSE)
constant x e = of_variable_lem x TRUE e
