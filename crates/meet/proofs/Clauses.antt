-- Clauses as they stand, literal by literal; clauses in which no variable stands twice.
use mathlib.Core.Path.{◌≡◌, refl}
use mathlib.Core.Logic.{◌⊎◌, inr, ◌≢◌, ⊎_elim}
use mathlib.Core.List.Memᴰ
use mathlib.Core.List.{[], ◌∷◌, Memᴰ}
use Prim.Native.Nat.{ℕ, ◌+◌, ◌<◌, ◌≤◌}
use native.Mathlib.Omega.{arith}
use borrow.Author.Tests.{eq-eqb}
use Rattle.general.specs.Counting.{count}
use Rattle.literal.specs.declared.Literal.{Literal}
use Rattle.literal.specs.Literal.{FALSE, var, opposite, code_of}
use Rattle.literal.proofs.Codes.{var_code}
use Rattle.theory.specs.Formula.{Clause}
use Rattle.theory.specs.State.{State, value, standing}
use Rattle.theory.proofs.Literals.{of_variable_lem}
use Rattle.theory.proofs.Clauses.{stand_ind}
use Rattle.theory.proofs.Closed.{NoFalse, open_of, not_true_of}
use Rattle.theory.proofs.Counts.{mentions, Distinct, Wide, not_both}

-- what stands of a clause is its first literal or of the rest
pub standing_cases : (s : State) (l : Literal) (c : Clause) (y : Literal) → Memᴰ y (standing s (l ∷ c)) → (y ≡ value s l) ⊎ Memᴰ y (standing s c)
unfolding standing
standing_cases s l c y m = stand_ind (λ v d. Memᴰ y d → (y ≡ v) ⊎ Memᴰ y (standing s c)) (standing s c) inr (λ v h k. Memᴰ.cases_cons k) (value s l) m

pub not_standing : (s : State) (y : Literal) → Memᴰ y (standing s []) → ⊥
unfolding standing
not_standing s y m = Memᴰ.not-nil m

-- the rest mentions a variable no more often, and once less the variable of an open first literal
pub mentions_rest : (s : State) (l : Literal) (c : Clause) (p : ℕ) → mentions p (standing s c) ≤ mentions p (standing s (l ∷ c))
unfolding standing count
mentions_rest s l c p = stand_ind (λ v d. mentions p (standing s c) ≤ mentions p d) (standing s c) (omega arith) (λ v h. omega arith) (value s l)

pub mentions_first : (s : State) (l : Literal) (c : Clause) → value s l ≢ FALSE → mentions (var (value s l)) (standing s (l ∷ c)) ≡ 1 + mentions (var (value s l)) (standing s c)
unfolding standing count
mentions_first s l c h = stand_ind (λ v d. v ≢ FALSE → mentions (var v) d ≡ 1 + mentions (var v) (standing s c)) (standing s c)
    (λ n. absurd (n refl)) (λ v h n. rw (eq-eqb (var v) (var v) refl)) (value s l) h

module _ {d : Clause} (f : NoFalse d) (w : Wide d) where
  pub wide_open : (y : Literal) → Memᴰ y d → 0 < var y
  wide_open y m = open_of y (not_true_of d y w.none_true m) (f y m)

pub code_high : (y : Literal) → 0 < var y → 1 < code_of y
code_high y h = omega (arith, var_code y)

module _ {d : Clause} (k : Distinct d) where
  -- of a variable one literal stands
  pub distinct_same : (y z : Literal) → 0 < var y → Memᴰ y d → Memᴰ z d → var y ≡ var z → y ≡ z
  distinct_same y z o m n e = ⊎_elim (λ q. q) (λ (q : y ≡ opposite z). absurd (not_both k z (omega arith) n (rw q at m))) (of_variable_lem y z e)
