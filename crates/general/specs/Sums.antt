-- Sums of a weight over the elements of a list. A list that repeats none weighs no more than all numbers below a bound.
use Rattle.std.specs.Prelude.{◌≡◌, Bool, ◌≢◌, ltb, length}
use Rattle.std.proofs.Math.Path.{refl}
use Rattle.std.proofs.Math.Bool.{true, false, cond}
use mathlib.Core.List.{List, [], ◌∷◌}
use Prim.Native.Nat.{ℕ, zero, suc, ◌+◌, ◌≤◌, ◌<◌}
use Rattle.std.proofs.Math.Decide.{ℕ_discrete as dec_eq}
use native.Mathlib.Omega.{arith}
use Rattle.std.proofs.Common.{eq-eqb, ne_eqb}
use Rattle.general.specs.Times.{times}

unfoldable pub sum : (ℕ → ℕ) → List ℕ → ℕ
sum w [] = 0
sum w (x ∷ l) = w x + sum w l

pub times_here : (q : ℕ) (l : List ℕ) → times q (q ∷ l) ≡ suc (times q l)
unfolding times
times_here q l = rw (eq-eqb q q refl) (omega arith)

pub times_other : (q p : ℕ) (l : List ℕ) → p ≢ q → times q (p ∷ l) ≡ times q l
unfolding times
times_other q p l h = rw (ne_eqb p q h) (omega arith)

module _ (w : ℕ → ℕ) where
  -- the weight of the numbers below n that stand in a list
  taken : List ℕ → ℕ → ℕ
  taken l zero = 0
  taken l (suc n) = cond (ltb 0 (times n l)) (w n) 0 + taken l n

  -- what all numbers below n weigh is at most F n
  taken_most : (F : ℕ → ℕ) (l : List ℕ) (n : ℕ) → ((k : ℕ) → k < n → w k + F k ≤ F (suc k)) → taken l n ≤ F n
  unfolding taken
  taken_most F l zero h = omega arith
  taken_most F l (suc n) h = go (ltb 0 (times n l)) (taken_most F l n (λ k b. h k (omega arith))) (h n (omega arith))
    where
      go : (b : Bool) → taken l n ≤ F n → w n + F n ≤ F (suc n) → cond b (w n) 0 + taken l n ≤ F (suc n)
      go true a b = omega arith
      go false a b = omega arith

  taken_past : (l : List ℕ) (q n : ℕ) → n ≤ q → taken (q ∷ l) n ≡ taken l n
  unfolding taken
  taken_past l q zero h = refl
  taken_past l q (suc n) h = rw (times_other n q l (λ e. omega arith), taken_past l q n (omega arith))

  taken_one : (l : List ℕ) (q n : ℕ) → times q l ≡ 0 → q < n → taken (q ∷ l) n ≡ w q + taken l n
  unfolding taken
  taken_one l q zero z h = absurd (omega arith)
  taken_one l q (suc n) z h = elim (dec_eq q n) [
    | yes e ↦ rw (← e, times_here q l, taken_past l q q (omega arith), z) (omega arith)
    | no e ↦ rw (times_other n q l e, taken_one l q n z (omega arith)) (omega arith)
  ]

  sum_taken : (l : List ℕ) (n : ℕ) → ((q : ℕ) → times q l ≤ 1) → ((q : ℕ) → 0 < times q l → q < n) → sum w l ≡ taken l n
  unfolding sum times taken
  sum_taken [] n once below = go n
    where
      go : (n : ℕ) → 0 ≡ taken [] n
      go zero = refl
      go (suc n) = rw (← go n)
  sum_taken (q ∷ l) n once below =
      let z : times q l ≡ 0 = omega (arith, once q, times_here q l) in
      omega (
        arith,
        taken_one l q n z (below q (omega (arith, times_here q l))),
        sum_taken l n (λ p. omega (arith, once p)) (λ p h. below p (omega arith)),
      )

  pub sum_distinct : (F : ℕ → ℕ) (l : List ℕ) (n : ℕ) → ((k : ℕ) → k < n → w k + F k ≤ F (suc k)) → ((q : ℕ) → times q l ≤ 1) → ((q : ℕ) → 0 < times q l → q < n) →
      sum w l ≤ F n
  sum_distinct F l n h once below = omega (arith, sum_taken l n once below, taken_most F l n h)

-- with weight one: no more elements than numbers
pub length_distinct : (l : List ℕ) (n : ℕ) → ((q : ℕ) → times q l ≤ 1) → ((q : ℕ) → 0 < times q l → q < n) → length l ≤ n
unfolding sum
length_distinct l n once below = omega (arith, sum_distinct (λ q. 1) (λ k. k) l n (λ k h. omega arith) once below, ones l)
  where
    ones : (l : List ℕ) → sum (λ q. 1) l ≡ length l
    ones [] = refl
    ones (x ∷ l) = omega (arith, ones l)
