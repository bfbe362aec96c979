-- The counts while a variable's occurrences are taken in one by one: what is left of them makes the difference to the new state's counts.
use mathlib.Core.Path.{◌≡◌}
use mathlib.Core.List.{List, ◌∷◌}
use Prim.Native.Nat.{ℕ, ◌+◌, ◌*◌, ◌/◌, ◌%◌, ◌≤◌, ◌<◌}
use native.Mathlib.Decide.{ℕ_discrete as dec_eq}
use native.Mathlib.Omega.{arith}
use borrow.Author.Tests.{eq-eqb, ne_eqb}
use lib.Dec.{eqb}
use lib.ListN.{get_or, set, length}
use lib.Seq.{get_or-set_same, get_or-set_other}
use Rattle.general.specs.Booleans.{bit}
use Rattle.general.specs.Bits.{bit_same}
use Rattle.general.specs.Times.{times}
use Rattle.literal.specs.Literal.{max_table}
use Rattle.tally.specs.Counts.{one_true, two_true}
use Rattle.decide.specs.Members.{recount_of}

-- the occurrences of clause g among those left
abbrev pub hits : ℕ → List ℕ → ℕ
hits g l = times (2 * g + 0) l + times (2 * g + 1) l

gain_here : (o to : ℕ) → to < 2 → bit (eqb o (2 * (o / 2) + to)) ≡ bit (eqb (o % 2) to)
gain_here o to h = bit_same o (2 * (o / 2) + to) (o % 2) to (λ e. omega arith) (λ e. omega arith)

hit_here : (o : ℕ) → bit (eqb o (2 * (o / 2) + 0)) + bit (eqb o (2 * (o / 2) + 1)) ≡ 1
hit_here o = elim (dec_eq (o % 2) 0) [
  | yes e ↦ rw (eq-eqb o (2 * (o / 2) + 0) (omega arith), ne_eqb o (2 * (o / 2) + 1) (λ q. omega arith))
  | no e ↦ rw (ne_eqb o (2 * (o / 2) + 0) (λ q. omega arith), eq-eqb o (2 * (o / 2) + 1) (omega arith))
]

hit_other : (o g k : ℕ) → k < 2 → (g ≡ o / 2 → ⊥) → bit (eqb o (2 * g + k)) ≡ 0
hit_other o g k h n = rw (ne_eqb o (2 * g + k) (λ q. n (omega arith)))

-- of m clauses; opens and trues are those of the new state
pub record Lagging (m : ℕ) (opens trues : ℕ → ℕ) (to : ℕ) (k rest : List ℕ) : Type 0 where
  pub sum : (g : ℕ) → g < m → get_or k g 0 + one_true * times (2 * g + to) rest ≡ opens g + hits g rest + one_true * trues g
  pub fits : (g : ℕ) → g < m → times (2 * g + to) rest ≤ trues g
  pub few : (g : ℕ) → g < m → opens g + hits g rest ≤ max_table
  pub low : (g : ℕ) → g < m → get_or k g 0 < two_true

gains_hits : (g to : ℕ) (l : List ℕ) → to < 2 → times (2 * g + to) l ≤ hits g l
gains_hits g to l h = elim (dec_eq to 0) [
  | yes e ↦ rw e (omega arith)
  | no e ↦ let z : to ≡ 1 = omega arith in rw z (omega arith)
]

-- one clause's numbers at the head of a turn and after it
module _ {m : ℕ} {opens trues : ℕ → ℕ} {to : ℕ} (small : to < 2) (k : List ℕ) (o : ℕ) (rest : List ℕ) (w : Lagging m opens trues to k (o ∷ rest)) (inside : o < 2 * m) where
  sum_now : (g : ℕ) → g < m →
      get_or k g 0 + one_true * (bit (eqb o (2 * g + to)) + times (2 * g + to) rest) ≡
      opens g + (bit (eqb o (2 * g + 0)) + times (2 * g + 0) rest + (bit (eqb o (2 * g + 1)) + times (2 * g + 1) rest)) + one_true * trues g
  unfolding times
  sum_now g h = w.sum g h

  fits_now : (g : ℕ) → g < m → bit (eqb o (2 * g + to)) + times (2 * g + to) rest ≤ trues g
  unfolding times
  fits_now g h = w.fits g h

  few_now : (g : ℕ) → g < m → opens g + (bit (eqb o (2 * g + 0)) + times (2 * g + 0) rest + (bit (eqb o (2 * g + 1)) + times (2 * g + 1) rest)) ≤ max_table
  unfolding times
  few_now g h = w.few g h

  -- the count has an open literal to lose
  pub positive : 0 < get_or k (o / 2) 0
  positive = omega (arith, sum_now (o / 2) (omega arith), fits_now (o / 2) (omega arith), hit_here o)

  pub short : get_or k (o / 2) 0 < two_true
  short = w.low (o / 2) (omega arith)

  module _ (c : ℕ) (is : c ≡ recount_of (get_or k (o / 2) 0) o to) where
    here : c + one_true * times (2 * (o / 2) + to) rest ≡ opens (o / 2) + hits (o / 2) rest + one_true * trues (o / 2)
    here = omega (arith, sum_now (o / 2) (omega arith), fits_now (o / 2) (omega arith), hit_here o, gain_here o to small, positive)

    pub turned : m ≤ length k → c < two_true → Lagging m opens trues to (set k (o / 2) c) rest
    turned long h = record {
      sum = λ g b. elim (dec_eq g (o / 2)) [
        | yes e ↦ rw (e, get_or-set_same k (o / 2) c 0 (omega arith)) here
        | no e ↦ rw (get_or-set_other k (o / 2) g c 0 e) (omega (arith, sum_now g b, hit_other o g to small e, hit_other o g 0 (omega arith) e, hit_other o g 1 (omega arith) e))
      ];
      fits = λ g b. omega (arith, fits_now g b);
      few = λ g b. omega (arith, few_now g b);
      low = λ g b. elim (dec_eq g (o / 2)) [
        | yes e ↦ rw (e, get_or-set_same k (o / 2) c 0 (omega arith)) h
        | no e ↦ rw (get_or-set_other k (o / 2) g c 0 e) (w.low g b)
      ];
    }

    -- a count that is 0, or has two true literals, is a dead clause's
    pub dead_none : c ≡ 0 → opens (o / 2) + trues (o / 2) ≡ 0
    dead_none z = omega (arith, here, fits_now (o / 2) (omega arith), gains_hits (o / 2) to rest small)

    pub dead_two : two_true ≤ c → 2 ≤ trues (o / 2)
    dead_two h = omega (arith, here, fits_now (o / 2) (omega arith), few_now (o / 2) (omega arith))
