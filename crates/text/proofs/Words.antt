-- Words after single spaces, made by appending.
use mathlib.Core.Path.{◌≡◌, refl, ap, sym, ◌∙◌}
use mathlib.Core.List.{List, [], ◌∷◌, ◌++◌, map, append_assoc, append-nil, map-append}
use Prim.Native.Nat.{ℕ, suc, ◌+◌, ◌*◌, ◌≤◌, ◌<◌, zero-le}
use native.Mathlib.Nat.{mul-suc, mul-le-mul_left}
use native.Mathlib.Numerals.{add-one}
use native.Mathlib.Omega.{arith}
use borrow.Author.Tests.{eq-eqb}
use lib.ListN.{length, take, get_or}
use lib.Seq.{take-suc, take_all}
use Rattle.io.specs.Digits.{last_digits, IsDigitCount}
use Rattle.literal.specs.declared.ClauseNumber.{ClauseNumber}
use Rattle.receipt.specs.declared.Fault.{Fault}
use Rattle.receipt.specs.declared.Fault.TheVariants.{UnknownVariable}
use Rattle.receipt.specs.Receipt.{number_of, named_clause}
use Rattle.general.specs.Appending.{Appended}
use Rattle.text.specs.Text.{codes, decimal, spaced, line, clause_words}
use Rattle.general.specs.Appending.{append_nothing, append_both}
use Rattle.text.proofs.Digits.{digits_decimal}

-- Words after spaces ----------------------------------------------------------------------------------------------

spaced_append : (a b : List (List ℕ)) → spaced (a ++ b) ≡ spaced a ++ spaced b
unfolding spaced
spaced_append [] b = refl
spaced_append (w ∷ a) b = ap (◌++◌ (codes " ")) (ap (◌++◌ w) (spaced_append a b) ∙ sym (append_assoc w (spaced a) (spaced b)))

pub spaced_one : (w : List ℕ) → spaced (w ∷ []) ≡ codes " " ++ w
unfolding spaced
spaced_one w = ap (◌++◌ (codes " ")) (append-nil w)

pub length_spaced : (w : List ℕ) → length (spaced (w ∷ [])) ≡ suc (length w)
length_spaced w = ap length (spaced_one w)

-- a number is io's digits
pub digits_appended : {l₀ l₁ t : List ℕ} {at p : ℕ} (v k : ℕ) → IsDigitCount 10 1 v k → t ≡ last_digits 10 k v → Appended l₀ at t l₁ p → Appended l₀ at (decimal v) l₁ p
digits_appended v k h e a = rw (← digits_decimal v k h, ← e) a

pub word_appended : {l₀ l₁ l₂ w : List ℕ} {at p q : ℕ} → Appended l₀ at (codes " ") l₁ p → Appended l₁ p w l₂ q → Appended l₀ at (spaced (w ∷ [])) l₂ q
word_appended {w = w} a b = rw (spaced_one w) (append_both a b)

pub words_appended : {l₀ l₁ l₂ : List ℕ} {at p q : ℕ} (a b : List (List ℕ)) → Appended l₀ at (spaced a) l₁ p → Appended l₁ p (spaced b) l₂ q →
    Appended l₀ at (spaced (a ++ b)) l₂ q
words_appended a b f s = rw (spaced_append a b) (append_both f s)

-- a line: a word, further words after single spaces, then the newline
pub line_appended : {l₀ l₁ l₂ l₃ : List ℕ} {at p q r : ℕ} (w : List ℕ) (ws : List (List ℕ)) → Appended l₀ at w l₁ p → Appended l₁ p (spaced ws) l₂ q →
    Appended l₂ q (codes "\n") l₃ r → Appended l₀ at (line w ws) l₃ r
line_appended w ws a b c = append_both a (append_both b c)

-- the group of a refusal, where its number is 5
pub clause_appended : {l₀ l₁ : List ℕ} {at p : ℕ} (why : Fault) → number_of why ≡ 5 → Appended l₀ at (spaced (decimal (named_clause why).0 ∷ [])) l₁ p →
    Appended l₀ at (spaced (clause_words why)) l₁ p
clause_appended why e a = rw (eq-eqb (number_of why) 5 e) a

-- a refusal names no group, but for one number
names_none : (why : Fault) → ((k : ClauseNumber) → why ≡ UnknownVariable k → ⊥) → clause_words why ≡ []
names_none why h = elim why as (λ w. why ≡ w → clause_words w ≡ []) [ UnknownVariable k ↦ λ e. absurd (h k e) | _ ↦ λ _. refl ] refl

pub no_clause : {l₀ l₁ : List ℕ} {at p : ℕ} (why : Fault) → ((k : ClauseNumber) → why ≡ UnknownVariable k → ⊥) → Appended l₀ at [] l₁ p →
    Appended l₀ at (spaced (clause_words why)) l₁ p
unfolding spaced
no_clause why h a = rw (names_none why h) a

-- A loop that appends a word for each element of a list ---------------------------------------------------------

-- the first i elements of s are written from index `at` on, each in at most k bytes
module _ {A : Type 0} (g : A → List ℕ) (k : ℕ) (s : List A) (l₀ : List ℕ) (at : ℕ) where
  pub record Listing (l : List ℕ) (next i : ℕ) : Type 0 where
    pub reached : i ≤ length s
    pub long : length l ≡ length l₀
    pub short : next ≤ at + k * i
    pub words : Appended l₀ at (spaced (map g (take i s))) l next

  pub list_begun : at ≤ length l₀ → Listing l₀ at 0
  unfolding spaced
  list_begun h = record { reached = zero-le; long = refl; short = omega arith; words = append_nothing l₀ at h }

  module _ {l : List ℕ} {next i : ℕ} (w : Listing l next i) where
    pub list_turned : {l₁ : List ℕ} {p : ℕ} (d : A) → i < length s → length l₁ ≡ length l → p ≤ next + k → Appended l next (spaced (g (get_or s i d) ∷ [])) l₁ p →
        Listing l₁ p (i + 1)
    list_turned d t e h a = record {
      reached = omega arith;
      long = e ∙ w.long;
      short = rw (add-one i) (omega (arith, mul-suc k i, w.short));
      words = rw (add-one i, take-suc s i d t, map-append) (words_appended (map g (take i s)) (g (get_or s i d) ∷ []) w.words a);
    }

    pub list_within : next ≤ at + k * length s
    list_within = omega (arith, w.short, mul-le-mul_left k w.reached)

    -- the whole list
    pub list_ended : length s ≤ i → Appended l₀ at (spaced (map g s)) l next
    list_ended t = rw (take_all i s t) at w.words
