-- A message is one line: no word and no number in it has a newline.
use mathlib.Core.Path.{◌≡◌, refl, sym}
use mathlib.Core.Bool.{Bool, true, false}
use mathlib.Core.List.{List, [], ◌∷◌, ◌++◌, map, append_assoc}
use Prim.Native.Nat.{ℕ, zero, suc, ◌/◌, ◌%◌}
use native.Mathlib.Omega.{arith}
use borrow.Author.Tests.{ne_eqb}
use lib.Dec.{eqb, ltb}
use Rattle.general.specs.Booleans.{cond_ind}
use Rattle.general.specs.Times.{times}
use Rattle.general.specs.Repeats.{times_append}
use Rattle.receipt.specs.declared.Refusal.{Refusal}
use Rattle.receipt.specs.Receipt.{number_of, named_clause}
use Rattle.text.specs.Text.{codes, digit, digits_within, decimal, spaced, line, refused_text}
use Rattle.typed.specs.Typed.{OneLine}

digit_none : (v : ℕ) → times 10 (digit v ∷ []) ≡ 0
unfolding times
digit_none v = rw (ne_eqb (digit v) 10 (λ e. omega arith))

within_none : (k v : ℕ) → times 10 (digits_within k v) ≡ 0
unfolding digits_within times
within_none zero v = refl
within_none (suc k) v = go (ltb v 10) (within_none k (v / 10))
  where
    go : (b : Bool) → times 10 (digits_within k (v / 10)) ≡ 0 →
        times 10 (elim b [ true ↦ digit v ∷ [] | false ↦ digits_within k (v / 10) ++ (digit (v % 10) ∷ []) ]) ≡ 0
    go true h = digit_none v
    go false h = omega (arith, times_append 10 (digits_within k (v / 10)) (digit (v % 10) ∷ []), digit_none (v % 10))

numbers_none : (vs : List ℕ) → times 10 (spaced (map decimal vs)) ≡ 0
unfolding decimal spaced times
numbers_none [] = refl
numbers_none (v ∷ vs) = omega (arith, times_append 10 (decimal v) (spaced (map decimal vs)), within_none (suc v) v, numbers_none vs)

-- a word, and numbers after it
pub one_line : (w vs : List ℕ) → times 10 w ≡ 0 → OneLine (line w (map decimal vs))
one_line w vs h =
    let n = spaced (map decimal vs) in
    (w ++ n, sym (append_assoc w n (codes "\n")), omega (arith, times_append 10 w n, numbers_none vs))

-- the line of a refusal, with and without a group
pub refused_line : (f : Refusal) → OneLine (refused_text f)
unfolding times
refused_line f =
    let why = f.fault in
    cond_ind (λ ws. OneLine (line (codes "refused") (decimal (number_of why) ∷ decimal f.place ∷ ws))) _ _ (eqb (number_of why) 5)
    (λ _. one_line (codes "refused") (number_of why ∷ f.place ∷ (named_clause why).0 ∷ []) refl)
    (λ _. one_line (codes "refused") (number_of why ∷ f.place ∷ []) refl)
