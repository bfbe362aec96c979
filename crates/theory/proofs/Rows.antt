-- Rows of bytes: those of one list after those of another, how long they are, and each by its number.
use mathlib.Core.Path.{◌≡◌, refl, ap, sym, ◌∙◌}
use mathlib.Core.List.{List, [], ◌∷◌, ◌++◌, map, append_assoc, Memᴰ}
use Prim.Native.Nat.{ℕ, zero, suc, ◌+◌, ◌*◌, ◌-◌, ◌<◌, min}
use native.Mathlib.Nat.{suc-mul, zero-mul, add-mul}
use native.Mathlib.Omega.{arith}
use lib.ListN.{length, get_or, take, drop, replicate, length-take, length-append, length-map, length-replicate}
use lib.Seq.{take_at, drop_at, get_or-take, drop-append-add}
use Rattle.general.specs.Booleans.{bit, bit_same}
use Rattle.general.specs.Lists.{take_mem}
use Rattle.theory.specs.Formula.{Choice}
use Rattle.theory.specs.Listing.{row_bytes, rows_of}

pub rows_append : (l m : List Choice) → row_bytes (l ++ m) ≡ row_bytes l ++ row_bytes m
unfolding row_bytes
rows_append [] m = refl
rows_append (c ∷ l) m = rw (rows_append l m) (sym (append_assoc (map bit c) (row_bytes l) (row_bytes m)))

-- of choices of n variables
module _ (n : ℕ) where
  rows_length : (l : List Choice) → ((c : Choice) → Memᴰ c l → length c ≡ n) → length (row_bytes l) ≡ length l * n
  unfolding row_bytes
  rows_length [] h = sym (zero-mul n)
  rows_length (c ∷ l) h =
      omega (arith, length-append (map bit c) (row_bytes l), length-map c bit, h c (Memᴰ.head refl), rows_length l (λ d m. h d (Memᴰ.tail m)), suc-mul (length l) n)

  -- row i, whatever follows the rows
  row_at : (l : List Choice) → ((c : Choice) → Memᴰ c l → length c ≡ n) → (b : List ℕ) (i : ℕ) → i < length l → (d : Choice) →
      take n (drop (i * n) (row_bytes l ++ b)) ≡ map bit (get_or l i d)
  unfolding row_bytes
  row_at [] h b i k d = absurd (omega arith)
  row_at (c ∷ l) h b zero k d =
      let e : zero * n ≡ 0 = zero-mul n in
      rw (e, append_assoc (map bit c) (row_bytes l) b) (take_at (map bit c) (row_bytes l ++ b) n (length-map c bit ∙ h c (Memᴰ.head refl)))
  row_at (c ∷ l) h b (suc i) k d =
      let e : suc i * n ≡ length (map bit c) + i * n = omega (arith, suc-mul i n, length-map c bit, h c (Memᴰ.head refl)) in
      rw (e, append_assoc (map bit c) (row_bytes l) b)
      (ap (take n) (drop-append-add (map bit c) (row_bytes l ++ b) (i * n)) ∙ row_at l (λ x m. h x (Memᴰ.tail m)) b i (omega arith) d)

  -- up to k rows, and zeros after them
  module _ (k : ℕ) (l : List Choice) (long : (c : Choice) → Memᴰ c l → length c ≡ n) where
    taken_long : (c : Choice) → Memᴰ c (take k l) → length c ≡ n
    taken_long c m = long c (take_mem k l c m)

    written : length (row_bytes (take k l)) ≡ min k (length l) * n
    written = rows_length (take k l) taken_long ∙ ap (λ (j : ℕ). j * n) (length-take k l)

    pub rows_whole : length (rows_of n k l) ≡ k * n
    rows_whole =
        let e : min k (length l) + (k - length l) ≡ k = omega arith in
        omega (arith, length-append (row_bytes (take k l)) (replicate ((k - length l) * n) 0), written, length-replicate {A = ℕ} ((k - length l) * n) 0, add-mul (min k (length l)) (k - length l) n, ap (λ (j : ℕ). j * n) e)

    pub rows_row : (b : List ℕ) (i : ℕ) → i < min k (length l) → (d : Choice) → take n (drop (i * n) (rows_of n k l ++ b)) ≡ map bit (get_or l i d)
    rows_row b i h d =
        rw (append_assoc (row_bytes (take k l)) (replicate ((k - length l) * n) 0) b)
        (row_at (take k l) taken_long (replicate ((k - length l) * n) 0 ++ b) i (omega (arith, length-take k l)) d ∙ ap (map bit) (get_or-take k l i d (omega arith)))

    pub rows_zero : drop (min k (length l) * n) (rows_of n k l) ≡ replicate ((k - min k (length l)) * n) 0
    rows_zero =
        let e : k - length l ≡ k - min k (length l) = omega arith in
        drop_at (row_bytes (take k l)) (replicate ((k - length l) * n) 0) (min k (length l) * n) written ∙ ap (λ (j : ℕ). replicate (j * n) 0) e

-- a row has one choice
pub bits_same : (c d : Choice) → map bit c ≡ map bit d → c ≡ d
bits_same [] [] e = refl
bits_same [] (y ∷ d) e = absurd (omega (arith, ap length e))
bits_same (x ∷ c) [] e = absurd (omega (arith, ap length e))
bits_same (x ∷ c) (y ∷ d) e = rw (bit_same x y (ap (λ (l : List ℕ). get_or l 0 0) e)) (ap (◌∷◌ y) (bits_same c d (ap (drop 1) e)))
