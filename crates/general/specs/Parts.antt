-- A part of a list: n elements from index o on. Writing inside a part writes that part alone.
use Rattle.std.specs.Prelude.{◌≡◌, refl, List, [], ◌∷◌, ℕ, zero, suc, ◌+◌, ◌≤◌, ◌<◌, get_or, take, drop, set}
use Rattle.std.proofs.Common.{ap, arith}

module _ {A : Type 0} where
  abbrev pub part : ℕ → ℕ → List A → List A
  part o n l = take n (drop o l)

  take_at : (n : ℕ) (l : List A) (i : ℕ) (d : A) → i < n → get_or (take n l) i d ≡ get_or l i d
  take_at zero l i d h = absurd (omega arith)
  take_at (suc n) [] i d h = refl
  take_at (suc n) (x ∷ l) zero d h = refl
  take_at (suc n) (x ∷ l) (suc i) d h = take_at n l i d (omega arith)

  pub part_at : (o n : ℕ) (l : List A) (i : ℕ) (d : A) → i < n → get_or (part o n l) i d ≡ get_or l (o + i) d
  part_at zero n l i d h = let e : 0 + i ≡ i = omega arith in rw e (take_at n l i d h)
  part_at (suc o) n [] i d h = take_at n [] i d h
  part_at (suc o) n (x ∷ l) i d h = let e : suc o + i ≡ suc (o + i) = omega arith in rw e (part_at o n l i d h)

  take_set : (n : ℕ) (l : List A) (i : ℕ) (x : A) → take n (set l i x) ≡ set (take n l) i x
  take_set zero l i x = refl
  take_set (suc n) [] i x = refl
  take_set (suc n) (y ∷ l) zero x = refl
  take_set (suc n) (y ∷ l) (suc i) x = ap (λ (m : List A). y ∷ m) (take_set n l i x)

  -- a part takes what is written inside it
  pub part_set : (o n : ℕ) (l : List A) (i : ℕ) (x : A) → part o n (set l (o + i) x) ≡ set (part o n l) i x
  part_set zero n l i x = let e : 0 + i ≡ i = omega arith in rw e (take_set n l i x)
  part_set (suc o) n [] i x = take_set n [] i x
  part_set (suc o) n (y ∷ l) i x = let e : suc o + i ≡ suc (o + i) = omega arith in rw e (part_set o n l i x)

  take_past : (n : ℕ) (l : List A) (i : ℕ) (x : A) → n ≤ i → take n (set l i x) ≡ take n l
  take_past zero l i x h = refl
  take_past (suc n) [] i x h = refl
  take_past (suc n) (y ∷ l) zero x h = absurd (omega arith)
  take_past (suc n) (y ∷ l) (suc i) x h = ap (λ (m : List A). y ∷ m) (take_past n l i x (omega arith))

  -- and is kept by what is written before it or after it
  pub part_before : (o n : ℕ) (l : List A) (i : ℕ) (x : A) → i < o → part o n (set l i x) ≡ part o n l
  part_before zero n l i x h = absurd (omega arith)
  part_before (suc o) n [] i x h = refl
  part_before (suc o) n (y ∷ l) zero x h = refl
  part_before (suc o) n (y ∷ l) (suc i) x h = part_before o n l i x (omega arith)

  pub part_after : (o n : ℕ) (l : List A) (i : ℕ) (x : A) → o + n ≤ i → part o n (set l i x) ≡ part o n l
  part_after zero n l i x h = take_past n l i x (omega arith)
  part_after (suc o) n [] i x h = refl
  part_after (suc o) n (y ∷ l) zero x h = absurd (omega arith)
  part_after (suc o) n (y ∷ l) (suc i) x h = part_after o n l i x (omega arith)
