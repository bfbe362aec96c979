-- Writing a run of elements into a list from the index `at` on, of any type of element: what holds at the loop's head, at the start, after a turn and at the end.
use Rattle.std.specs.Prelude.{ℕ, ◌+◌, ◌≤◌, ◌<◌, ◌≡◌, refl, List, ◌++◌, length, get_or, set, take, drop, replicate}
use Rattle.std.proofs.Common.{zero-le, sym, ◌∙◌, append_assoc, zero-add, add-one, arith, length-set}
use Rattle.std.proofs.lemmas.List.{length-replicate, get_or-replicate}
use Rattle.std.proofs.Math.Seq.{take-length, paste, paste-zero, paste-suc}

module _ {A : Type 0} (at n : ℕ) (new old : List A) where
  -- the first i of the n new elements are written: take at old ++ take i new ++ drop (at + i) old
  pub record Writing (l : List A) (i : ℕ) : Type 0 where
    pub reached : i ≤ n
    pub long : length l ≡ length old
    pub is : l ≡ paste old at new i

  pub begun : Writing old 0
  begun = record { reached = zero-le; long = refl; is = paste-zero old at new }

  module _ (size : length new ≡ n) (l : List A) (i : ℕ) (w : Writing l i) where
    pub turned : at + n ≤ length old → i < n → (x d : A) → x ≡ get_or new i d → Writing (set l (at + i) x) (i + 1)
    turned room h x d e = record {
      reached = omega arith;
      long = length-set l (at + i) x ∙ w.long;
      is = rw (w.is, e, add-one) (paste-suc old at new i d (omega arith) (omega arith));
    }

    pub written : n ≤ i → l ≡ take at old ++ (new ++ drop (at + n) old)
    written h = let e : i ≡ length new = omega (arith, w.reached) in w.is ∙ rw (e, take-length new, append_assoc, ← size)

-- a run from the front
module _ {A : Type 0} (n : ℕ) (new old : List A) (size : length new ≡ n) (l : List A) (i : ℕ) (w : Writing 0 n new old l i) where
  pub turned_front : n ≤ length old → i < n → (x d : A) → x ≡ get_or new i d → Writing 0 n new old (set l i x) (i + 1)
  turned_front room h x d e = rw zero-add at (turned 0 n new old size l i w (omega arith) h x d e)

  pub written_front : n ≤ i → l ≡ new ++ drop n old
  written_front h = rw zero-add at (written 0 n new old size l i w h)

-- one value throughout
module _ {A : Type 0} (a : A) (at n : ℕ) (old l : List A) (i : ℕ) (w : Writing at n (replicate n a) old l i) where
  pub turned_filling : at + n ≤ length old → i < n → Writing at n (replicate n a) old (set l (at + i) a) (i + 1)
  turned_filling room h = turned at n (replicate n a) old (length-replicate n a) l i w room h a a (sym (get_or-replicate n i a a h))

  pub filled : n ≤ i → l ≡ take at old ++ (replicate n a ++ drop (at + n) old)
  filled h = written at n (replicate n a) old (length-replicate n a) l i w h
