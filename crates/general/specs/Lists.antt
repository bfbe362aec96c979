-- Lists made from a function of the index, the lists that `map` makes, and lists made of parts.
use Rattle.std.specs.Prelude.{◌≡◌, ◌⊎◌, length, get_or, take, drop, set, replicate}
use Rattle.std.proofs.Math.Path.{refl, ap}
use Rattle.std.proofs.Common.{sym, ◌∙◌, inl, inr, length-append, length-drop, take-append-drop, take_at}
use Rattle.std.proofs.Math.Logic.{⊎_elim}
use mathlib.Core.List.Memᴰ
use mathlib.Core.List.{List, [], ◌∷◌, ◌++◌, map, append_assoc, Memᴰ}
use Prim.Native.Nat.{ℕ, zero, suc, ◌+◌, ◌-◌, ◌≤◌, ◌<◌}
use Rattle.std.proofs.Math.Decide.{ℕ_discrete as dec_eq}
use native.Mathlib.Omega.{arith}

module _ {A : Type 0} (g : ℕ → A) where
  -- g at k, k + 1, .., n values in all
  unfoldable pub from : ℕ → ℕ → List A
  from k zero = []
  from k (suc n) = g k ∷ from (suc k) n

  -- g at 1, 2, .., n
  abbrev pub up_to : ℕ → List A
  up_to n = from 1 n

  pub length_from : (k n : ℕ) → length (from k n) ≡ n
  unfolding from
  length_from k zero = refl
  length_from k (suc n) = ap suc (length_from (suc k) n)

  pub get_or_from : (k n i : ℕ) (d : A) → i < n → get_or (from k n) i d ≡ g (k + i)
  unfolding from
  get_or_from k zero i d h = absurd (omega arith)
  get_or_from k (suc n) zero d h = ap g (omega arith)
  get_or_from k (suc n) (suc i) d h = get_or_from (suc k) n i d (omega arith) ∙ ap g (omega arith)

  -- its elements, by their index
  pub mem_from : (k n i : ℕ) → k ≤ i → i < k + n → Memᴰ (g i) (from k n)
  unfolding from
  mem_from k zero i l h = absurd (omega arith)
  mem_from k (suc n) i l h = elim (dec_eq i k) [
    | yes e ↦ Memᴰ.head (ap g e)
    | no e ↦ Memᴰ.tail (mem_from (suc k) n i (omega arith) (omega arith))
  ]

  pub from_mem : (k n : ℕ) (x : A) → Memᴰ x (from k n) → (i : ℕ) × (k ≤ i) × (i < k + n) × (x ≡ g i)
  unfolding from
  from_mem k zero x m = absurd (Memᴰ.not-nil m)
  from_mem k (suc n) x m =
      ⊎_elim (λ e. (k, omega arith, omega arith, e)) (λ w. let r = from_mem (suc k) n x w in (r.0, omega (arith, r.1), omega (arith, r.2), r.3)) (Memᴰ.cases_cons m)

  -- one more at the end
  pub from_snoc : (k n : ℕ) → from k (suc n) ≡ from k n ++ (g (k + n) ∷ [])
  unfolding from
  from_snoc k zero = let e : k + 0 ≡ k = omega arith in rw e
  from_snoc k (suc n) = let e : k + suc n ≡ suc k + n = omega arith in rw (e, ← from_snoc (suc k) n)

-- functions that agree
pub from_same : {A : Type 0} (f g : ℕ → A) (k n : ℕ) → ((i : ℕ) → k ≤ i → i < k + n → f i ≡ g i) → from f k n ≡ from g k n
unfolding from
from_same f g k zero h = refl
from_same f g k (suc n) h = rw (h k (omega arith) (omega arith), from_same f g (suc k) n (λ i x y. h i (omega arith) (omega arith)))

-- the index of an element
pub mem_index : {A : Type 0} (l : List A) (x d : A) → Memᴰ x l → (i : ℕ) × (i < length l) × (get_or l i d ≡ x)
mem_index [] x d m = absurd (Memᴰ.not-nil m)
mem_index (y ∷ l) x d m = ⊎_elim (λ e. (0, omega arith, sym e)) (λ k. let w = mem_index l x d k in (suc w.0, omega (arith, w.1), w.2)) (Memᴰ.cases_cons m)

-- an element of the first k
pub take_mem : {A : Type 0} (k : ℕ) (l : List A) (x : A) → Memᴰ x (take k l) → Memᴰ x l
take_mem zero l x m = absurd (Memᴰ.not-nil m)
take_mem (suc k) [] x m = m
take_mem (suc k) (y ∷ l) x m = ⊎_elim (λ e. Memᴰ.head e) (λ i. Memᴰ.tail (take_mem k l x i)) (Memᴰ.cases_cons m)

-- an element by its index
pub mem_get_or : {A : Type 0} (l : List A) (i : ℕ) (d : A) → i < length l → Memᴰ (get_or l i d) l
mem_get_or [] i d h = absurd (omega arith)
mem_get_or (x ∷ l) zero d h = Memᴰ.head refl
mem_get_or (x ∷ l) (suc i) d h = Memᴰ.tail (mem_get_or l i d (omega arith))

module _ {A B : Type 0} (f : A → B) where
  pub mem_map : (l : List A) (x : A) → Memᴰ x l → Memᴰ (f x) (map f l)
  mem_map [] x m = absurd (Memᴰ.not-nil m)
  mem_map (y ∷ l) x m = ⊎_elim (λ e. Memᴰ.head (ap f e)) (λ k. Memᴰ.tail (mem_map l x k)) (Memᴰ.cases_cons m)

  pub map_mem : (l : List A) (y : B) → Memᴰ y (map f l) → (x : A) × Memᴰ x l × (y ≡ f x)
  map_mem [] y m = absurd (Memᴰ.not-nil m)
  map_mem (x ∷ l) y m = ⊎_elim (λ e. (x, Memᴰ.head refl, e)) (λ k. let w = map_mem l y k in (w.0, Memᴰ.tail w.1, w.2)) (Memᴰ.cases_cons m)

-- x stands before y in a list
module _ {A : Type 0} where
  pub data Before (x y : A) : List A → Type 0 where
    here : {l : List A} → Memᴰ y l → Before x y (x ∷ l)
    later : {z : A} {l : List A} → Before x y l → Before x y (z ∷ l)

  pub before_left : {x y : A} {l : List A} → Before x y l → Memᴰ x l
  before_left (here m) = Memᴰ.head refl
  before_left (later b) = Memᴰ.tail (before_left b)

  pub before_right : {x y : A} {l : List A} → Before x y l → Memᴰ y l
  before_right (here m) = Memᴰ.tail m
  before_right (later b) = Memᴰ.tail (before_right b)

-- two members of a list are one, or one of them stands before the other
pub members_ordered : {A : Type 0} (l : List A) {x y : A} → Memᴰ x l → Memᴰ y l → (x ≡ y) ⊎ (Before x y l ⊎ Before y x l)
members_ordered [] m k = absurd (Memᴰ.not-nil m)
members_ordered (z ∷ l) {x} {y} m k = ⊎_elim
    (λ (e : x ≡ z). ⊎_elim (λ (d : y ≡ z). inl (e ∙ sym d)) (λ j. rw e (inr (inl (here j)))) (Memᴰ.cases_cons k))
    (λ i. ⊎_elim
    (λ (d : y ≡ z). rw d (inr (inr (here i))))
    (λ j. ⊎_elim inl (λ o. inr (⊎_elim (λ b. inl (later b)) (λ b. inr (later b)) o)) (members_ordered l i j))
    (Memᴰ.cases_cons k))
    (Memᴰ.cases_cons m)

-- in a list made from a function of the index, by the indices
module _ {A : Type 0} (g : ℕ → A) where
  pub before_from : (k n i j : ℕ) → k ≤ i → i < j → j < k + n → Before (g i) (g j) (from g k n)
  unfolding from
  before_from k zero i j l h b = absurd (omega arith)
  before_from k (suc n) i j l h b = elim (dec_eq i k) [
    | yes e ↦ rw e (here (mem_from g (suc k) n j (omega arith) (omega arith)))
    | no e ↦ later (before_from (suc k) n i j (omega arith) h (omega arith))
  ]

  pub from_before : (k n : ℕ) (x y : A) → Before x y (from g k n) → (i : ℕ) × (j : ℕ) × (k ≤ i) × (i < j) × (j < k + n) × (x ≡ g i) × (y ≡ g j)
  unfolding from
  from_before k zero x y x3 = elim x3 [ ]
  from_before k (suc n) x y (here m) = let r = from_mem g (suc k) n y m in (k, r.0, omega arith, omega (arith, r.1), omega (arith, r.2), refl, r.3)
  from_before k (suc n) x y (later b) =
      let r = from_before (suc k) n x y b in (r.0, r.1, omega (arith, r.2), r.3, omega (arith, r.4), r.5, r.6)

-- the part before a later index, an element stored at the seam of two parts, and the rest of equal values
module _ {A : Type 0} where
  pub take_past : (i j : ℕ) (l b : List A) → j ≤ length l → drop i l ≡ b ++ drop j l → take j l ≡ take i l ++ b
  take_past i j l b h e =
      let x = take i l ++ b in
      let q : l ≡ x ++ drop j l = sym (take-append-drop i l) ∙ ap (◌++◌ (take i l)) e ∙ sym (append_assoc (take i l) b (drop j l)) in
      let k : length x ≡ j = omega (arith, ap length q, length-append x (drop j l), length-drop j l) in
      ap (take j) q ∙ take_at x (drop j l) j k

  pub set_after : (d : ℕ) (e : A) (t l : List A) → d < length t → set (take (suc d) t ++ l) d e ≡ take d t ++ (e ∷ l)
  set_after d e [] l h = absurd (omega arith)
  set_after zero e (y ∷ t) l h = refl
  set_after (suc d) e (y ∷ t) l h = ap (◌∷◌ y) (set_after d e t l (omega arith))

  -- past the end
  pub get_or_past : (l : List A) (i : ℕ) (d : A) → length l ≤ i → get_or l i d ≡ d
  get_or_past [] i d h = refl
  get_or_past (x ∷ l) zero d h = absurd (omega arith)
  get_or_past (x ∷ l) (suc i) d h = get_or_past l i d (omega arith)

  -- one value throughout, and past the end
  pub get_or_throughout : (n i : ℕ) (a : A) → get_or (replicate n a) i a ≡ a
  get_or_throughout zero i a = refl
  get_or_throughout (suc n) zero a = refl
  get_or_throughout (suc n) (suc i) a = get_or_throughout n i a

  pub drop_replicate : (a : A) (m n : ℕ) → drop m (replicate n a) ≡ replicate (n - m) a
  drop_replicate a zero n = let e : n - 0 ≡ n = omega arith in rw e
  drop_replicate a (suc m) zero = let e : 0 - suc m ≡ 0 = omega arith in rw e
  drop_replicate a (suc m) (suc n) = let e : suc n - suc m ≡ n - m = omega arith in rw e (drop_replicate a m n)
