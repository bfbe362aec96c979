-- Lists that ascend by a strict order: in parts, mapped and filtered. The first k with a property are the first k of the ascending list of all that have it.
use mathlib.Core.Path.{◌≡◌, refl, ap, sym, ◌∙◌}
use mathlib.Core.Bool.{Bool}
use mathlib.Core.Logic.{◌⊎◌, inl, inr, ⊎_elim, ◌↔◌}
use mathlib.Core.List.Memᴰ
use mathlib.Core.List.{List, [], ◌∷◌, ◌++◌, map, Memᴰ}
use Prim.Native.Nat.{ℕ, zero, suc, ◌<◌}
use native.Mathlib.Omega.{arith}
use lib.ListN.{length, get_or, take}
use Rattle.general.specs.Booleans.{cond_ind}
use Rattle.general.specs.Lists.{mem_get_or, map_mem}
use Rattle.general.specs.Search.{filter, filter_mem}
use Rattle.theory.specs.Order.{Ascends, Firsts}

module _ {A : Type 0} (Lt : A → A → Type 0) where
  -- the element at an earlier index comes before the one at a later index
  pub ascends_at : (l : List A) → Ascends Lt l → (i j : ℕ) → i < j → j < length l → (d : A) → Lt (get_or l i d) (get_or l j d)
  unfolding Ascends
  ascends_at [] up i j h k d = absurd (omega arith)
  ascends_at (a ∷ l) up i zero h k d = absurd (omega arith)
  ascends_at (a ∷ l) up zero (suc j) h k d = up.0 (get_or l j d) (mem_get_or l j d (omega arith))
  ascends_at (a ∷ l) up (suc i) (suc j) h k d = ascends_at l up.1 i j (omega arith) (omega arith) d

  -- a list after one whose elements all come before its own
  pub ascends_append : (l m : List A) → Ascends Lt l → Ascends Lt m → ((a b : A) → Memᴰ a l → Memᴰ b m → Lt a b) → Ascends Lt (l ++ m)
  unfolding Ascends
  ascends_append [] m x y h = y
  ascends_append (a ∷ l) m x y h =
      (λ b k. ⊎_elim (x.0 b) (h a b (Memᴰ.head refl)) (Memᴰ.append_cases l k), ascends_append l m x.1 y (λ c b i. h c b (Memᴰ.tail i)))

  -- those that pass a test
  pub ascends_filter : (test : A → Bool) (l : List A) → Ascends Lt l → Ascends Lt (filter test l)
  unfolding Ascends filter
  ascends_filter test [] up = tt
  ascends_filter test (a ∷ l) up = cond_ind (Ascends Lt) (a ∷ filter test l) (filter test l) (test a)
      (λ e. (λ b k. up.0 b (filter_mem test l b k).0, ascends_filter test l up.1)) (λ e. ascends_filter test l up.1)

module _ {A B : Type 0} (Lt : A → A → Type 0) (Lt' : B → B → Type 0) (f : A → B) (keeps : (a b : A) → Lt a b → Lt' (f a) (f b)) where
  -- mapped by a function that keeps the order
  pub ascends_map : (l : List A) → Ascends Lt l → Ascends Lt' (map f l)
  unfolding Ascends
  ascends_map [] up = tt
  ascends_map (a ∷ l) up = (λ b k. let w = map_mem f l b k in rw w.2 (keeps a w.0 (up.0 w.0 w.1)), ascends_map l up.1)

module _ {A : Type 0} {Lt : A → A → Type 0} (asym : (a b : A) → Lt a b → ¬ Lt b a) where
  -- what stands in front stands nowhere after it
  not_again : {a x : A} {l : List A} → Ascends Lt (x ∷ l) → a ≡ x → ¬ Memᴰ a l
  unfolding Ascends
  not_again {a} {x} up e i = let h : Lt a a = rw (← e) at (up.0 a i) in asym a a h h

  -- of the list and of its first k: the first element is the same,
  front : {k : ℕ} {x y : A} {l m : List A} → Firsts Lt (λ a. Memᴰ a (x ∷ m)) k (y ∷ l) → Ascends Lt (x ∷ m) → y ≡ x
  unfolding Ascends
  front {x = x} {y = y} w up =
      ⊎_elim (λ e. e) (λ i. ⊎_elim (λ e. sym e) (λ h. absurd (asym x y (up.0 y i) h)) not_after) (Memᴰ.cases_cons (w.member y (Memᴰ.head refl)))
    where
      not_after : (x ≡ y) ⊎ Lt y x
      not_after = ⊎_elim
          (λ i. ⊎_elim (λ e. inl e) (λ j. inr (w.ascends.0 x j)) (Memᴰ.cases_cons i))
          (λ i. inr (i.1 y (Memᴰ.head refl)))
          (w.all x (Memᴰ.head refl))

  -- and so is the rest
  rest : {k : ℕ} {x y : A} {l m : List A} → Firsts Lt (λ a. Memᴰ a (x ∷ m)) (suc k) (y ∷ l) → Ascends Lt (x ∷ m) → y ≡ x →
      Firsts Lt (λ a. Memᴰ a m) k l
  unfolding Ascends
  rest w up e = record {
    member = λ a i. ⊎_elim (λ q. absurd (not_again w.ascends (q ∙ sym e) i)) (λ j. j) (Memᴰ.cases_cons (w.member a (Memᴰ.tail i)));
    ascends = w.ascends.1;
    most = omega (arith, w.most);
    all = λ a i. ⊎_elim
        (λ j. ⊎_elim (λ q. absurd (not_again up (q ∙ e) i)) (λ n. inl n) (Memᴰ.cases_cons j))
        (λ j. inr (omega (arith, j.0), λ b n. j.1 b (Memᴰ.tail n)))
        (w.all a (Memᴰ.tail i));
  }

  taken : (k : ℕ) (l m : List A) → Firsts Lt (λ a. Memᴰ a m) k l → Ascends Lt m → l ≡ take k m
  unfolding Ascends
  taken zero [] m w up = refl
  taken (suc k) [] [] w up = refl
  taken (suc k) [] (x ∷ m) w up = absurd (⊎_elim (λ i. Memᴰ.not-nil i) (λ i. omega (arith, i.0)) (w.all x (Memᴰ.head refl)))
  taken k (y ∷ l) [] w up = absurd (Memᴰ.not-nil (w.member y (Memᴰ.head refl)))
  taken zero (y ∷ l) (x ∷ m) w up = absurd (omega (arith, w.most))
  taken (suc k) (y ∷ l) (x ∷ m) w up = let e = front w up in rw e (ap (◌∷◌ x) (taken k l m (rest w up e) up.1))

  -- the first k with the property are the first k of the ascending list of all
  pub firsts_taken : {P : A → Type 0} {k : ℕ} {l m : List A} → Firsts Lt P k l → Ascends Lt m → ((a : A) → Memᴰ a m ↔ P a) → l ≡ take k m
  firsts_taken {k = k} {l = l} {m = m} w up h =
      taken k l m (record { member = λ a i. (h a).1 (w.member a i); ascends = w.ascends; most = w.most; all = λ a i. w.all a ((h a).0 i) }) up
