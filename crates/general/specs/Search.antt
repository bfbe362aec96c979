-- The first element of a list that passes a test, and what it says that there is one, or none; and all that pass.
use Rattle.std.specs.Prelude.{◌≡◌, Bool, ◌||◌, cond, ◌⊎◌, get_or}
use Rattle.std.proofs.Math.Path.{refl, ap, sym}
use Rattle.std.proofs.Common.{◌∙◌, inl, inr}
use Rattle.std.proofs.Math.Bool.{true, false, or-false, or_assoc}
use Rattle.std.proofs.Math.Logic.{⊎_elim}
use Rattle.std.specs.Prelude.{Option, None, Some}
use mathlib.Core.List.Memᴰ
use mathlib.Core.List.{List, [], ◌∷◌, ◌++◌, Memᴰ}
use Prim.Native.Nat.{ℕ, zero, suc, ◌+◌, ◌≤◌, ◌<◌}
use Rattle.std.proofs.Math.Decide.{ℕ_discrete}
use native.Mathlib.Omega.{arith}
use Rattle.std.proofs.Math.ListN.{length}
use Rattle.general.specs.Booleans.{true_not_false, cond_ind}
use Rattle.general.specs.Lists.{from}

module _ {A : Type 0} (test : A → Bool) where
  unfoldable pub find : List A → Option A
  find [] = None
  find (x ∷ l) = cond (test x) (Some x) (find l)

  -- by the element in front
  pub find_end : {l : List A} → l ≡ [] → find l ≡ None
  unfolding find
  find_end e = rw e

  pub find_here : {l m : List A} {x : A} → l ≡ x ∷ m → test x ≡ true → find l ≡ Some x
  unfolding find
  find_here e h = rw (e, h)

  pub find_later : {l m : List A} {x : A} → l ≡ x ∷ m → test x ≡ false → find l ≡ find m
  unfolding find
  find_later e h = rw (e, h)

  -- the place of the first element that passes; the list's own first element has place i
  unfoldable pub first_place : ℕ → List A → Option ℕ
  first_place i [] = None
  first_place i (x ∷ l) = cond (test x) (Some i) (first_place (suc i) l)

  pub record First (l : List A) (i : ℕ) : Type 0 where
    pub inside : i < length l
    pub here : (d : A) → test (get_or l i d) ≡ true
    pub earlier : (j : ℕ) → j < i → (d : A) → test (get_or l j d) ≡ false

  first_later : (x : A) (l : List A) (i : ℕ) → test x ≡ false → First l i → First (x ∷ l) (suc i)
  first_later x l i h w = record { inside = omega (arith, w.inside); here = w.here; earlier = before }
    where
      before : (j : ℕ) → j < suc i → (d : A) → test (get_or (x ∷ l) j d) ≡ false
      before zero k d = h
      before (suc j) k d = w.earlier j (omega arith) d

  -- what the place says: none passes, or the element there is the first
  abbrev Placed : ℕ → List A → Option ℕ → Type 0
  Placed i l None = (y : A) → Memᴰ y l → test y ≡ false
  Placed i l (Some p) = (j : ℕ) × (p ≡ i + j) × First l j

  placed : (i : ℕ) (l : List A) → Placed i l (first_place i l)
  unfolding first_place
  placed i [] = λ y m. absurd (Memᴰ.not-nil m)
  placed i (x ∷ l) = go (test x) refl (first_place (suc i) l) (placed (suc i) l)
    where
      go : (b : Bool) → test x ≡ b → (o : Option ℕ) → Placed (suc i) l o → Placed i (x ∷ l) (cond b (Some i) o)
      go true e o w = (0, omega arith, record { inside = omega arith; here = λ d. e; earlier = λ j k. absurd (omega arith) })
      go false e None w = λ y m. ⊎_elim (λ q. ap test q ∙ e) (w y) (Memᴰ.cases_cons m)
      go false e (Some p) w = (suc w.0, omega (arith, w.1), first_later x l w.0 e w.2)

  pub place_none : (i : ℕ) (l : List A) → first_place i l ≡ None → (y : A) → Memᴰ y l → test y ≡ false
  place_none i l e = rw e at (placed i l)

  pub place_some : (i : ℕ) (l : List A) (p : ℕ) → first_place i l ≡ Some p → (j : ℕ) × (p ≡ i + j) × First l j
  place_some i l p e = rw e at (placed i l)

  pub none_placed : (i : ℕ) (l : List A) → ((y : A) → Memᴰ y l → test y ≡ false) → first_place i l ≡ None
  unfolding first_place
  none_placed i [] h = refl
  none_placed i (x ∷ l) h = rw (h x (Memᴰ.head refl)) (none_placed (suc i) l (λ y m. h y (Memᴰ.tail m)))

  -- those that pass, in their order
  unfoldable pub filter : List A → List A
  filter [] = []
  filter (x ∷ l) = cond (test x) (x ∷ filter l) (filter l)

  -- an element that passes is among them
  pub mem_filter : (l : List A) (x : A) → Memᴰ x l → test x ≡ true → Memᴰ x (filter l)
  unfolding filter
  mem_filter [] x m e = absurd (Memᴰ.not-nil m)
  mem_filter (y ∷ l) x m e = cond_ind (Memᴰ x) (y ∷ filter l) (filter l) (test y)
      (λ q. ⊎_elim (λ p. Memᴰ.head p) (λ k. Memᴰ.tail (mem_filter l x k e)) (Memᴰ.cases_cons m))
      (λ q. ⊎_elim (λ p. absurd (true_not_false e (ap test p ∙ q))) (λ k. mem_filter l x k e) (Memᴰ.cases_cons m))

  -- and they are elements that pass
  pub filter_mem : (l : List A) (x : A) → Memᴰ x (filter l) → Memᴰ x l × (test x ≡ true)
  unfolding filter
  filter_mem [] x = λ m. absurd (Memᴰ.not-nil m)
  filter_mem (y ∷ l) x = cond_ind (λ r. Memᴰ x r → Memᴰ x (y ∷ l) × (test x ≡ true)) (y ∷ filter l) (filter l) (test y)
      (λ q m. ⊎_elim (λ p. (Memᴰ.head p, ap test p ∙ q)) (λ k. let w = filter_mem l x k in (Memᴰ.tail w.0, w.1)) (Memᴰ.cases_cons m))
      (λ q m. let w = filter_mem l x m in (Memᴰ.tail w.0, w.1))

  -- no more than there were
  pub filter_length : (l : List A) → length (filter l) ≤ length l
  unfolding filter
  filter_length [] = omega arith
  filter_length (x ∷ l) = cond_ind (λ r. length r ≤ suc (length l)) (x ∷ filter l) (filter l) (test x)
      (λ q. omega (arith, filter_length l)) (λ q. omega (arith, filter_length l))

  unfoldable pub any : List A → Bool
  any [] = false
  any (x ∷ l) = test x || any l

  -- one element more at the end
  pub any_last : (l : List A) (x : A) → any (l ++ (x ∷ [])) ≡ (any l || test x)
  unfolding any
  any_last [] x = or-false (test x)
  any_last (y ∷ l) x = ap (◌||◌ (test y)) (any_last l x) ∙ sym (or_assoc (test y) (any l) (test x))

  -- what the answer says: none passes, or an element that passes
  abbrev pub Finds : List A → Option A → Type 0
  Finds l None = (y : A) → Memᴰ y l → test y ≡ false
  Finds l (Some y) = Memᴰ y l × (test y ≡ true)

  pub find_finds : (l : List A) → Finds l (find l)
  unfolding find
  find_finds [] = λ y m. absurd (Memᴰ.not-nil m)
  find_finds (x ∷ l) = go (test x) refl (find l) (find_finds l)
    where
      go : (b : Bool) → test x ≡ b → (o : Option A) → Finds l o → Finds (x ∷ l) (cond b (Some x) o)
      go true e o w = (Memᴰ.head refl, e)
      go false e None w = λ y m. ⊎_elim (λ q. ap test q ∙ e) (w y) (Memᴰ.cases_cons m)
      go false e (Some y) w = (Memᴰ.tail w.0, w.1)

  pub find_none : (l : List A) → find l ≡ None → (y : A) → Memᴰ y l → test y ≡ false
  find_none l e = rw e at (find_finds l)

  pub find_nothing : (l : List A) → ((y : A) → Memᴰ y l → test y ≡ false) → find l ≡ None
  find_nothing l h = go (find l) (find_finds l)
    where
      go : (o : Option A) → Finds l o → o ≡ None
      go None w = refl
      go (Some y) w = absurd (true_not_false w.1 (h y w.0))

  pub find_some : (l : List A) (y : A) → find l ≡ Some y → Memᴰ y l × (test y ≡ true)
  find_some l y e = rw e at (find_finds l)

  pub any_true : (l : List A) → any l ≡ true → (x : A) × Memᴰ x l × (test x ≡ true)
  unfolding any
  any_true [] e = absurd (true_not_false e refl)
  any_true (x ∷ l) e = go (test x) refl (any_true l) e
    where
      go : (b : Bool) → test x ≡ b → (any l ≡ true → (y : A) × Memᴰ y l × (test y ≡ true)) → (b || any l) ≡ true → (y : A) × Memᴰ y (x ∷ l) × (test y ≡ true)
      go true q ih h = (x, Memᴰ.head refl, q)
      go false q ih h = let w = ih h in (w.0, Memᴰ.tail w.1, w.2)

  pub any_intro : (l : List A) (x : A) → Memᴰ x l → test x ≡ true → any l ≡ true
  unfolding any
  any_intro [] x m e = absurd (Memᴰ.not-nil m)
  any_intro (y ∷ l) x m e = go (test y) refl (Memᴰ.cases_cons m) (any_intro l x)
    where
      go : (b : Bool) → test y ≡ b → (x ≡ y) ⊎ Memᴰ x l → (Memᴰ x l → test x ≡ true → any l ≡ true) → (b || any l) ≡ true
      go true q m ih = refl
      go false q (inl p) ih = absurd (true_not_false e (ap test p ∙ q))
      go false q (inr k) ih = ih k e

-- the first of the numbers k, k + 1, .. that passes, of n of them
module _ (test : ℕ → Bool) where
  abbrev pub FindsFrom : ℕ → ℕ → Option ℕ → Type 0
  FindsFrom k n None = (i : ℕ) → k ≤ i → i < k + n → test i ≡ false
  FindsFrom k n (Some p) = (k ≤ p) × (p < k + n) × (test p ≡ true) × ((i : ℕ) → k ≤ i → i < p → test i ≡ false)

  pub find_from : (k n : ℕ) → FindsFrom k n (find test (from (λ i. i) k n))
  unfolding find from
  find_from k zero = λ i l h. absurd (omega arith)
  find_from k (suc n) = go (test k) refl (find test (from (λ i. i) (suc k) n)) (find_from (suc k) n)
    where
      later : test k ≡ false → (i : ℕ) → k ≤ i → (suc k ≤ i → test i ≡ false) → test i ≡ false
      later e i l h = elim (ℕ_discrete i k) [ yes q ↦ rw q e | no q ↦ h (omega arith) ]

      go : (b : Bool) → test k ≡ b → (o : Option ℕ) → FindsFrom (suc k) n o → FindsFrom k (suc n) (cond b (Some k) o)
      go true e o w = (omega arith, omega arith, e, λ i l h. absurd (omega arith))
      go false e None w = λ i l h. later e i l (λ j. w i j (omega arith))
      go false e (Some p) w = (omega (arith, w.0), omega (arith, w.1), w.2, λ i l h. later e i l (λ j. w.3 i j h))
