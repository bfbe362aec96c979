-- How many elements of a list pass a test.
use Rattle.std.specs.Prelude.{◌≡◌, Bool, ℕ, ◌+◌, ◌<◌, ◌≤◌}
use Rattle.std.proofs.Math.Path.{refl, ap}
use Rattle.std.proofs.Common.{sym, ◌∙◌}
use Rattle.std.proofs.Math.Bool.{true, false}
use Rattle.std.proofs.Math.Logic.{⊎_elim}
use mathlib.Core.List.Memᴰ
use mathlib.Core.List.{List, [], ◌∷◌, Memᴰ}
use native.Mathlib.Omega.{arith}
use Rattle.general.specs.Booleans.{bit}

module _ {A : Type 0} where
  unfoldable pub count : (A → Bool) → List A → ℕ
  count test [] = 0
  count test (x ∷ l) = bit (test x) + count test l

  -- an element that passes, and the count it makes
  pub count_mem : (test : A → Bool) (l : List A) (x : A) → Memᴰ x l → test x ≡ true → 0 < count test l
  unfolding count
  count_mem test [] x m e = absurd (Memᴰ.not-nil m)
  count_mem test (y ∷ l) x m e = ⊎_elim
      (λ (q : x ≡ y). let h : test y ≡ true = ap test (sym q) ∙ e in rw h (omega arith))
      (λ k. omega (arith, count_mem test l x k e))
      (Memᴰ.cases_cons m)

  pub mem_count : (test : A → Bool) (l : List A) → 0 < count test l → (x : A) × Memᴰ x l × (test x ≡ true)
  unfolding count
  mem_count test [] h = absurd (omega arith)
  mem_count test (y ∷ l) h = go (test y) refl h (mem_count test l)
    where
      go : (b : Bool) → test y ≡ b → 0 < bit b + count test l → (0 < count test l → (x : A) × Memᴰ x l × (test x ≡ true)) →
          (x : A) × Memᴰ x (y ∷ l) × (test x ≡ true)
      go true e h ih = (y, Memᴰ.head refl, e)
      go false e h ih = let w = ih (omega arith) in (w.0, Memᴰ.tail w.1, w.2)

  -- tests that are alike at each element
  pub count_same : (a b : A → Bool) → ((x : A) → bit (a x) ≡ bit (b x)) → (l : List A) → count a l ≡ count b l
  unfolding count
  count_same a b h [] = refl
  count_same a b h (x ∷ l) = omega (arith, h x, count_same a b h l)

  pub count_less : (a b : A → Bool) → ((x : A) → bit (a x) ≤ bit (b x)) → (l : List A) → count a l ≤ count b l
  unfolding count
  count_less a b h [] = omega arith
  count_less a b h (x ∷ l) = omega (arith, h x, count_less a b h l)

  pub count_none : (a : A → Bool) → ((x : A) → bit (a x) ≡ 0) → (l : List A) → count a l ≡ 0
  unfolding count
  count_none a h [] = refl
  count_none a h (x ∷ l) = omega (arith, h x, count_none a h l)

  pub count_plus : (a b e : A → Bool) → ((x : A) → bit (a x) ≡ bit (b x) + bit (e x)) → (l : List A) → count a l ≡ count b l + count e l
  unfolding count
  count_plus a b e h [] = refl
  count_plus a b e h (x ∷ l) = omega (arith, h x, count_plus a b e h l)
