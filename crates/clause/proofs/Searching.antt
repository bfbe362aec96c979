-- A chain over an iterator that says which items are left: `find`, `any`, and `count` of the literals that are one.
use mathlib.Core.Path.{◌≡◌, ap, sym, ◌∙◌}
use mathlib.Core.Bool.{Bool, true, false, cond}
use mathlib.Core.List.Memᴰ
use mathlib.Core.List.{List, [], ◌∷◌, Memᴰ}
use mathlib.Core.Logic.{⊎_elim}
use Prim.Native.Nat.{◌+◌}
use native.Mathlib.Omega.{arith}
use denote.Param.Members.{Mut, Called}
use denote.Ref.{Bor}
use lib.ListN.{length}
use Rattle.std.specs.Prelude.{Option, None, Some, IfSome, MatchOption, filter}
use Rattle.std.specs.Fn.{CalledAt}
use Rattle.std.specs.Iterator.{YieldsFirst, YieldsThen}
use Rattle.std.specs.List.{FoldsTo}
use Rattle.general.specs.Booleans.{bit, true_not_false}
use Rattle.general.specs.Search.{find, find_end, find_here, find_later}
use Rattle.literal.specs.declared.Literal.{Literal}
use Rattle.literal.specs.Literal.{same}
use Rattle.theory.specs.Formula.{Clause}
use Rattle.theory.specs.Rules.{occurs}

module _ {S A F : Type 0} (rest : S → List A) (g : Mut F (Bor A × Unit {0}) Bool) (test : A → Bool) (f : F)
    (says : (x : A) (b : Bool) (q : F) → CalledAt g f x b q → (q ≡ f) × (b ≡ test x)) where
  pub finds : (xs : List A) (s u : S) (r : Option A) (j : F) → YieldsThen (YieldsFirst rest) s xs r u → FoldsTo (λ p x q. CalledAt g p x false q) f xs j →
      IfSome r (λ x. (h : F) × CalledAt g j x true h) → r ≡ find test (rest s)
  finds [] s u None j y e i = sym (find_end test (ap rest y.1 ∙ y.2.0))
  finds [] s u (Some x) j y e i = sym (find_here test (ap rest y.1 ∙ y.2) (sym (says x true i.0 (rw (← e) at i.1)).1))
  finds (x ∷ xs) s u r j y e i =
      let w = says x false e.0 e.1 in
      finds xs y.1.0 u r j (y.0, y.1.2, y.2) (rw w.0 at e.2) i ∙ sym (find_later test y.1.1 (sym w.1))

-- where no item passes
module _ {S A F : Type 0} (rest : S → List A) (g : Mut F (A × Unit {0}) Bool) (P : A → Type 0) (f : F)
    (says : (x : A) (q : F) → Called g f (x, tt) false q → (q ≡ f) × P x) where
  pub none_passes : (xs : List A) (s u : S) (o : Option A) (j : F) (r : Bool) (Z : A → Type 0) → YieldsThen (YieldsFirst rest) s xs o u → FoldsTo (λ p x q. Called g p (x, tt) false q) f xs j →
      MatchOption o (r ≡ false) (λ x. (r ≡ true) × Z x) → r ≡ false → (x : A) → Memᴰ x (rest s) → P x
  none_passes [] s u None j r Z y e i n x m = absurd (Memᴰ.not-nil (rw (ap rest y.1 ∙ y.2.0) at m))
  none_passes [] s u (Some x) j r Z y e i n z m = absurd (true_not_false i.0 n)
  none_passes (z ∷ xs) s u o j r Z y e i n x m =
      let w = says z e.0 e.1 in
      ⊎_elim (λ (q : x ≡ z). rw q w.1) (none_passes xs y.1.0 u o j r Z (y.0, y.1.2, y.2) (rw w.0 at e.2) i n x) (Memᴰ.cases_cons (rw y.1.1 at m))

pub length_occurs : (x : Literal) (c : Clause) → length (filter (λ y. same y x) c) ≡ occurs x c
unfolding occurs
length_occurs x [] = omega arith
length_occurs x (y ∷ c) = go (same y x) (filter (λ z. same z x) c) (length_occurs x c)
  where
    go : (b : Bool) (l : Clause) → length l ≡ occurs x c → length (cond b (y ∷ l) l) ≡ bit b + occurs x c
    go true l e = omega arith
    go false l e = omega arith
