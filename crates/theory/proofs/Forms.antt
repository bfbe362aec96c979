-- What a closed clause holds, by the three forms, and that rules 1 to 6 do not fit it.
use mathlib.Core.Path.{◌≡◌, refl, ap, sym, ◌∙◌}
use mathlib.Core.Bool.{Bool, true, false, not, ◌&&◌}
use mathlib.Core.Logic.{◌⊎◌, inl, inr, ◌≢◌, ⊎_elim}
use Rattle.std.specs.Prelude.{Option, None, Some, option_and_then}
use mathlib.Core.List.Memᴰ
use mathlib.Core.List.{[], ◌∷◌, Memᴰ}
use Prim.Native.Nat.{ℕ, ◌≤◌}
use native.Mathlib.Omega.{arith}
use lib.Dec.{eqb, leb}
use lib.ListN.{length}
use borrow.Author.Tests.{eqb-true, eqb-false, not-true, eq-eqb, ne_eqb, lt-leb}
use Rattle.general.specs.Booleans.{and_true}
use Rattle.general.specs.Search.{Finds, find_finds, find_nothing}
use Rattle.literal.specs.declared.Literal.{Literal}
use Rattle.literal.specs.Literal.{TRUE, var, opposite, is_open}
use Rattle.theory.specs.Formula.{Clause}
use Rattle.theory.specs.declared.Step.{Step}
use Rattle.theory.specs.Rules.{when, becomes_false, occurs, stands, none_true, differ, complementary, other, rule2, rule3, rule4, rule5, rule6}
use Rattle.theory.proofs.Literals.{opposite_opposite, var_opposite, opposite_ne, literal_cases}
use Rattle.theory.proofs.Clauses.{occurs_here, occurs_other, mem_occurs, occurs_mem, stands_mem}
use Rattle.theory.proofs.Closed.{Alive, Closed, met, resting, alive, Quiet, alive_none_true}

pub closed_once : {d : Clause} → Closed d → (v : Literal) → occurs v d ≤ 1
unfolding occurs
closed_once met v = ⊎_elim (λ (e : TRUE ≡ v). rw (← e) (omega arith)) (λ (h : TRUE ≢ v). omega (arith, occurs_other v TRUE [] h)) (literal_cases TRUE v)
closed_once (resting x o) v = ⊎_elim
    (λ (e : x ≡ v). rw (← e) (omega (arith, occurs_here x (opposite x ∷ []), occurs_other x (opposite x) [] (opposite_ne x))))
    (λ (h : x ≢ v). omega (arith, occurs_other v x (opposite x ∷ []) h, one (opposite x)))
    (literal_cases x v)
  where
    one : (y : Literal) → occurs v (y ∷ []) ≤ 1
    one y = ⊎_elim (λ (e : y ≡ v). rw e (omega (arith, occurs_here v []))) (λ (h : y ≢ v). omega (arith, occurs_other v y [] h)) (literal_cases y v)
closed_once (alive a) v = a.once v

pub in_pair : {x y : Literal} (z : Literal) → Memᴰ z (x ∷ y ∷ []) → (z ≡ x) ⊎ (z ≡ y)
in_pair z m = ⊎_elim inl (λ k. inr (Memᴰ.eq_of_singleton k)) (Memᴰ.cases_cons m)

-- with a true literal nothing else stands
pub closed_met : {d : Clause} → Closed d → Memᴰ TRUE d → (v : Literal) → Memᴰ v d → v ≡ TRUE
closed_met met t v m = Memᴰ.eq_of_singleton m
closed_met (resting x o) t v m = absurd (⊎_elim
    (λ (e : TRUE ≡ x). omega (arith, ap var e))
    (λ (e : TRUE ≡ opposite x). omega (arith, ap var e, var_opposite x))
    (in_pair TRUE t))
closed_met {d} (alive a) t v m = absurd (omega (arith, mem_occurs d TRUE t, alive_none_true a))

-- with a literal and its opposite nothing else stands
pub closed_opposites : {d : Clause} → Closed d → (y v : Literal) → Memᴰ y d → Memᴰ (opposite y) d → Memᴰ v d → (v ≡ y) ⊎ (v ≡ opposite y)
closed_opposites met y v my mo m = inl (Memᴰ.eq_of_singleton m ∙ sym (Memᴰ.eq_of_singleton my))
closed_opposites (resting x o) y v my mo m = ⊎_elim
    (λ (e : y ≡ x). ⊎_elim (λ q. inl (q ∙ sym e)) (λ q. inr (q ∙ ap opposite (sym e))) (in_pair v m))
    (λ (e : y ≡ opposite x). ⊎_elim (λ q. inr (q ∙ sym (opposite_opposite x) ∙ ap opposite (sym e))) (λ q. inl (q ∙ sym e)) (in_pair v m))
    (in_pair y my)
closed_opposites {d} (alive a) y v my mo m = absurd (omega (arith, mem_occurs d (opposite y) mo, a.apart y my))

-- with literals of two variables a clause is live
pub closed_differ : {d : Clause} → Closed d → (v k : Literal) → Memᴰ v d → Memᴰ k d → var v ≢ var k → Alive d
closed_differ met v k mv mk h = absurd (h (ap var (Memᴰ.eq_of_singleton mv ∙ sym (Memᴰ.eq_of_singleton mk))))
closed_differ (resting x o) v k mv mk h = absurd (h (of_x v mv ∙ sym (of_x k mk)))
  where
    of_x : (z : Literal) → Memᴰ z (x ∷ opposite x ∷ []) → var z ≡ var x
    of_x z m = ⊎_elim (λ q. ap var q) (λ q. ap var q ∙ var_opposite x) (in_pair z m)
closed_differ (alive a) v k mv mk h = a

-- short closed clauses, by their list
module _ {d : Clause} (k : Closed d) where
  pub short_none : d ≡ [] → ⊥
  short_none e = go k (ap length e)
    where
      go : {d : Clause} → Closed d → length d ≡ 0 → ⊥
      go met h = omega arith
      go (resting x o) h = omega arith
      go (alive a) h = omega (arith, a.three)

  pub short_one : (v : Literal) → d ≡ v ∷ [] → v ≡ TRUE
  short_one v e = go k e
    where
      go : {d : Clause} → Closed d → d ≡ v ∷ [] → v ≡ TRUE
      go met q = cc
      go (resting x o) q = absurd (let z : ◌≡◌ {A = ℕ} 2 1 = ap length q in omega arith)
      go (alive a) q = absurd (omega (arith, a.three, ap length q))

  pub short_two : (v w : Literal) → d ≡ v ∷ w ∷ [] → w ≡ opposite v
  short_two v w e = go k e
    where
      go : {d : Clause} → Closed d → d ≡ v ∷ w ∷ [] → w ≡ opposite v
      go met q = absurd (let z : ◌≡◌ {A = ℕ} 1 2 = ap length q in omega arith)
      go (resting x o) q = let a : x ≡ v = cc in let b : opposite x ≡ w = cc in sym b ∙ ap opposite a
      go (alive a) q = absurd (omega (arith, a.three, ap length q))

-- rules 1 to 6 ---------------------------------------------------------------------------------------------------

module _ {c : Clause} (k : Closed c) where
  shut : (b : Bool) (o : Option Step) → (b ≡ true → o ≡ None) → when b o ≡ None
  shut true o h = h refl
  shut false o h = refl

  quiet_2 : rule2 c ≡ None
  quiet_2 = shut (eqb (occurs TRUE c) 1) _ (λ e. ap becomes_false (find_nothing is_open c (λ x m.
      ap is_open (closed_met k (occurs_mem c TRUE (let h = eqb-true (occurs TRUE c) 1 e in omega arith)) x m))))

  quiet_3 : rule3 c ≡ None
  quiet_3 = go c refl
    where
      go : (d : Clause) → c ≡ d → rule3 d ≡ None
      go [] e = refl
      go (x ∷ []) e = rw (short_one k x e)
      go (x ∷ y ∷ d) e = refl

  quiet_4 : rule4 c ≡ None
  quiet_4 = shut (none_true c) _ (λ e. ap becomes_false (find_nothing (λ x. leb 2 (occurs x c)) c (λ x m. lt-leb 2 (occurs x c) (let h = closed_once k x in omega arith))))

  quiet_5 : rule5 c ≡ None
  quiet_5 = shut (none_true c) _ (λ e. ap becomes_false (nothing (complementary c) (find_finds (λ x. stands (opposite x) c) c)))
    where
      nothing : (o : Option Literal) → Finds (λ x. stands (opposite x) c) c o → option_and_then (other c) o ≡ None
      nothing None h = refl
      nothing (Some x) h = find_nothing (λ y. differ x y) c (λ y m. ap not (eq-eqb (var x) (var y) (⊎_elim
          (λ q. sym (ap var q))
          (λ q. sym (ap var q ∙ var_opposite x))
          (closed_opposites k x y h.0 (stands_mem c (opposite x) h.1) m))))

  quiet_6 : rule6 c ≡ None
  quiet_6 = go c refl
    where
      go : (d : Clause) → c ≡ d → rule6 d ≡ None
      go [] e = refl
      go (x ∷ []) e = refl
      go (x ∷ y ∷ []) e = shut (is_open x && is_open y && differ x y) _ (λ b.
          absurd (eqb-false (var x) (var y) (not-true _ (and_true (is_open x && is_open y) (differ x y) b).1) (sym (ap var (short_two k x y e) ∙ var_opposite x))))
      go (x ∷ y ∷ z ∷ d) e = refl

  pub closed_quiet : Quiet c
  closed_quiet = record {
    quiet1 = rw (lt-leb 2 (occurs TRUE c) (let h = closed_once k TRUE in omega arith), ne_eqb (length c) 0 (λ e. short_none k (empty c e)));
    quiet2 = quiet_2;
    quiet3 = quiet_3;
    quiet4 = quiet_4;
    quiet5 = quiet_5;
    quiet6 = quiet_6;
  }
    where
      empty : (d : Clause) → length d ≡ 0 → d ≡ []
      empty [] h = refl
      empty (x ∷ d) h = absurd (omega arith)
