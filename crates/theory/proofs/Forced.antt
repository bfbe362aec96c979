-- A state that no rule fits and that refines s takes both sides of every step asked at s for the same, and s is no dead end.
-- Solutions are such states too, so this one fact says that propagation keeps solutions and that its end does not depend on the order of steps.
use mathlib.Core.Path.{◌≡◌, refl, ap, sym, ◌∙◌}
use mathlib.Core.Logic.{◌≢◌, ⊎_elim}
use Rattle.std.specs.Prelude.{None}
use mathlib.Core.List.{[], ◌∷◌, Memᴰ}
use Prim.Native.Nat.{ℕ, suc}
use native.Mathlib.Omega.{arith}
use lib.ListN.{length}
use Rattle.general.specs.Lists.{before_left, before_right}
use Rattle.literal.specs.declared.Literal.{Literal}
use Rattle.literal.specs.Literal.{TRUE, FALSE, var, opposite}
use Rattle.theory.specs.Formula.{Clause, Formula}
use Rattle.theory.specs.State.{State, value, stand, standing}
use Rattle.theory.specs.Rules.{rule7, rule8}
use Rattle.theory.proofs.Literals.{opposite_opposite, var_opposite, opposite_ne, literal_cases, relation}
use Rattle.theory.proofs.States.{Based, base_true, base_false, Refines, value_opposite}
use Rattle.theory.proofs.Clauses.{mem_occurs, stand_ind, mem_standing, standing_refines, occurs_image, occurs_images}
use Rattle.theory.proofs.Closed.{Closed, quiet_closed, alive_both, no_common, no_crossed}
use Rattle.theory.proofs.Forms.{closed_once, closed_met, closed_opposites, closed_differ, short_none, short_one, short_two}
use Rattle.theory.proofs.Asks.{AsksOne, one_true_lem, only_one, stands_twice, opposites, only_two, AsksTwo, common, crossed, Asks, by_one, by_two, Dies, Rests, standing_no_false}

TRUE_not_FALSE : TRUE ≢ FALSE
TRUE_not_FALSE = opposite_ne FALSE

-- what a closed state makes of a clause c as it stands in s -------------------------------------------------------

module _ {u : State} (base : Based u) where
  of_false : (x : Literal) → value u x ≡ FALSE → value u x ≡ value u FALSE
  of_false x e = e ∙ sym (base_false base)

  flipped : (y : Literal) → value u y ≡ FALSE → value u (opposite y) ≡ TRUE
  flipped y e = value_opposite u y ∙ ap opposite e

  unflipped : (y : Literal) → value u (opposite y) ≡ FALSE → value u y ≡ TRUE
  unflipped y e = sym (opposite_opposite (value u y)) ∙ ap opposite (sym (value_opposite u y) ∙ e)

  module _ (c : Clause) (k : Closed (standing u c)) where
    image : (x : Literal) → Memᴰ x c → value u x ≢ FALSE → Memᴰ (value u x) (standing u c)
    image x m h = mem_standing u c x m h

    -- two literals of one value are both false
    image_apart : (x y : Literal) → Memᴰ x c → Memᴰ y c → x ≢ y → value u x ≡ value u y → value u x ≡ FALSE
    image_apart x y mx my d e = ⊎_elim (λ q. q)
        (λ (h : value u x ≢ FALSE). absurd (omega (arith, occurs_images u (value u x) h x y d refl (sym e) c, mem_occurs c x mx, mem_occurs c y my, closed_once k (value u x))))
        (literal_cases (value u x) FALSE)

    -- beside a literal that is true any other is false
    pub beside_true : (x y : Literal) → Memᴰ x c → Memᴰ y c → x ≢ y → value u y ≡ TRUE → value u x ≡ FALSE
    beside_true x y mx my d e = ⊎_elim (λ q. q)
        (λ (h : value u x ≢ FALSE).
        let t : Memᴰ TRUE (standing u c) = rw e at (image y my (λ q. TRUE_not_FALSE (sym e ∙ q))) in
        image_apart x y mx my d (closed_met k t (value u x) (image x mx h) ∙ sym e))
        (literal_cases (value u x) FALSE)

    beside_opposites : (x y : Literal) → Memᴰ x c → Memᴰ y c → Memᴰ (opposite y) c → var x ≢ var y → value u x ≡ FALSE
    beside_opposites x y mx my mo d = ⊎_elim (λ q. q)
        (λ (h : value u x ≢ FALSE). ⊎_elim
        (λ (e : value u y ≡ FALSE). beside_true x (opposite y) mx mo not_opposite (flipped y e))
        (λ (e : value u y ≢ FALSE). ⊎_elim
        (λ (o : value u (opposite y) ≡ FALSE). beside_true x y mx my not_same (unflipped y o))
        (λ (o : value u (opposite y) ≢ FALSE). ⊎_elim
        (λ q. image_apart x y mx my not_same q)
        (λ q. image_apart x (opposite y) mx mo not_opposite (q ∙ sym (value_opposite u y)))
        (closed_opposites k (value u y) (value u x) (image y my e) (rw (value_opposite u y) at (image (opposite y) mo o)) (image x mx h)))
        (literal_cases (value u (opposite y)) FALSE))
        (literal_cases (value u y) FALSE))
        (literal_cases (value u x) FALSE)
      where
        not_same : x ≢ y
        not_same q = d (ap var q)

        not_opposite : x ≢ opposite y
        not_opposite q = d (ap var q ∙ var_opposite y)

  alone : (x : Literal) → Closed (standing u (x ∷ [])) → value u x ≡ TRUE
  unfolding standing
  alone x k = stand_ind (λ v d. Closed d → v ≡ TRUE) [] (λ k. absurd (short_none k refl)) (λ v h k. short_one k v refl) (value u x) k

  pair : (y z : Literal) → Closed (standing u (y ∷ z ∷ [])) → value u z ≡ opposite (value u y)
  unfolding standing
  pair y z k = stand_ind (λ b d. Closed (stand (value u y) d) → b ≡ opposite (value u y)) []
      (λ k. stand_ind (λ a d. Closed d → FALSE ≡ opposite a) [] (λ k. absurd (short_none k refl)) (λ a h k. sym (ap opposite (short_one k a refl))) (value u y) k)
      (λ b h k. stand_ind (λ a d. Closed d → b ≡ opposite a) (b ∷ []) (λ k. short_one k b refl) (λ a g k. short_two k a b refl) (value u y) k)
      (value u z) k

  forced_one : (c : Clause) → Closed (standing u c) → {x t : Literal} → AsksOne c x t → value u x ≡ value u t
  forced_one c k (one_true_lem {x = x} mt mx o) = of_false x (beside_true c k x TRUE mx mt (λ e. omega (arith, ap var e)) (base_true base))
  forced_one c k (only_one {x = x} e o) = alone x (rw e at k) ∙ sym (base_true base)
  forced_one c k (stands_twice {x = x} h o) = of_false x (⊎_elim (λ q. q)
      (λ (d : value u x ≢ FALSE). absurd (omega (arith, occurs_image u (value u x) d x refl c, closed_once k (value u x))))
      (literal_cases (value u x) FALSE))
  forced_one c k (opposites {x = x} y my mo mx o d) = of_false x (beside_opposites c k x y mx my mo d)
  forced_one c k (only_two y z e oy oz t) = t.alike u (pair y z (rw e at k))

  module _ (g h : Clause) (kg : Closed (standing u g)) (kh : Closed (standing u h)) where
    forced_common : (x y : Literal) → rule7 (standing u g) (standing u h) ≡ None → Memᴰ x g → Memᴰ x h → Memᴰ y g → Memᴰ (opposite y) h →
        var x ≢ var y → value u x ≡ FALSE
    forced_common x y r xg xh yg yh d = ⊎_elim (λ q. q)
        (λ (v : value u x ≢ FALSE). ⊎_elim
        (λ (e : value u y ≡ FALSE). beside_true h kh x (opposite y) xh yh not_opposite (flipped y e))
        (λ (e : value u y ≢ FALSE). ⊎_elim
        (λ (o : value u (opposite y) ≡ FALSE). beside_true g kg x y xg yg not_same (unflipped y o))
        (λ (o : value u (opposite y) ≢ FALSE). ⊎_elim
        (λ q. image_apart g kg x y xg yg not_same q)
        (λ w. ⊎_elim
        (λ (q : value u x ≡ opposite (value u y)). image_apart h kh x (opposite y) xh yh not_opposite (q ∙ sym (value_opposite u y)))
        (λ (q : var (value u x) ≢ var (value u y)).
        let vg = image g kg x xg v in
        let vh = image h kh x xh v in
        let bg = image g kg y yg e in
        let bh : Memᴰ (opposite (value u y)) (standing u h) = rw (value_opposite u y) at (image h kh (opposite y) yh o) in
        absurd (no_common
        (alive_both (closed_differ kg (value u x) (value u y) vg bg q) (closed_differ kh (value u x) (opposite (value u y)) vh bh (λ p. q (p ∙ var_opposite (value u y)))))
        r (value u x) (value u y) vg vh bg bh q))
        w)
        (relation (value u x) (value u y)))
        (literal_cases (value u (opposite y)) FALSE))
        (literal_cases (value u y) FALSE))
        (literal_cases (value u x) FALSE)
      where
        not_same : x ≢ y
        not_same q = d (ap var q)

        not_opposite : x ≢ opposite y
        not_opposite q = d (ap var q ∙ var_opposite y)

    forced_crossed : (y z : Literal) → rule8 (standing u g) (standing u h) ≡ None → Memᴰ y g → Memᴰ (opposite y) h → Memᴰ z g → Memᴰ (opposite z) h →
        var y ≢ var z → value u z ≡ opposite (value u y)
    forced_crossed y z r yg yh zg zh d = ⊎_elim
        (λ (e : value u y ≡ FALSE). unflipped z (beside_true h kh (opposite z) (opposite y) zh yh apart_opposites (flipped y e)) ∙ sym (ap opposite e))
        (λ (e : value u y ≢ FALSE). ⊎_elim
        (λ (q : value u z ≡ FALSE). q ∙ sym (ap opposite (unflipped y (beside_true h kh (opposite y) (opposite z) yh zh (λ p. apart_opposites (sym p)) (flipped z q)))))
        (λ (q : value u z ≢ FALSE). ⊎_elim
        (λ (o : value u (opposite y) ≡ FALSE). absurd (q (beside_true g kg z y zg yg (λ p. d (sym (ap var p))) (unflipped y o))))
        (λ (o : value u (opposite y) ≢ FALSE). ⊎_elim
        (λ (j : value u (opposite z) ≡ FALSE). absurd (e (beside_true g kg y z yg zg (λ p. d (ap var p)) (unflipped z j))))
        (λ (j : value u (opposite z) ≢ FALSE). ⊎_elim
        (λ (i : value u z ≡ value u y). absurd (q (image_apart g kg z y zg yg (λ p. d (sym (ap var p))) i)))
        (λ w. ⊎_elim (λ i. i)
        (λ (i : var (value u z) ≢ var (value u y)).
        let ag = image g kg y yg e in
        let bg = image g kg z zg q in
        let ah : Memᴰ (opposite (value u y)) (standing u h) = rw (value_opposite u y) at (image h kh (opposite y) yh o) in
        let bh : Memᴰ (opposite (value u z)) (standing u h) = rw (value_opposite u z) at (image h kh (opposite z) zh j) in
        absurd (no_crossed (alive_both (closed_differ kg (value u z) (value u y) bg ag i)
        (closed_differ kh (opposite (value u z)) (opposite (value u y)) bh ah (λ p. i (sym (var_opposite (value u z)) ∙ p ∙ var_opposite (value u y)))))
        r (value u z) (value u y) bg bh ag ah i))
        w)
        (relation (value u z) (value u y)))
        (literal_cases (value u (opposite z)) FALSE))
        (literal_cases (value u (opposite y)) FALSE))
        (literal_cases (value u z) FALSE))
        (literal_cases (value u y) FALSE)
      where
        apart_opposites : opposite z ≢ opposite y
        apart_opposites p = d (sym (var_opposite y) ∙ sym (ap var p) ∙ var_opposite z)

    forced_two : rule7 (standing u g) (standing u h) ≡ None → rule8 (standing u g) (standing u h) ≡ None → {x t : Literal} → AsksTwo g h x t → value u x ≡ value u t
    forced_two r7 r8 (common {x = x} y xg xh yg yh o d) = of_false x (forced_common x y r7 xg xh yg yh d)
    forced_two r7 r8 (crossed y z yg yh zg zh oy oz t) = t.alike u (forced_crossed y z r8 yg yh zg zh t.apart)

-- at the formula -------------------------------------------------------------------------------------------------

module _ {f : Formula} {s u : State} (base : Based u) (rests : Rests f u) (r : Refines s u) where
  -- a clause as it stands in s is closed in u
  closed_in : (c : Clause) → Memᴰ c f → Closed (standing u (standing s c))
  closed_in c m = rw (standing_refines r base c) (quiet_closed (standing u c) (standing_no_false u c) (rests.quiet c m))

  pub forced : {x t : Literal} → Asks f s x t → value u x ≡ value u t
  forced (by_one c m a) = forced_one base (standing s c) (closed_in c m) a
  forced (by_two g h b a) =
      forced_two base (standing s g) (standing s h) (closed_in g (before_left b)) (closed_in h (before_right b))
      (rw (standing_refines r base g, standing_refines r base h) (rests.quiet7 g h b))
      (rw (standing_refines r base g, standing_refines r base h) (rests.quiet8 g h b)) a

  pub no_dead_end : Dies f s → ⊥
  unfolding standing
  no_dead_end d = ⊎_elim
      (λ h. omega (arith, occurs_image u TRUE TRUE_not_FALSE TRUE (base_true base) (standing s d.clause), closed_once k TRUE))
      (λ e. empty (standing s d.clause) e k)
      d.dead_end
    where
      k : Closed (standing u (standing s d.clause))
      k = closed_in d.clause d.member

      empty : (c : Clause) → c ≡ [] → Closed (standing u c) → ⊥
      empty [] e k = short_none k refl
      empty (x ∷ c) e k = absurd (let z : ◌≡◌ {A = ℕ} (suc (length c)) 0 = ap length e in omega arith)
