-- Where no rule fits: the three forms of a clause, and what rules 7 and 8 say of two live ones.
use mathlib.Core.Path.{◌≡◌, refl, ap, sym, ◌∙◌}
use mathlib.Core.Bool.{true, not, ◌&&◌, and-false}
use mathlib.Core.Logic.{◌≢◌, ⊎_elim}
use Rattle.std.specs.Prelude.{Option, None, Some, option_map}
use Rattle.general.specs.Options.{some-ne-none}
use mathlib.Core.List.{[], ◌∷◌, Memᴰ}
use Prim.Native.Nat.{◌+◌, ◌<◌, ◌≤◌}
use native.Mathlib.Omega.{arith}
use native.Mathlib.Decide.{ℕ_discrete, dec_le}
use lib.Dec.{leb}
use lib.ListN.{length}
use borrow.Author.Tests.{eqb-true, eq-eqb, ne_eqb, leb-false, le-leb, ltb-false, lt-ltb, not-false}
use Rattle.general.specs.Booleans.{bit, true_not_false, and_intro, or_left}
use Rattle.general.specs.Options.{cond_none, map_none, bind_none}
use Rattle.general.specs.Search.{any, find_none, find_some, any_intro}
use Rattle.literal.specs.declared.Literal.{Literal}
use Rattle.literal.specs.Literal.{TRUE, FALSE, var, opposite, same, is_open}
use Rattle.theory.specs.Formula.{Clause}
use Rattle.theory.specs.Rules.{occurs, stands, none_true, differ, complementary, other, is_none, live, partner, pair_in, tie, rule1, rule2, rule3, rule4, rule5, rule6, rule7, rule8}
use Rattle.theory.proofs.Literals.{of_variable_lem, constant}
use Rattle.theory.proofs.Clauses.{occurs_here, occurs_tail, mem_occurs, occurs_mem, mem_stands, stands_mem}

-- a live clause that no rule fits: at least three open literals, of pairwise different variables
pub record Alive (c : Clause) : Type 0 where
  pub opened : (x : Literal) → Memᴰ x c → 0 < var x
  pub once : (x : Literal) → occurs x c ≤ 1
  pub apart : (x : Literal) → Memᴰ x c → occurs (opposite x) c ≡ 0
  pub three : 3 ≤ length c

-- one true and nothing else, a literal and its opposite, or live
pub data Closed : Clause → Type 0 where
  met : Closed (TRUE ∷ [])
  resting : (x : Literal) → 0 < var x → Closed (x ∷ opposite x ∷ [])
  alive : {c : Clause} → Alive c → Closed c

-- rules 1 to 6 fit nowhere in c
pub record Quiet (c : Clause) : Type 0 where
  pub quiet1 : rule1 c ≡ None
  pub quiet2 : rule2 c ≡ None
  pub quiet3 : rule3 c ≡ None
  pub quiet4 : rule4 c ≡ None
  pub quiet5 : rule5 c ≡ None
  pub quiet6 : rule6 c ≡ None

abbrev pub NoFalse : Clause → Type 0
NoFalse c = (x : Literal) → Memᴰ x c → x ≢ FALSE

-- from quiet to closed -------------------------------------------------------------------------------------------

-- neither true nor false
pub open_of : (x : Literal) → x ≢ TRUE → x ≢ FALSE → 0 < var x
open_of x t f = elim (ℕ_discrete (var x) 0) [ yes e ↦ absurd (⊎_elim t f (constant x e)) | no h ↦ omega arith ]

pub not_true_of : (c : Clause) (x : Literal) → occurs TRUE c ≡ 0 → Memᴰ x c → x ≢ TRUE
not_true_of c x z m e = let h : 0 < occurs TRUE c = rw (← e) (mem_occurs c x m) in omega arith

-- one true, and nothing open or false
all_true : (c : Clause) → ((x : Literal) → Memᴰ x c → x ≡ TRUE) → occurs TRUE c ≡ 1 → c ≡ TRUE ∷ []
unfolding occurs
all_true [] h e = absurd (omega arith)
all_true (x ∷ []) h e = ap (λ (l : Literal). l ∷ []) (h x (Memᴰ.head refl))
all_true (x ∷ y ∷ c) h e = absurd (two (h x (Memᴰ.head refl)) (h y (Memᴰ.tail (Memᴰ.head refl))) e)
  where
    two : x ≡ TRUE → y ≡ TRUE → bit (same x TRUE) + (bit (same y TRUE) + occurs TRUE c) ≡ 1 → ⊥
    two p q e = omega (arith, rw (p, q) at e)

-- a literal that stands at the front and again
twice : (x y : Literal) (c : Clause) → Memᴰ x c → y ≡ x → 2 ≤ occurs x (y ∷ c)
twice x y c m e = rw e (omega (arith, occurs_here x c, mem_occurs c x m))

module _ (c : Clause) (no_false : NoFalse c) (q : Quiet c) (no_true : occurs TRUE c ≡ 0) where
  silent : none_true c ≡ true
  silent = eq-eqb (occurs TRUE c) 0 no_true

  quiet_opened : (x : Literal) → Memᴰ x c → 0 < var x
  quiet_opened x m = open_of x (not_true_of c x no_true m) (no_false x m)

  quiet_once : (x : Literal) → occurs x c ≤ 1
  quiet_once x = elim (dec_le (occurs x c) 1) [
    | yes h ↦ h
    | no h ↦
        let e = find_none (λ y. leb 2 (occurs y c)) c (map_none _ _ (cond_none _ _ q.quiet4 silent)) x (occurs_mem c x (omega arith)) in
        omega (arith, leb-false 2 (occurs x c) e)
  ]

  -- where an entry and its opposite stand, nothing of another variable does
  quiet_alone : (x : Literal) → complementary c ≡ Some x → (y : Literal) → Memᴰ y c → var x ≡ var y
  quiet_alone x e y m =
      eqb-true (var x) (var y) (not-false _ (find_none (λ y. differ x y) c (bind_none (complementary c) (other c) x (map_none _ _ (cond_none _ _ q.quiet5 silent)) e) y m))

-- three literals of one variable: one of them stands twice
crowded : (x y z : Literal) (c : Clause) → ((l : Literal) → occurs l (x ∷ y ∷ z ∷ c) ≤ 1) → var y ≡ var x → var z ≡ var x → ⊥
crowded x y z c once p q = ⊎_elim
    (λ (e : y ≡ x). omega (arith, once x, twice x x (y ∷ z ∷ c) (Memᴰ.head (sym e)) refl))
    (λ (e : y ≡ opposite x). ⊎_elim
    (λ (d : z ≡ x). omega (arith, once x, twice x x (y ∷ z ∷ c) (Memᴰ.tail (Memᴰ.head (sym d))) refl))
    (λ (d : z ≡ opposite x). omega (arith, once y, twice y y (z ∷ c) (Memᴰ.head (e ∙ sym d)) refl, occurs_tail y x (y ∷ z ∷ c)))
    (of_variable_lem z x q))
    (of_variable_lem y x p)

-- two literals of different variables are tied by rule 6, and one that stands twice is made false by rule 4
closed_two : (x y : Literal) → NoFalse (x ∷ y ∷ []) → Quiet (x ∷ y ∷ []) → occurs TRUE (x ∷ y ∷ []) ≡ 0 → Closed (x ∷ y ∷ [])
closed_two x y f q z = elim (ℕ_discrete (var x) (var y)) [
  | yes e ↦ ⊎_elim
      (λ (d : y ≡ x). absurd (omega (arith, quiet_once (x ∷ y ∷ []) f q z x, twice x x (y ∷ []) (Memᴰ.head (sym d)) refl)))
      (λ (d : y ≡ opposite x). rw d (resting x here))
      (of_variable_lem y x (sym e))
  | no h ↦ absurd (some-ne-none _ (cond_none _ _ q.quiet6 (and_intro (and_intro (lt-ltb 0 (var x) here) (lt-ltb 0 (var y) there)) (differs h))))
]
  where
    here : 0 < var x
    here = quiet_opened (x ∷ y ∷ []) f q z x (Memᴰ.head refl)

    there : 0 < var y
    there = quiet_opened (x ∷ y ∷ []) f q z y (Memᴰ.tail (Memᴰ.head refl))

    differs : var x ≢ var y → differ x y ≡ true
    differs h = rw (ne_eqb (var x) (var y) h)

closed_many : (x y z : Literal) (c : Clause) → NoFalse (x ∷ y ∷ z ∷ c) → Quiet (x ∷ y ∷ z ∷ c) → occurs TRUE (x ∷ y ∷ z ∷ c) ≡ 0 → Closed (x ∷ y ∷ z ∷ c)
closed_many x y z c f q o = go (complementary (x ∷ y ∷ z ∷ c)) refl
  where
    d : Clause
    d = x ∷ y ∷ z ∷ c

    go : (m : Option Literal) → complementary d ≡ m → Closed d
    go None e = alive (record {
      opened = quiet_opened d f q o;
      once = quiet_once d f q o;
      apart = λ l m. let k = ltb-false 0 (occurs (opposite l) d) (find_none (λ l. stands (opposite l) d) d e l m) in omega arith;
      three = omega arith;
    })
    go (Some l) e =
        let same_as : (k : Literal) → Memᴰ k d → var l ≡ var k = quiet_alone d f q o l e in
        let a : var l ≡ var x = same_as x (Memᴰ.head refl) in
        let b : var l ≡ var y = same_as y (Memᴰ.tail (Memᴰ.head refl)) in
        let h : var l ≡ var z = same_as z (Memᴰ.tail (Memᴰ.tail (Memᴰ.head refl))) in
        absurd (crowded x y z c (quiet_once d f q o) (omega arith) (omega arith))

closed_none_true : (c : Clause) → NoFalse c → Quiet c → occurs TRUE c ≡ 0 → Closed c
unfolding occurs
closed_none_true [] f q z = absurd (some-ne-none _ q.quiet1)
closed_none_true (x ∷ []) f q z =
    absurd (some-ne-none _ (cond_none _ _ q.quiet3 (lt-ltb 0 (var x) (quiet_opened (x ∷ []) f q z x (Memᴰ.head refl)))))
closed_none_true (x ∷ y ∷ []) f q z = closed_two x y f q z
closed_none_true (x ∷ y ∷ z ∷ c) f q o = closed_many x y z c f q o

closed_one_true : (c : Clause) → NoFalse c → Quiet c → occurs TRUE c ≡ 1 → Closed c
closed_one_true c f q e = rw (all_true c only e) met
  where
    only : (x : Literal) → Memᴰ x c → x ≡ TRUE
    only x m =
        let shut = find_none is_open c (map_none _ _ (cond_none _ _ q.quiet2 (eq-eqb (occurs TRUE c) 1 e))) x m in
        ⊎_elim (λ k. k) (λ k. absurd (f x m k)) (constant x (omega (arith, ltb-false 0 (var x) shut)))

pub quiet_closed : (c : Clause) → NoFalse c → Quiet c → Closed c
quiet_closed c f q = elim (ℕ_discrete (occurs TRUE c) 0) [
  | yes z ↦ closed_none_true c f q z
  | no z ↦ elim (ℕ_discrete (occurs TRUE c) 1) [
    | yes e ↦ closed_one_true c f q e
    | no h ↦ absurd (some-ne-none _ (cond_none _ _ q.quiet1 (or_left _ (le-leb 2 (occurs TRUE c) (omega arith)))))
  ]
]

-- live clauses that no rule fits ---------------------------------------------------------------------------------

module _ {c : Clause} (a : Alive c) where
  pub alive_none_true : occurs TRUE c ≡ 0
  alive_none_true = elim (ℕ_discrete (occurs TRUE c) 0) [ yes e ↦ e | no h ↦ absurd (omega (arith, a.opened TRUE (occurs_mem c TRUE (omega arith)))) ]

  alive_complementary : complementary c ≡ None
  alive_complementary = go (complementary c) refl
    where
      go : (m : Option Literal) → complementary c ≡ m → m ≡ None
      go None e = refl
      go (Some x) e =
          let w = find_some (λ l. stands (opposite l) c) c x e in
          absurd (omega (arith, mem_occurs c (opposite x) (stands_mem c (opposite x) w.1), a.apart x w.0))

  pub alive_live : live c ≡ true
  alive_live = rw (eq-eqb (occurs TRUE c) 0 alive_none_true, alive_complementary)

pub alive_both : {g h : Clause} → Alive g → Alive h → (live g && live h) ≡ true
alive_both a b = and_intro (alive_live a) (alive_live b)

-- two live clauses, the first before the second: rules 7 and 8 do not fit
module _ {g h : Clause} (both : (live g && live h) ≡ true) where
  pub no_common : rule7 g h ≡ None → (x y : Literal) → Memᴰ x g → Memᴰ x h → Memᴰ y g → Memᴰ (opposite y) h → var x ≢ var y → ⊥
  no_common e x y xg xh yg yh d =
      true_not_false
      (and_intro (mem_stands h x xh) (any_intro (λ y. stands (opposite y) h && differ x y) g y yg (and_intro (mem_stands h (opposite y) yh) (rw (ne_eqb (var x) (var y) d)))))
      (find_none (λ x. stands x h && any (λ y. stands (opposite y) h && differ x y) g) g (map_none _ _ (cond_none _ _ e both)) x xg)

  pub no_crossed : rule8 g h ≡ None → (x y : Literal) → Memᴰ x g → Memᴰ (opposite x) h → Memᴰ y g → Memᴰ (opposite y) h → var x ≢ var y → ⊥
  no_crossed e x y xg xh yg yh d = go (partner g h x) refl
    where
      pairs : Option Literal
      pairs = pair_in g h

      -- x has a partner, so some pair is found
      none_found : (z : Literal) → pairs ≡ Some z → ⊥
      none_found z p =
          let w = find_some (λ x. stands (opposite x) h && not (is_none (partner g h x))) g z p in
          let k : partner g h z ≡ None = map_none (tie z) (partner g h z) (bind_none pairs (λ x. option_map (tie x) (partner g h x)) z (cond_none _ _ e both) p) in
          true_not_false (rw k at w.1) (and-false (stands (opposite z) h))

      go : (m : Option Literal) → partner g h x ≡ m → ⊥
      go None q = true_not_false (and_intro (mem_stands h (opposite y) yh) (rw (ne_eqb (var x) (var y) d))) (find_none (λ y. stands (opposite y) h && differ x y) g q y yg)
      go (Some z) q = found (pair_in g h) refl
        where
          found : (m : Option Literal) → pairs ≡ m → ⊥
          found None p =
              true_not_false (and_intro (mem_stands h (opposite x) xh) (rw q))
              (find_none (λ x. stands (opposite x) h && not (is_none (partner g h x))) g p x xg)
          found (Some z) p = none_found z p
