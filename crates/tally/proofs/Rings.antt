-- The walk round the class of a root that becomes t, a constant or a literal of another class: what holds at each member, at the start, after a turn and at the end.
use mathlib.Core.Path.{◌≡◌, refl, ap, sym, ◌∙◌}
use mathlib.Core.List.{List, [], ◌∷◌}
use Prim.Native.Nat.{ℕ, zero, suc, ◌+◌, ◌/◌, ◌≤◌, ◌<◌}
use native.Mathlib.Decide.{dec_le, ℕ_discrete as dec_eq}
use native.Mathlib.Omega.{arith}
use borrow.Author.Tests.{eq-eqb, ne_eqb, eqb-true}
use lib.Dec.{eqb}
use lib.ListN.{get_or, set, length, length-set, get_or-eq_default}
use lib.Seq.{get_or-set_same, get_or-set_other}
use Rattle.general.specs.Booleans.{bit}
use Rattle.general.specs.Bits.{bit_le, bit_true}
use Rattle.general.specs.Times.{times}
use Rattle.general.specs.Repeats.{times_cons}
use Rattle.literal.specs.declared.Literal.{Literal}
use Rattle.literal.specs.Literal.{var, code_of, literal_at, max_variables, codes, variables}
use Rattle.literal.proofs.Codes.{literal_at_code_of, code_of_literal_at, var_at}
use Rattle.theory.specs.State.{replace, assign}
use Rattle.theory.proofs.Literals.{var_opposite}
use Rattle.theory.proofs.States.{replace_ind, replace_other}
use Rattle.state.specs.State.{state_of}
use Rattle.state.proofs.Values.{state_of_assign}
use Rattle.tally.specs.Ring.{Chain, Arc, Ring}

-- how many variables below n stand for a literal of r
unfoldable pub size : ℕ → List ℕ → ℕ → ℕ
size r v zero = 0
size r v (suc n) = bit (eqb (get_or v n 0 / 2) r) + size r v n

module _ (r : ℕ) (v : List ℕ) (p to : ℕ) (inside : p < length v) where
  size_below : (n : ℕ) → n ≤ p → size r (set v p to) n ≡ size r v n
  unfolding size
  size_below zero h = refl
  size_below (suc n) h = rw (get_or-set_other v p n to 0 (λ q. omega arith), size_below n (omega arith))

  -- a member that leaves the class
  pub size_set : (to / 2 ≡ r → ⊥) → get_or v p 0 / 2 ≡ r → (n : ℕ) → p < n → size r (set v p to) n + 1 ≡ size r v n
  unfolding size
  size_set away of zero h = absurd (omega arith)
  size_set away of (suc n) h = go (size_set away of n) (dec_eq p n)
    where
      go : (p < n → size r (set v p to) n + 1 ≡ size r v n) → Dec (p ≡ n) → size r (set v p to) (suc n) + 1 ≡ size r v (suc n)
      go ih (yes e) = rw (← e, get_or-set_same v p to 0 inside, ne_eqb (to / 2) r away, eq-eqb (get_or v p 0 / 2) r of, size_below p (omega arith)) (omega arith)
      go ih (no e) = rw (get_or-set_other v p n to 0 (λ q. e (sym q)), ← ih (omega arith)) (omega arith)

-- a literal of x's variable becomes one of t's
pub replace_over : (x t l : Literal) → var l ≡ var x → var (replace x t l) ≡ var t
replace_over x t l = replace_ind (λ k r. var k ≡ var x → var r ≡ var t) x t (λ e. refl) (λ e. var_opposite t) (λ k n e. absurd (n e)) l

-- arcs ------------------------------------------------------------------------------------------------------------

module _ {link w : List ℕ} {r p : ℕ} {rest : List ℕ} (a : Arc link w r p rest) where
  here : bit (eqb (get_or w p 0 / 2) r) ≡ 1 + times p rest
  here = sym (a.members p) ∙ times_cons p p rest ∙ ap (λ (k : ℕ). k + times p rest) (ap bit (eq-eqb p p refl))

  -- the first of an arc is of the class, and stands there once
  pub of_class : get_or w p 0 / 2 ≡ r
  of_class = eqb-true (get_or w p 0 / 2) r (bit_true (eqb (get_or w p 0 / 2) r) (omega (arith, here, bit_le (eqb (get_or w p 0 / 2) r))))

  pub first_once : times p rest ≡ 0
  first_once = omega (arith, here, bit_le (eqb (get_or w p 0 / 2) r))

  module _ (long : length w ≡ variables) (opened : 0 < r) where
    pub arc_inside : p ≤ max_variables
    arc_inside = elim (dec_le p max_variables) [
      | yes h ↦ h
      | no h ↦ absurd (let z : get_or w p 0 ≡ 0 = get_or-eq_default w 0 (omega arith) in omega (arith, of_class))
    ]

    -- what is left of the class once its first has left it
    pub left : (to : ℕ) → (to / 2 ≡ r → ⊥) → (q : ℕ) → times q rest ≡ bit (eqb (get_or (set w p to) q 0 / 2) r)
    left to away q = elim (dec_eq q p) [
      | yes e ↦ rw (e, get_or-set_same w p to 0 (omega (arith, arc_inside)), ne_eqb (to / 2) r away) first_once
      | no e ↦ rw (get_or-set_other w p q to 0 e) (omega (arith, times_cons q p rest, a.members q, ap bit (ne_eqb p q (λ y. e (sym y)))))
    ]

-- the walk --------------------------------------------------------------------------------------------------------

-- values in which x becomes t as in v
abbrev pub Agreeing : ℕ → Literal → (v w : List ℕ) → Type 0
Agreeing x t v w = (q : ℕ) → q ≤ max_variables → replace (literal_at x) t (literal_at (get_or w q 0)) ≡ replace (literal_at x) t (literal_at (get_or v q 0))

-- of the class of x, an open root in v, p and the rest of its ring are still to become t
pub record Round (link v : List ℕ) (x : ℕ) (t : Literal) (w : List ℕ) (p : ℕ) : Type 0 where
  pub rest : List ℕ
  pub arc : Arc link w (x / 2) p rest
  pub once : times (x / 2) rest ≡ 0
  pub agree : Agreeing x t v w
  pub long : length w ≡ variables

pub round_begins : {link v : List ℕ} {x : ℕ} {t : Literal} → Ring link v (x / 2) → length v ≡ variables → Round link v x t v (x / 2)
round_begins r long = record { rest = r.others; arc = r.arc; once = first_once r.arc; agree = λ q h. refl; long = long }

module _ {link v : List ℕ} {x : ℕ} {t : Literal} {w : List ℕ} {p : ℕ} (opened : 1 < x) (o : Round link v x t w p) where
  pub member_of : get_or w p 0 / 2 ≡ x / 2
  member_of = of_class o.arc

  pub member_inside : p ≤ max_variables
  member_inside = arc_inside o.arc o.long (omega arith)

  -- p becomes what t makes of it
  module _ (apart : var t ≡ x / 2 → ⊥) (to : ℕ) (is : to ≡ code_of (replace (literal_at x) t (literal_at (get_or w p 0)))) where
    new : literal_at to ≡ replace (literal_at x) t (literal_at (get_or w p 0))
    new = ap literal_at is ∙ literal_at_code_of (replace (literal_at x) t (literal_at (get_or w p 0)))

    pub over : to / 2 ≡ var t
    over = sym (var_at to) ∙ ap var new ∙ replace_over (literal_at x) t (literal_at (get_or w p 0)) (var_at (get_or w p 0) ∙ member_of ∙ sym (var_at x))

    away : to / 2 ≡ x / 2 → ⊥
    away e = apart (sym over ∙ e)

    pub agrees : Agreeing x t v (set w p to)
    agrees q h = elim (dec_eq q p) [
      | yes e ↦
          rw (e, get_or-set_same w p to 0 (omega (arith, member_inside, o.long)))
          (replace_other (literal_at x) t (literal_at to) (λ y. away (sym (var_at to) ∙ y ∙ var_at x)) ∙ new ∙ o.agree p member_inside)
      | no e ↦ rw (get_or-set_other w p q to 0 e) (o.agree q h)
    ]

    still : (q : ℕ) → times q o.rest ≡ bit (eqb (get_or (set w p to) q 0 / 2) (x / 2))
    still = left o.arc o.long (omega arith) to away

    pub falls : size (x / 2) (set w p to) variables < size (x / 2) w variables
    falls = omega (arith, size_set (x / 2) w p to (omega (arith, member_inside, o.long)) away member_of variables (omega (arith, member_inside)))

    module _ (n : ℕ) (next : n ≡ get_or link p 0) where
      -- back at the root: none is left
      pub round_ends : x < codes → n ≡ x / 2 → state_of (set w p to) ≡ assign (literal_at x) t (state_of v)
      unfolding Chain times
      round_ends low back = go o.rest o.arc.chain o.once still
        where
          go : (r : List ℕ) → Chain link p r (x / 2) → times (x / 2) r ≡ 0 → ((q : ℕ) → times q r ≡ bit (eqb (get_or (set w p to) q 0 / 2) (x / 2))) →
              state_of (set w p to) ≡ assign (literal_at x) t (state_of v)
          go [] c z s = state_of_assign v (set w p to) (literal_at x) t (omega (arith, var_at x)) (λ q h.
              let other : (var (literal_at (get_or (set w p to) q 0)) ≡ var (literal_at x) → ⊥) =
              λ e. omega (arith, s q, ap bit (eq-eqb (get_or (set w p to) q 0 / 2) (x / 2) (sym (var_at (get_or (set w p to) q 0)) ∙ e ∙ var_at x))) in
              sym (code_of_literal_at (get_or (set w p to) q 0)) ∙ ap code_of (sym (replace_other (literal_at x) t (literal_at (get_or (set w p to) q 0)) other) ∙ agrees q h))
          go (q ∷ r) c z s = absurd (omega (arith, z, ap bit (eq-eqb q (x / 2) (sym c.0 ∙ sym next ∙ back))))

      pub round_goes : (n ≡ x / 2 → ⊥) → Round link v x t (set w p to) n
      unfolding Chain times
      round_goes on = go o.rest o.arc.chain o.once still
        where
          go : (r : List ℕ) → Chain link p r (x / 2) → times (x / 2) r ≡ 0 → ((q : ℕ) → times q r ≡ bit (eqb (get_or (set w p to) q 0 / 2) (x / 2))) → Round link v x t (set w p to) n
          go [] c z s = absurd (on (next ∙ c))
          go (q ∷ r) c z s =
              let e : q ≡ n = sym c.0 ∙ sym next in
              rw (← e) (record { rest = r; arc = record { chain = c.1; members = s }; once = omega (arith, z); agree = agrees; long = length-set w p to ∙ o.long })
