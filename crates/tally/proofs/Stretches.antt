-- Stretches: the ring of a root is one, steps keep them, a walk along one ends; and the clauses that hold a root are those that its ring reaches.
use mathlib.Core.Path.{◌≡◌, refl, ap, sym, ◌∙◌}
use mathlib.Core.Logic.{◌≢◌}
use mathlib.Core.List.{List, [], ◌∷◌}
use Prim.Native.Nat.{ℕ, zero, suc, ◌*◌, ◌/◌, ◌≤◌, ◌<◌}
use native.Mathlib.Decide.{dec_le, ℕ_discrete as dec_eq}
use native.Mathlib.Omega.{arith}
use borrow.Author.Tests.{eq-eqb, ne_eqb, eqb-true}
use lib.Dec.{eqb}
use lib.ListN.{get_or, length, get_or-eq_default}
use Rattle.general.specs.Booleans.{bit}
use Rattle.general.specs.Bits.{bit_le, bit_true}
use Rattle.general.specs.Times.{times}
use Rattle.general.specs.Repeats.{times_cons}
use Rattle.general.specs.Sums.{times_here, length_distinct}
use Rattle.literal.specs.declared.Literal.{Literal}
use Rattle.literal.specs.declared.Literal.TheVariants.{Pos}
use Rattle.literal.specs.Literal.{var, code_of, literal_at, max_variables, variables}
use Rattle.literal.proofs.Codes.{literal_at_code_of, code_of_literal_at, var_at}
use Rattle.theory.specs.Formula.{Clause, Formula}
use Rattle.theory.specs.State.{assign, standing}
use Rattle.theory.proofs.States.{value_variable}
use Rattle.theory.proofs.Clauses.{standing_mem}
use Rattle.theory.proofs.Counts.{Holds}
use Rattle.theory.proofs.Falls.{Falls}
use Rattle.theory.proofs.Looks.{falls_root}
use Rattle.state.specs.State.{state_of}
use Rattle.state.proofs.Values.{state_of_inside, state_of_past}
use Rattle.tally.specs.Ring.{Chain, Ring}
use Rattle.tally.specs.Stretch.{Visits, Stretch, far, Followed, Reaches}
use Rattle.tally.proofs.Rings.{first_once}
use Rattle.tally.proofs.Turned.{moved_over, stays}

-- the first link may be another's
pub chain_move : (link other : List ℕ) (p q : ℕ) (l : List ℕ) (e : ℕ) → get_or other q 0 ≡ get_or link p 0 → ((z : ℕ) → 1 ≤ times z l → get_or other z 0 ≡ get_or link z 0) →
    Chain link p l e → Chain other q l e
unfolding Chain times
chain_move link other p q [] e h f c = h ∙ c
chain_move link other p q (o ∷ l) e h f c =
    (h ∙ c.0, chain_move link other o o l e (f o (omega (arith, ap bit (eq-eqb o o refl)))) (λ z b. f z (omega arith)) c.1)

-- the ring of a root, from its link on -----------------------------------------------------------------------------

module _ {link v : List ℕ} {r : ℕ} (long : length v ≡ variables) (opened : 0 < r) (ring : Ring link v r) where
  pub ring_class : (q : ℕ) → 0 < times q (r ∷ ring.others) → get_or v q 0 / 2 ≡ r
  ring_class q h = eqb-true (get_or v q 0 / 2) r (bit_true (eqb (get_or v q 0 / 2) r) (omega (arith, ring.arc.members q, bit_le (eqb (get_or v q 0 / 2) r))))

  pub class_ring : (q : ℕ) → get_or v q 0 / 2 ≡ r → 0 < times q (r ∷ ring.others)
  class_ring q e = omega (arith, ring.arc.members q, ap bit (eq-eqb (get_or v q 0 / 2) r e))

  class_inside : (q : ℕ) → get_or v q 0 / 2 ≡ r → q ≤ max_variables
  class_inside q e = elim (dec_le q max_variables) [
    | yes h ↦ h
    | no h ↦ absurd (let z : get_or v q 0 ≡ 0 = get_or-eq_default v 0 (omega arith) in omega arith)
  ]

  pub ring_stretch : Stretch link v (get_or link r 0) r ring.others
  unfolding Chain Visits
  ring_stretch = record {
    visits = begins ring.others ring.arc.chain;
    once = λ q. omega (arith, ring.arc.members q, bit_le (eqb (get_or v q 0 / 2) r));
    inside = λ q h. class_inside q (ring_class q h);
    follows = λ q h e.
        let k : q ≡ r = let c : get_or v q 0 / 2 ≡ r = ring_class q (omega (arith, times_cons q r ring.others)) in omega arith in
        omega (arith, rw k at h, first_once ring.arc);
  }
    where
      begins : (l : List ℕ) → Chain link r l r → Visits link (get_or link r 0) l r
      begins [] c = c
      begins (q ∷ l) c = c

  -- a clause that holds r as it stands has a variable of the ring
  pub holds_reached : (c : Clause) → r ≤ max_variables → Holds r (standing (state_of v) c) → Reaches (r ∷ ring.others) c
  holds_reached c inside (y, m, e) =
      let w = standing_mem (state_of v) c y m in
      let p = var w.written in
      let z : var (state_of v p) ≡ r = sym (value_variable (state_of v) w.written) ∙ ap var w.valued ∙ e in
      elim (dec_le p max_variables) [
        | yes h ↦ (w.written, w.member, class_ring p (sym (ap var (state_of_inside v p h) ∙ var_at (get_or v p 0)) ∙ z))
        | no h ↦ absurd (let i : p ≡ r = sym (ap var (state_of_past v p (omega arith))) ∙ z in omega arith)
      ]

-- steps ------------------------------------------------------------------------------------------------------------

pub followed_trans : {v link u over w other : List ℕ} → Followed v link u over → Followed u over w other → Followed v link w other
followed_trans a b = record {
  links = λ q h n. b.links q h (λ e. n (a.roots q h e)) ∙ a.links q h n;
  roots = λ q h e. a.roots q h (b.roots q h e);
}

-- the class of x goes over to t, a root or the constant: no other variable becomes a root
pub turned_roots : (v u : List ℕ) (x : ℕ) (t : Literal) → length v ≡ variables → length u ≡ variables → state_of u ≡ assign (literal_at x) t (state_of v) → get_or v (var t) 0 ≡ 2 * var t →
    (q : ℕ) → q ≤ max_variables → get_or u q 0 ≡ 2 * q → get_or v q 0 ≡ 2 * q
turned_roots v u x t lv lu is target q h e = elim (dec_eq (get_or v q 0 / 2) (x / 2)) [
  | yes i ↦ let k : q ≡ var t = let m = moved_over v u x t lv lu is q h i in omega arith in rw k target
  | no i ↦ sym (stays v u x t lv lu is q h i) ∙ e
]

-- variables fall, and the links stay
pub followed_falls : {f : Formula} {v u link other : List ℕ} → Falls f (state_of v) (state_of u) → get_or v 0 0 ≡ 0 → other ≡ link → Followed v link u other
followed_falls {v = v} {u = u} r base same = record {
  links = λ q h n. ap (λ (l : List ℕ). get_or l q 0) same;
  roots = λ q h e. elim (dec_eq q 0) [
    | yes z ↦ rw z base
    | no z ↦
        let root : state_of u q ≡ Pos q = state_of_inside u q h ∙ ap literal_at e ∙ literal_at_code_of (Pos q) in
        sym (code_of_literal_at (get_or v q 0)) ∙ ap code_of (sym (state_of_inside v q h) ∙ falls_root r q (omega arith) root)
  ];
}

pub stretch_kept : {v link u other : List ℕ} {p e : ℕ} {l : List ℕ} → Followed v link u other → Stretch link v p e l → Stretch other u p e l
unfolding Visits
stretch_kept {link = link} {other = other} {p} {e} {l} f s = record {
  visits = kept l (λ q h. f.links q (within q h) (s.follows q h)) s.visits;
  once = s.once;
  inside = s.inside;
  follows = λ q h i. s.follows q h (f.roots q (within q h) i);
}
  where
    within : (q : ℕ) → 0 < times q l → q ≤ max_variables
    within q h = s.inside q (omega (arith, times_cons q e l))

    kept : (l : List ℕ) → ((q : ℕ) → 0 < times q l → get_or other q 0 ≡ get_or link q 0) → Visits link p l e → Visits other p l e
    kept [] same c = c
    kept (q ∷ l) same c = (
      c.0,
      chain_move link other q q l e (same q (omega (arith, times_here q l))) (λ z h. same z (omega (arith, times_cons z q l))) c.1,
    )

-- a walk -----------------------------------------------------------------------------------------------------------

module _ {link v : List ℕ} {p e : ℕ} {l : List ℕ} (s : Stretch link v p e l) where
  pub stretch_long : length l ≤ max_variables
  stretch_long = omega (arith, length_distinct (e ∷ l) variables s.once (λ q h. omega (arith, s.inside q h)))

  pub stretch_first : 0 < times p (e ∷ l)
  unfolding Visits times
  stretch_first = go l s.visits
    where
      go : (l : List ℕ) → Visits link p l e → 0 < times p (e ∷ l)
      go [] c = omega (arith, ap bit (eq-eqb e p (sym c)))
      go (q ∷ l) c = omega (arith, ap bit (eq-eqb q p (sym c.0)))

  -- at e it ends
  pub stretch_ends : p ≡ e → l ≡ []
  unfolding Visits times
  stretch_ends i = go l s.visits s.once
    where
      go : (l : List ℕ) → Visits link p l e → ((q : ℕ) → times q (e ∷ l) ≤ 1) → l ≡ []
      go [] c o = refl
      go (q ∷ l) c o = absurd (omega (arith, o e, ap bit (eq-eqb e e refl), ap bit (eq-eqb q e (sym c.0 ∙ i))))

  -- before it p is the first, and the link goes on
  pub stretch_goes : p ≢ e → (rest : List ℕ) × (l ≡ p ∷ rest) × Stretch link v (get_or link p 0) e rest
  unfolding Chain Visits times
  stretch_goes n = go l s.visits s.once s.inside s.follows
    where
      next : (q : ℕ) (l : List ℕ) → Chain link q l e → Visits link (get_or link q 0) l e
      next q [] c = c
      next q (o ∷ l) c = c

      go : (l : List ℕ) → Visits link p l e → ((q : ℕ) → times q (e ∷ l) ≤ 1) → ((q : ℕ) → 0 < times q (e ∷ l) → q ≤ max_variables) →
          ((q : ℕ) → 0 < times q l → get_or v q 0 ≢ 2 * q) → (rest : List ℕ) × (l ≡ p ∷ rest) × Stretch link v (get_or link p 0) e rest
      go [] c o i f = absurd (n c)
      go (q ∷ l) c o i f = (
        l,
        rw c.0,
        record {
          visits = rw c.0 (next q l c.1);
          once = λ z. omega (arith, o z);
          inside = λ z h. i z (omega arith);
          follows = λ z h. f z (omega arith);
        },
      )

-- what is left of it
pub far_stretch : {link v : List ℕ} {p e : ℕ} {l : List ℕ} → Stretch link v p e l → (k : ℕ) → length l < k → far link e k p ≡ length l
unfolding far
far_stretch s zero h = absurd (omega arith)
far_stretch {link = link} {v = v} {p} {e} {l} s (suc k) h = go (dec_eq p e) (λ q m t. far_stretch t k)
  where
    go : Dec (p ≡ e) → ((q : ℕ) (m : List ℕ) → Stretch link v q e m → length m < k → far link e k q ≡ length m) → far link e (suc k) p ≡ length l
    go (yes i) ih = rw (eq-eqb p e i, stretch_ends s i)
    go (no i) ih =
        let w = stretch_goes s i in
        rw (ne_eqb p e i) (ap suc (ih _ _ w.2 (omega (arith, ap length w.1))) ∙ sym (ap length w.1))

-- the links say which variables it visits
pub stretch_unique : {link v u : List ℕ} {p e : ℕ} (l m : List ℕ) → Stretch link v p e l → Stretch link u p e m → l ≡ m
unfolding Visits
stretch_unique [] m a b = sym (stretch_ends b a.visits)
stretch_unique {p = p} {e = e} (q ∷ l) m a b =
    let n : p ≢ e = λ i. omega (arith, ap length (stretch_ends a i)) in
    let x = stretch_goes a n in
    let y = stretch_goes b n in
    let first : q ∷ l ≡ p ∷ x.0 = x.1 in
    let same : x.0 ≡ l = cc in
    let rest : l ≡ y.0 = stretch_unique l y.0 (rw same at x.2) y.2 in
    let second : m ≡ p ∷ y.0 = y.1 in
    cc
