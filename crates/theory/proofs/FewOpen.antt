-- Where no rule fits and at most three variables are open, the live clauses have the same literals, and each open variable is left out in some solution and taken in another.
use mathlib.Core.Path.{◌≡◌, refl, ap, sym, ◌∙◌}
use mathlib.Core.Bool.{Bool, true, false, not, cond, not-not}
use mathlib.Core.Logic.{inl, inr, ⊎_elim}
use Rattle.std.specs.Prelude.{Option, None, Some}
use mathlib.Core.List.Memᴰ
use mathlib.Core.List.{[], ◌∷◌, Memᴰ}
use Prim.Native.Nat.{ℕ, ◌≤◌}
use native.Mathlib.Omega.{arith}
use lib.Dec.{eqb}
use lib.ListN.{length}
use borrow.Author.Tests.{ne_eqb}
use Rattle.general.specs.Lists.{Before, members_ordered}
use Rattle.literal.specs.declared.Literal.{Literal}
use Rattle.literal.specs.declared.Literal.TheVariants.{Pos, Neg}
use Rattle.literal.specs.Literal.{FALSE, var, opposite, same}
use Rattle.theory.specs.Formula.{Clause, Formula, Assignment, holds, true_count, Met, Choice, assignment, Within}
use Rattle.theory.specs.Order.{IsLeast}
use Rattle.theory.specs.Propagation.{step}
use Rattle.theory.specs.Rules.{occurs, stands}
use Rattle.theory.specs.Search.{branch_variable}
use Rattle.theory.specs.State.{State, standing, opens, Open, WellFormed}
use Rattle.theory.proofs.Agreement.{Extends, holds_alike}
use Rattle.theory.proofs.Asks.{step_rests}
use Rattle.theory.proofs.Clauses.{mem_occurs, mem_stands}
use Rattle.theory.proofs.Closed.{Alive, alive_none_true, alive_live, alive_both, no_common, no_crossed}
use Rattle.theory.proofs.Leaves.{choice_from, choice_root, choice_extends}
use Rattle.theory.proofs.Literals.{same_refl, same_ne, of_variable_lem}
use Rattle.theory.proofs.Live.{InLive, in_live, none_alive, live_open, branch_least}
use Rattle.theory.proofs.Pairs.{Meets, Live, meets_turned}
use Rattle.theory.proofs.Splits.{rests_closed, live_all, live_second}

-- values by which the literals of a clause are true as g says
abbrev values_of : Clause → (Literal → Bool) → Assignment
values_of c g q = cond (stands (Pos q) c) (g (Pos q)) (not (g (Neg q)))

module _ {c : Clause} (a : Alive c) (g : Literal → Bool) where
  values_hold : (k : Literal) → Memᴰ k c → holds (values_of c g) k ≡ g k
  values_hold (Pos q) m = rw (mem_stands c (Pos q) m)
  values_hold (Neg q) m = rw (a.apart (Neg q) m) (not-not (g (Neg q)))

alive_some : {c : Clause} → Alive c → (k : Literal) × Memᴰ k c
alive_some {c} a = go c a.three
  where
    go : (c : Clause) → 3 ≤ length c → (k : Literal) × Memᴰ k c
    go [] h = absurd (omega arith)
    go (k ∷ c) h = (k, Memᴰ.head refl)

-- where one literal is true, and no other of the clause, the clause has as many true occurrences as that literal
count_only : (v : Assignment) (l : Literal) (c : Clause) → ((k : Literal) → Memᴰ k c → holds v k ≡ same k l) → true_count v c ≡ occurs l c
unfolding true_count occurs
count_only v l [] h = refl
count_only v l (k ∷ c) h = rw (h k (Memᴰ.head refl), count_only v l c (λ j m. h j (Memᴰ.tail m)))

-- the same live clause, by another literal
abbrev by : {f : Formula} {u : State} {p : ℕ} (h : InLive f u p) (k : Literal) → Memᴰ k (standing u h.clause) → InLive f u (var k)
by h k m = in_live h.clause h.member h.lives k m

-- a state that no rule fits
module _ {n : ℕ} {f : Formula} (within : Within n f) (u : State) (w : WellFormed n u) (rests : step f u ≡ None) where
  -- rules 7 and 8 fit no two live clauses
  before_unmet : {g h : Clause} → Before g h f → Alive (standing u g) → Alive (standing u h) → (a b : Literal) → ¬ Meets Live (standing u g) (standing u h) a b
  before_unmet {g} {h} o i j a b m = ⊎_elim
      (λ k. no_common (alive_both i j) ((step_rests f u rests).quiet7 g h o) a b m.left k m.crossing m.crossed_by m.apart)
      (λ k. no_crossed (alive_both i j) ((step_rests f u rests).quiet8 g h o) a b m.left k m.crossing m.crossed_by m.apart)
      m.right

  live_unmet : {p q : ℕ} (g : InLive f u p) (h : InLive f u q) (a b : Literal) → ¬ Meets Live (standing u g.clause) (standing u h.clause) a b
  live_unmet g h a b m = ⊎_elim
      (λ (e : g.clause ≡ h.clause). omega (arith, g.lives.apart b m.crossing, mem_occurs (standing u g.clause) (opposite b) (rw e m.crossed_by)))
      (λ o. ⊎_elim
      (λ i. before_unmet i g.lives h.lives a b m)
      (λ i. let t = meets_turned m in before_unmet i h.lives g.lives t.0 (opposite b) t.2)
      o)
      (members_ordered f g.member h.member)

  module _ (few : opens u n ≤ 3) where
    -- each variable of a live clause stands in all of them
    live_like : {p q : ℕ} (g : InLive f u p) → InLive f u q → (l : Literal) × Memᴰ l (standing u g.clause) × (var l ≡ q)
    live_like g h = live_all within u w _ g few (live_open w within h)

    -- and with one sign: else two meet by that variable and any other
    live_same : {p q : ℕ} (g : InLive f u p) (h : InLive f u q) → Memᴰ h.literal (standing u g.clause)
    live_same g h =
        let k = live_like g (by h h.literal h.standing_in) in
        let y = live_second within u w _ h in
        let z = live_like g (by h y.0 y.1) in
        ⊎_elim
        (λ (e : h.literal ≡ k.0). Memᴰ.cast e k.1)
        (λ (e : h.literal ≡ opposite k.0). absurd (live_unmet g h z.0 k.0 (record {
          both = (alive_live g.lives, alive_live h.lives);
          left = z.1;
          right = ⊎_elim (λ d. inl (Memᴰ.cast (sym d) y.1)) (λ d. inr (Memᴰ.cast (sym d) y.1)) (of_variable_lem y.0 z.0 (sym z.2));
          crossing = k.1;
          crossed_by = Memᴰ.cast (sym e) h.standing_in;
          apart = λ d. y.2 (sym z.2 ∙ d ∙ k.2);
        })))
        (of_variable_lem h.literal k.0 (sym k.2))

    -- so all are met where one literal of one of them is true, and no other of it
    module _ {p : ℕ} (h : InLive f u p) where
      abbrev only : Assignment
      only = values_of (standing u h.clause) (λ k. same k h.literal)

      only_holds : (k : Literal) → Memᴰ k (standing u h.clause) → holds only k ≡ same k h.literal
      only_holds = values_hold h.lives (λ k. same k h.literal)

      only_base : only 0 ≡ true
      only_base = rw (alive_none_true h.lives, same_ne FALSE h.literal (λ e. omega (arith, h.lives.opened h.literal h.standing_in, ap var e)))

      only_meets : (d : Clause) → Memᴰ d f → Alive (standing u d) → Met only (standing u d)
      only_meets d i a =
          let x = alive_some a in
          count_only only h.literal (standing u d) (λ k j. only_holds k (live_same h (in_live d i a k j))) ∙
          omega (arith, a.once h.literal, mem_occurs (standing u d) h.literal (live_same (in_live d i a x.0 x.1) h))

      only_solves : Extends n f u (choice_from n u only)
      only_solves = choice_extends w within (rests_closed f u rests) only only_base only_meets

      only_at : (k : Literal) → Memᴰ k (standing u h.clause) → holds (assignment (choice_from n u only)) k ≡ same k h.literal
      only_at k m =
          let o = live_open w within (by h k m) in
          holds_alike (assignment (choice_from n u only)) only k (choice_root w only only_base (var k) o.root o.inside) ∙ only_holds k m

    literal_both : {p : ℕ} (h : InLive f u p) (b : Bool) → (c : Choice) × Extends n f u c × (holds (assignment c) h.literal ≡ b)
    literal_both h true = (choice_from n u (only h), only_solves h, only_at h h.literal h.standing_in ∙ same_refl h.literal)
    literal_both h false =
        let y = live_second within u w _ h in
        let g : InLive f u (var y.0) = by h y.0 y.1 in
        (choice_from n u (only g), only_solves g, only_at g h.literal h.standing_in ∙ same_ne h.literal y.0 (λ e. y.2 (sym (ap var e))))

    -- an open variable has either value in some solution
    pub open_both : (p : ℕ) → Open n u p → (b : Bool) → (c : Choice) × Extends n f u c × (assignment c p ≡ b)
    open_both p o b = go (branch_variable f u) (branch_least f u (rests_closed f u rests))
      where
        v : Assignment
        v q = cond (eqb q 0) true b

        by_literal : (l : Literal) → var l ≡ p → ((b : Bool) → (c : Choice) × Extends n f u c × (holds (assignment c) l ≡ b)) →
            (c : Choice) × Extends n f u c × (assignment c p ≡ b)
        by_literal (Pos q) e s = let r = s b in (r.0, r.1, ap (assignment r.0) (sym e) ∙ r.2)
        by_literal (Neg q) e s = let r = s (not b) in (r.0, r.1, ap (assignment r.0) (sym e) ∙ sym (not-not _) ∙ ap not r.2 ∙ not-not b)

        go : (m : Option ℕ) → IsLeast ◌≤◌ (InLive f u) m → (c : Choice) × Extends n f u c × (assignment c p ≡ b)
        go None h = (
          choice_from n u v,
          choice_extends w within (rests_closed f u rests) v refl (λ c m k. absurd (none_alive h c m k)),
          choice_root w v refl p o.root o.inside ∙ rw (ne_eqb p 0 (omega (arith, o.positive))),
        )
        go (Some q) h = let l = live_all within u w q h.member few o in by_literal l.0 l.2 (literal_both (by h.member l.0 l.1))
