-- A5: a reason is 0 exactly where a variable is open; once given it stays, and it names a clause that holds the variable.
use mathlib.Core.Path.{◌≡◌, refl, ap, sym, ◌∙◌}
use mathlib.Core.Bool.{true≢false}
use mathlib.Core.Logic.{◌⊎◌, inl, inr, ◌≢◌, ◌↔◌, ⊎_elim}
use mathlib.Core.List.Memᴰ
use mathlib.Core.List.{List, [], ◌∷◌, Memᴰ}
use Rattle.std.specs.Prelude.{Option, None, Some}
use Prim.Native.Nat.{ℕ, zero, suc, ◌<◌}
use native.Mathlib.Decide.{ℕ_discrete}
use native.Mathlib.Omega.{arith}
use borrow.Author.Tests.{eq-eqb, ne_eqb}
use Rattle.literal.specs.declared.Literal.{Literal}
use Rattle.literal.specs.declared.Literal.TheVariants.{Pos}
use Rattle.literal.specs.Literal.{var}
use Rattle.theory.specs.declared.Asked.{Asked}
use Rattle.theory.specs.declared.Step.{Step}
use Rattle.theory.specs.declared.Step.TheVariants.{DeadEnd, Becomes}
use Rattle.theory.specs.Formula.{Formula, Within}
use Rattle.theory.specs.State.{State, initial, assign, opens, WellFormed}
use Rattle.theory.specs.Propagation.{asked_by, step, propagate}
use Rattle.theory.specs.Propagation as settled
use Rattle.theory.specs.Reasons.{Explained, unexplained, assign_by, rest, act_by, follow_by, propagate_by, explain, forget, SettledBy}
use Rattle.theory.proofs.States.{Valid, fixed_pos, root_fixed, fixed_root, assign_well, assign_other, assign_self, opens_bound}
use Rattle.theory.proofs.Forgetting.{propagate_forgets}
use Rattle.theory.proofs.Asks.{Allowed, valid_step, step_allowed, asked_allowed, step_asker, step_holds}
use Rattle.theory.proofs.Propagation.{initial_well, asked_well, asked_closes, propagate_more}

-- A step ----------------------------------------------------------------------------------------------------------

-- the variable that is settled or tied gets the clause's number, and every other one, a follower too, keeps its own
module _ (k : ℕ) (x t : Literal) (e : Explained) (p : ℕ) where
  credited_self : p ≡ var x → (assign_by k x t e).reasons p ≡ k
  credited_self h = rw (eq-eqb p (var x) h)

  credited_other : p ≢ var x → (assign_by k x t e).reasons p ≡ e.reasons p
  credited_other h = rw (ne_eqb p (var x) h)

-- what steps and splits keep of reasons; l are the variables that splits decided
pub record Accounted (n : ℕ) (l : List ℕ) (e : Explained) : Type 0 where
  pub well : WellFormed n e.state
  pub open_none : (p : ℕ) → e.state p ≡ Pos p → e.reasons p ≡ 0
  pub split_none : (p : ℕ) → Memᴰ p l → e.reasons p ≡ 0
  pub split_closed : (p : ℕ) → Memᴰ p l → e.state p ≢ Pos p
  pub none_given : (p : ℕ) → e.reasons p ≡ 0 → (e.state p ≡ Pos p) ⊎ Memᴰ p l

-- the variables that splits decided after x becomes t, by clause k or, where k is 0, by a split
record Decided (k : ℕ) (x : Literal) (l m : List ℕ) : Type 0 where
  kept : (p : ℕ) → Memᴰ p l → Memᴰ p m
  new : (p : ℕ) → Memᴰ p m → Memᴰ p l ⊎ ((p ≡ var x) × (k ≡ 0))
  by_split : k ≡ 0 → Memᴰ (var x) m

module _ {n : ℕ} {l : List ℕ} {e : Explained} {x t : Literal} (a : Accounted n l e) (v : Valid n e.state x t) where
  x_open : e.state (var x) ≡ Pos (var x)
  x_open = fixed_pos e.state x v.fixed_x

  x_closed : assign x t e.state (var x) ≢ Pos (var x)
  x_closed q = true≢false (sym (fixed_root (assign x t e.state) (var x) q) ∙ assign_self a.well v)

  opened : (p : ℕ) → p ≢ var x → assign x t e.state p ≡ Pos p → e.state p ≡ Pos p
  opened p h q = root_fixed e.state p (sym (assign_other a.well v p h) ∙ fixed_root (assign x t e.state) p q)

  still_open : (p : ℕ) → p ≢ var x → e.state p ≡ Pos p → assign x t e.state p ≡ Pos p
  still_open p h q = root_fixed (assign x t e.state) p (assign_other a.well v p h ∙ fixed_root e.state p q)

  -- a reason once given stays: a step gives one to an open variable, which has none
  given_apart : (p : ℕ) → e.reasons p ≢ 0 → p ≢ var x
  given_apart p h q = h (rw q (a.open_none (var x) x_open))

  pub given_stays : (k p : ℕ) → e.reasons p ≢ 0 → (assign_by k x t e).reasons p ≡ e.reasons p
  given_stays k p h = credited_other k x t e p (given_apart p h)

  accounted_after : (k : ℕ) {m : List ℕ} → Decided k x l m → Accounted n m (assign_by k x t e)
  accounted_after k {m} d = record {
    well = assign_well a.well v;
    open_none = λ p q. elim (ℕ_discrete p (var x)) [
      | yes i ↦ absurd (x_closed (rw i at q))
      | no i ↦ credited_other k x t e p i ∙ a.open_none p (opened p i q)
    ];
    split_none = λ p i. ⊎_elim
        (λ j. credited_other k x t e p (apart p j) ∙ a.split_none p j)
        (λ j. credited_self k x t e p j.0 ∙ j.1)
        (d.new p i);
    split_closed = λ p i q. ⊎_elim
        (λ j. a.split_closed p j (opened p (apart p j) q))
        (λ j. x_closed (rw j.0 at q))
        (d.new p i);
    none_given = λ p q. elim (ℕ_discrete p (var x)) [
      | yes i ↦ inr (rw i (d.by_split (sym (credited_self k x t e p i) ∙ q)))
      | no i ↦ ⊎_elim (λ j. inl (still_open p i j)) (λ j. inr (d.kept p j)) (a.none_given p (sym (credited_other k x t e p i) ∙ q))
    ];
  }
    where
      apart : (p : ℕ) → Memᴰ p l → p ≢ var x
      apart p i q = a.split_closed (var x) (rw q at i) x_open

  -- by a clause
  accounted_step : (k : ℕ) → 0 < k → Accounted n l (assign_by k x t e)
  accounted_step k h = accounted_after k (record { kept = λ p i. i; new = λ p i. inl i; by_split = λ q. absurd (omega arith) })

  -- by a split
  pub accounted_split : Accounted n (var x ∷ l) (assign_by 0 x t e)
  accounted_split = accounted_after 0 (record {
    kept = λ p i. Memᴰ.tail i;
    new = λ p i. ⊎_elim (λ q. inr (q, refl)) inl (Memᴰ.cases_cons i);
    by_split = λ q. Memᴰ.head refl;
  })

-- Settling --------------------------------------------------------------------------------------------------------

-- what a state has, and each step of settling keeps, a state has where settling ends
module _ (f : Formula) (P : Explained → Type 0)
    (kept : (e : Explained) (a : Asked) (x t : Literal) → step f e.state ≡ Some a → a.step ≡ Becomes x t → P e → P (assign_by a.clause.0 x t e)) where
  propagate_keeps : (k : ℕ) (e u : Explained) → P e → propagate_by k f e ≡ rest u → P u
  unfolding propagate_by
  propagate_keeps zero e u h q = let i : e ≡ u = cc in rw i at h
  propagate_keeps (suc k) e u h q = go (step f e.state) refl (propagate_keeps k) q
    where
      acts : (a : Asked) → step f e.state ≡ Some a → (t : Step) → a.step ≡ t → ((v w : Explained) → P v → propagate_by k f v ≡ rest w → P w) →
          act_by (propagate_by k f) e a.clause.0 t ≡ rest u → P u
      acts a i DeadEnd j ih q = absurd (let z : ◌≡◌ {A = ℕ} 0 1 = cc in omega arith)
      acts a i (Becomes x t) j ih q = ih (assign_by a.clause.0 x t e) u (kept e a x t i j h) q

      go : (o : Option Asked) → step f e.state ≡ o → ((v w : Explained) → P v → propagate_by k f v ≡ rest w → P w) →
          follow_by (propagate_by k f) e o ≡ rest u → P u
      go None i ih q = let j : e ≡ u = cc in rw j at h
      go (Some a) i ih q = acts a i a.step refl ih q

module _ {n : ℕ} {f : Formula} (within : Within n f) where
  asked_valid : (s : State) → WellFormed n s → (a : Asked) {x t : Literal} → step f s ≡ Some a → a.step ≡ Becomes x t → Valid n s x t
  asked_valid s w a asked e = valid_step within w (asked_allowed f s a asked e)

  module _ {l : List ℕ} where
    accounted_asked : (e : Explained) (a : Asked) (x t : Literal) → step f e.state ≡ Some a → a.step ≡ Becomes x t → Accounted n l e →
        Accounted n l (assign_by a.clause.0 x t e)
    accounted_asked e a x t asked i c = accounted_step c (asked_valid e.state c.well a asked i) a.clause.0 (step_holds f e.state a asked i).from_one

    pub settling_accounted : (k : ℕ) (e u : Explained) → Accounted n l e → propagate_by k f e ≡ rest u → Accounted n l u
    settling_accounted = propagate_keeps f (Accounted n l) accounted_asked

    -- "a reason once given stays"
    pub reason_stays : (k : ℕ) (e u : Explained) → Accounted n l e → propagate_by k f e ≡ rest u → (p : ℕ) → e.reasons p ≢ 0 → u.reasons p ≡ e.reasons p
    reason_stays k e u c q p h = (propagate_keeps f (λ v. Accounted n l v × (v.reasons p ≡ e.reasons p))
        (λ v a x t asked i g. (
          accounted_asked v a x t asked i g.0,
          given_stays g.0 (asked_valid v.state g.0.well a asked i) a.clause.0 p (λ z. h (sym g.1 ∙ z)) ∙ g.1,
        ))
        k e u (c, refl) q).1

pub initial_accounted : (n : ℕ) → Accounted n [] (unexplained initial)
initial_accounted n = record {
  well = initial_well n;
  open_none = λ p q. refl;
  split_none = λ p i. refl;
  split_closed = λ p i. absurd (Memᴰ.not-nil i);
  none_given = λ p q. inl refl;
}

module _ {n : ℕ} {f : Formula} (within : Within n f) where
  -- after some steps of settling every reason names the clause of the step that gave it
  record Explains (e : Explained) : Type 0 where
    accounted : Accounted n [] e
    steps : ℕ
    reached : propagate steps f initial ≡ settled.rest e.state
    named : (p : ℕ) → e.reasons p ≢ 0 → SettledBy f p (e.reasons p)

  explains_step : (e : Explained) (a : Asked) (x t : Literal) → step f e.state ≡ Some a → a.step ≡ Becomes x t → Explains e →
      Explains (assign_by a.clause.0 x t e)
  explains_step e a x t asked i h = record {
    accounted = accounted_asked within e a x t asked i h.accounted;
    steps = suc h.steps;
    reached = propagate_more f h.steps initial e.state a h.reached asked i;
    named = λ p z. elim (ℕ_discrete p (var x)) [
      | yes q ↦ rw (credited_self k x t e p q, q) this
      | no q ↦ rw (credited_other k x t e p q) (h.named p (λ y. z (credited_other k x t e p q ∙ y)))
    ];
  }
    where
      k : ℕ
      k = a.clause.0

      v : Valid n e.state x t
      v = asked_valid within e.state h.accounted.well a asked i

      this : SettledBy f (var x) k
      this = record {
        steps = h.steps;
        state = e.state;
        reached = h.reached;
        is_open = fixed_pos e.state x v.fixed_x;
        literal = x;
        becomes = t;
        asked = asked ∙ ap (λ (s : Step). Some (asked_by k s)) i;
        its_variable = refl;
        asker = rw i at (step_asker f e.state a asked);
        holder = step_holds f e.state a asked i;
      }

  module _ (k : ℕ) (u : Explained) (e : propagate_by k f (unexplained initial) ≡ rest u) where
    explains : Explains u
    unfolding propagate
    explains = propagate_keeps f Explains explains_step k (unexplained initial) u
        (record { accounted = initial_accounted n; steps = 0; reached = refl; named = λ p z. absurd (z refl) }) e

    -- where nothing was split, a reason is 0 exactly where the variable is open
    pub reason_open : (p : ℕ) → (u.reasons p ≡ 0) ↔ (u.state p ≡ Pos p)
    reason_open p = (λ z. ⊎_elim (λ q. q) (λ i. absurd (Memᴰ.not-nil i)) (explains.accounted.none_given p z), explains.accounted.open_none p)

    -- and else the number of the clause that settled or tied it
    pub reason_named : (p : ℕ) → u.state p ≢ Pos p → SettledBy f p (u.reasons p)
    reason_named p h = explains.named p (λ z. h ((reason_open p).0 z))

-- Fuel ------------------------------------------------------------------------------------------------------------

-- all fuel that is enough gives the same end
pub explain_fuel : {n : ℕ} {f : Formula} → Within n f → (k j : ℕ) (e : Explained) → WellFormed n e.state → opens e.state n < k → opens e.state n < j →
    propagate_by k f e ≡ propagate_by j f e
unfolding propagate_by
explain_fuel within zero j e w h i = absurd (omega arith)
explain_fuel within (suc k) zero e w h i = absurd (omega arith)
explain_fuel {n} {f} within (suc k) (suc j) e w h i = go (step f e.state) refl (explain_fuel within k j)
  where
    Same : Type 0
    Same = (u : Explained) → WellFormed n u.state → opens u.state n < k → opens u.state n < j → propagate_by k f u ≡ propagate_by j f u

    acts : (c : ℕ) (t : Step) → Allowed f e.state t → Same → act_by (propagate_by k f) e c t ≡ act_by (propagate_by j f) e c t
    acts c DeadEnd d ih = refl
    acts c (Becomes x t) a ih = ih (assign_by c x t e) (asked_well within w a) (omega (arith, asked_closes within w a)) (omega (arith, asked_closes within w a))

    go : (o : Option Asked) → step f e.state ≡ o → Same → follow_by (propagate_by k f) e o ≡ follow_by (propagate_by j f) e o
    go None q ih = refl
    go (Some b) q ih = acts b.clause.0 b.step (step_allowed f e.state b q) ih

-- of settling without reasons too
pub propagate_fuel : {n : ℕ} {f : Formula} → Within n f → (k j : ℕ) (s : State) → WellFormed n s → opens s n < k → opens s n < j → propagate k f s ≡ propagate j f s
propagate_fuel {f = f} within k j s w h i =
    sym (propagate_forgets f k (unexplained s)) ∙ ap forget (explain_fuel within k j (unexplained s) w h i) ∙ propagate_forgets f j (unexplained s)

module _ {n : ℕ} {f : Formula} (within : Within n f) where
  -- settling from the state after a step ends where settling from the state before it does
  pub explain_step : (e : Explained) → WellFormed n e.state → (a : Asked) {x t : Literal} → step f e.state ≡ Some a → a.step ≡ Becomes x t →
      explain n f (assign_by a.clause.0 x t e) ≡ explain n f e
  unfolding propagate_by
  explain_step e w a asked i =
      let q = asked_allowed f e.state a asked i in
      let less = asked_closes within w q in
      let few = opens_bound e.state n in
      rw (asked, i) (explain_fuel within (suc n) n _ (asked_well within w q) (omega (arith, less, few)) (omega (arith, less, few)))

  -- and so after any number of steps
  explain_onward : {l : List ℕ} (k : ℕ) (e u : Explained) → Accounted n l e → propagate_by k f e ≡ rest u → explain n f u ≡ explain n f e
  explain_onward {l} k e u c q = (propagate_keeps f (λ v. Accounted n l v × (explain n f v ≡ explain n f e))
      (λ v a x t asked i g. (accounted_asked within v a x t asked i g.0, explain_step v g.0.well a asked i ∙ g.1))
      k e u (c, refl) q).1

  -- a reason given after some steps is there at the end
  pub reason_kept : {l : List ℕ} (k : ℕ) (e v u : Explained) → Accounted n l e → propagate_by k f e ≡ rest v → explain n f e ≡ rest u →
      (p : ℕ) → v.reasons p ≢ 0 → u.reasons p ≡ v.reasons p
  reason_kept k e v u c q i = reason_stays within (suc n) v u (settling_accounted within k e v c q) (explain_onward k e v c q ∙ i)
