-- Propagation ends, and its end does not depend on the order of steps.
use mathlib.Core.Path.{◌≡◌, refl, ap}
use Rattle.std.specs.Prelude.{Option, None, Some}
use Prim.Native.Nat.{ℕ, zero, suc, ◌+◌, ◌<◌, ◌≤◌}
use native.Mathlib.Omega.{arith}
use native.Mathlib.Nat.{le_refl}
use Rattle.literal.specs.declared.Literal.{Literal}
use Rattle.theory.specs.Formula.{Formula, Within}
use Rattle.theory.specs.State.{State, initial, assign, opens, WellFormed}
use Rattle.theory.specs.declared.Step.{Step}
use Rattle.theory.specs.declared.Step.TheVariants.{DeadEnd, Becomes}
use Rattle.theory.specs.declared.Asked.{Asked}
use Rattle.theory.specs.Propagation.{step, Settled, dead, rest, act, follow, propagate}
use Rattle.theory.proofs.States.{Based, well_based, assign_well, Refines, refines_refl, refines_trans, refines_assign, assign_refines, refines_antisym, opens_assign}
use Rattle.theory.proofs.Asks.{Asks, Dies, Allowed, valid_step, open_step, step_allowed, step_rests}
use Rattle.theory.proofs.Forced.{forced, no_dead_end}

pub initial_well : (n : ℕ) → WellFormed n initial
initial_well n = record { low = λ p. le_refl p; fixed = λ p. refl; beyond = λ p h. refl }

-- no rule fits in v, rule 1 included
pub record Stable (f : Formula) (v : State) : Type 0 where
  pub based : Based v
  pub rests : step f v ≡ None

-- propagation from s ends at u: every stable state that refines s refines u too
pub record Ended (n : ℕ) (f : Formula) (s u : State) : Type 0 where
  pub well : WellFormed n u
  pub rests : step f u ≡ None
  pub refines : Refines s u
  pub coarsest : (v : State) → Stable f v → Refines s v → Refines u v
  pub fewer : opens u n ≤ opens s n

-- or at a dead end: no stable state refines s
abbrev pub Ends : ℕ → Formula → State → Settled → Type 0
Ends n f s dead = (v : State) → Stable f v → ¬ Refines s v
Ends n f s (rest u) = Ended n f s u

module _ {n : ℕ} {f : Formula} (within : Within n f) where
  -- one step of any rule
  module _ {s : State} {x t : Literal} (w : WellFormed n s) (a : Asks f s x t) where
    pub asked_well : WellFormed n (assign x t s)
    asked_well = assign_well w (valid_step within w a)

    pub asked_closes : opens (assign x t s) n + 1 ≡ opens s n
    asked_closes = let v = valid_step within w a in opens_assign w v n (open_step within w a) v.inside

    pub asked_refines : (v : State) → Stable f v → Refines s v → Refines (assign x t s) v
    asked_refines v k r = assign_refines x t w (valid_step within w a).fixed_x r (forced k.based (step_rests f v k.rests) r a)

  pub dies_alone : {s : State} → Dies f s → (v : State) → Stable f v → ¬ Refines s v
  dies_alone d v k r = no_dead_end k.based (step_rests f v k.rests) r d

  -- Propagation ends -------------------------------------------------------------------------------------------

  pub propagate_ends : (k : ℕ) (s : State) → WellFormed n s → opens s n < k → Ends n f s (propagate k f s)
  unfolding propagate
  propagate_ends zero s w h = absurd (omega arith)
  propagate_ends (suc k) s w h = go (step f s) refl (propagate_ends k)
    where
      -- what a step leaves is what the state had
      back : (x t : Literal) → Asks f s x t → (r : Settled) → Ends n f (assign x t s) r → Ends n f s r
      back x t a dead e = λ v k q. e v k (asked_refines w a v k q)
      back x t a (rest u) e = record {
        well = e.well;
        rests = e.rests;
        refines = refines_trans (refines_assign x t w) e.refines;
        coarsest = λ v k q. e.coarsest v k (asked_refines w a v k q);
        fewer = omega (arith, e.fewer, asked_closes w a);
      }

      acts : (t : Step) → Allowed f s t → ((u : State) → WellFormed n u → opens u n < k → Ends n f u (propagate k f u)) → Ends n f s (act (propagate k f) s t)
      acts DeadEnd d ih = dies_alone d
      acts (Becomes x t) a ih = back x t a (propagate k f (assign x t s)) (ih (assign x t s) (asked_well w a) (omega (arith, asked_closes w a)))

      go : (o : Option Asked) → step f s ≡ o → ((u : State) → WellFormed n u → opens u n < k → Ends n f u (propagate k f u)) → Ends n f s (follow (propagate k f) s o)
      go None e ih = record { well = w; rests = e; refines = refines_refl w; coarsest = λ v k q. q; fewer = le_refl _ }
      go (Some b) e ih = acts b.step (step_allowed f s b e) ih

-- one step more of settling
pub propagate_more : (f : Formula) (m : ℕ) (s u : State) (a : Asked) {x t : Literal} → propagate m f s ≡ rest u → step f u ≡ Some a → a.step ≡ Becomes x t →
    propagate (suc m) f s ≡ rest (assign x t u)
unfolding propagate
propagate_more f zero s u a q i j = let h : s ≡ u = cc in rw (h, i, j)
propagate_more f (suc m) s u a {x} {t} q i j = go (step f s) refl (λ v. propagate_more f m v u a) q
  where
    End : State → Type 0
    End v = propagate m f v ≡ rest u → step f u ≡ Some a → a.step ≡ Becomes x t → propagate (suc m) f v ≡ rest (assign x t u)

    acts : (d : Step) → ((v : State) → End v) → act (propagate m f) s d ≡ rest u → act (propagate (suc m) f) s d ≡ rest (assign x t u)
    acts DeadEnd ih q = absurd (let z : ◌≡◌ {A = ℕ} 0 1 = cc in omega arith)
    acts (Becomes y d) ih q = ih (assign y d s) q i j

    go : (o : Option Asked) → step f s ≡ o → ((v : State) → End v) → follow (propagate m f) s o ≡ rest u →
        follow (propagate (suc m) f) s o ≡ rest (assign x t u)
    go None h ih q = absurd (let z : s ≡ u = cc in let y : ◌≡◌ {A = ℕ} 0 1 = cc in omega arith)
    go (Some b) h ih q = acts b.step ih q

-- In any order ---------------------------------------------------------------------------------------------------

-- m steps, each of which some rule asks, lead from s to u
pub data Steps (f : Formula) : State → State → ℕ → Type 0 where
  none_left : {s : State} → Steps f s s 0
  one_more : {s u : State} {m : ℕ} (x t : Literal) → Asks f s x t → Steps f (assign x t s) u m → Steps f s u (suc m)

module _ {n : ℕ} {f : Formula} (within : Within n f) where
  pub steps_well : {s u : State} {m : ℕ} → Steps f s u m → WellFormed n s → WellFormed n u
  steps_well none_left w = w
  steps_well (one_more x t a r) w = steps_well r (asked_well within w a)

  pub steps_refine : {s u : State} {m : ℕ} → Steps f s u m → WellFormed n s → Refines s u
  steps_refine none_left w = refines_refl w
  steps_refine (one_more x t a r) w = refines_trans (refines_assign x t w) (steps_refine r (asked_well within w a))

  pub steps_coarsest : {s u : State} {m : ℕ} → Steps f s u m → WellFormed n s → (v : State) → Stable f v → Refines s v → Refines u v
  steps_coarsest none_left w v k q = q
  steps_coarsest (one_more x t a r) w v k q = steps_coarsest r (asked_well within w a) v k (asked_refines within w a v k q)

  -- every order ends: each step closes one variable
  pub steps_close : {s u : State} {m : ℕ} → Steps f s u m → WellFormed n s → opens u n + m ≡ opens s n
  steps_close none_left w = omega arith
  steps_close (one_more x t a r) w = omega (arith, steps_close r (asked_well within w a), asked_closes within w a)

  module _ {s u : State} {m : ℕ} (r : Steps f s u m) (w : WellFormed n s) (k : ℕ) (enough : opens s n < k) where
    -- steps in any order that end where no rule fits end where propagation ends
    pub any_order_rest : step f u ≡ None → propagate k f s ≡ rest u
    any_order_rest e = go (propagate k f s) (propagate_ends within k s w enough)
      where
        stable : Stable f u
        stable = record { based = well_based (steps_well r w); rests = e }

        go : (o : Settled) → Ends n f s o → o ≡ rest u
        go dead h = absurd (h u stable (steps_refine r w))
        go (rest v) h =
            ap rest (refines_antisym h.well (steps_well r w)
            (h.coarsest u stable (steps_refine r w))
            (steps_coarsest r w v (record { based = well_based h.well; rests = h.rests }) h.refines))

    -- and steps in any order that meet a dead end do so because propagation does
    pub any_order_dead : Dies f u → propagate k f s ≡ dead
    any_order_dead d = go (propagate k f s) (propagate_ends within k s w enough)
      where
        go : (o : Settled) → Ends n f s o → o ≡ dead
        go dead h = refl
        go (rest v) h =
            let stable : Stable f v = record { based = well_based h.well; rests = h.rests } in
            absurd (dies_alone within d v stable (steps_coarsest r w v stable h.refines))
