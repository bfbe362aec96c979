-- Where steps in any order may stop: counts say that rules 1 to 6 fit no clause, an empty list of pairs that 7 and 8 fit none; there settling ends too.
use mathlib.Core.Path.{◌≡◌, refl, ap}
use mathlib.Core.Logic.{⊎_elim}
use Rattle.std.specs.Prelude.{Option, None}
use Rattle.std.specs.Option.{option_or}
use mathlib.Core.List.{List, [], ◌∷◌, map, Memᴰ}
use Prim.Native.Nat.{ℕ, suc}
use native.Mathlib.Omega.{arith}
use Rattle.general.specs.Lists.{Before, here, later, before_left, before_right}
use Rattle.theory.specs.Formula.{Clause, Formula, Within}
use Rattle.theory.specs.State.{State, standing, WellFormed}
use Rattle.theory.specs.declared.Step.{Step}
use Rattle.theory.specs.Rules.{rule1, rule2, rule3, rule4, rule5, rule6, rule7, rule8}
use Rattle.theory.specs.Propagation.{first_clause, first_pair, ask, step, Settled, dead, rest, settle}
use Rattle.theory.proofs.States.{opens_bound, well_based, Refines, refines_trans, refines_antisym}
use Rattle.theory.proofs.Asks.{Dies, Rests, standing_no_false}
use Rattle.theory.proofs.Propagation.{Stable, Ended, Ends, Steps, steps_well, steps_refine, steps_coarsest, any_order_rest, any_order_dead}
use Rattle.theory.proofs.Pairs.{Live, NoPair, meets_as, meets_no_pair}
use Rattle.theory.proofs.Paired.{Paired}
use Rattle.theory.proofs.ByCount.{ByCount, counted_closed, counted_quiet, live_counted}
use Rattle.theory.proofs.Counts.{Wide}
use Rattle.theory.proofs.Splits.{settle_ends}

-- where no rule fits the fixed order asks nothing ----------------------------------------------------------------

module _ {A : Type 0} (look : A → Clause) where
  none_asks : (rule : Clause → Option Step) (k : ℕ) (f : List A) → ((c : A) → Memᴰ c f → rule (look c) ≡ None) → first_clause rule k (map look f) ≡ None
  unfolding first_clause
  none_asks rule k [] h = refl
  none_asks rule k (c ∷ f) h = rw (h c (Memᴰ.head refl)) (none_asks rule (suc k) f (λ d m. h d (Memᴰ.tail m)))

  no_pair_asks : (rule : Clause → Clause → Option Step) (k : ℕ) (f : List A) → ((g h : A) → Before g h f → rule (look g) (look h) ≡ None) →
      first_pair rule k (map look f) ≡ None
  unfolding first_pair
  no_pair_asks rule k [] h = refl
  no_pair_asks rule k (c ∷ f) h =
      rw (none_asks (rule (look c)) (suc k) f (λ d m. h c d (here m))) (no_pair_asks rule (suc k) f (λ g d b. h g d (later b)))

pub rests_step : {f : Formula} {s : State} → Rests f s → step f s ≡ None
unfolding ask
rests_step {f} {s} r =
    rw (
      none_asks (standing s) rule1 1 f (λ c m. (r.quiet c m).quiet1),
      none_asks (standing s) rule2 1 f (λ c m. (r.quiet c m).quiet2),
      none_asks (standing s) rule3 1 f (λ c m. (r.quiet c m).quiet3),
      none_asks (standing s) rule4 1 f (λ c m. (r.quiet c m).quiet4),
      none_asks (standing s) rule5 1 f (λ c m. (r.quiet c m).quiet5),
      none_asks (standing s) rule6 1 f (λ c m. (r.quiet c m).quiet6),
      no_pair_asks (standing s) rule7 1 f r.quiet7,
    ) (no_pair_asks (standing s) rule8 1 f r.quiet8)

-- what an engine has at its end ----------------------------------------------------------------------------------

-- each clause by its counts, and no pair that is to be looked at
module _ {f : Formula} {s : State} (counted : (c : Clause) → Memᴰ c f → ByCount (standing s c)) (k : Paired (λ g h. ⊥) f s) where
  -- a live clause is wide
  live_wide : (c : Clause) → Memᴰ c f → Live (standing s c) → Wide (standing s c)
  live_wide c m = (live_counted (counted_closed (standing s c) (standing_no_false s c) (counted c m))).0

  pub pairs_settled : (g h : Clause) → Before g h f → NoPair (standing s g) (standing s h)
  pairs_settled g h b = meets_no_pair (standing s g) (standing s h) (standing_no_false s g)
      (λ u v m. ⊎_elim (λ i. i) (λ i. i) (k.by g h b (record {
        shared = u;
        crossing = v;
        meets = meets_as (live_wide g (before_left b) m.both.0, live_wide h (before_right b) m.both.1) m;
      })))

  pub counted_rests : Rests f s
  counted_rests = record {
    quiet = λ c m. counted_quiet (standing s c) (standing_no_false s c) (counted c m);
    quiet7 = λ g h b. (pairs_settled g h b).0;
    quiet8 = λ g h b. (pairs_settled g h b).1;
  }

-- where settling ends ----------------------------------------------------------------------------------------------

module _ {n : ℕ} {f : Formula} (within : Within n f) {s u : State} (w : WellFormed n s) {m : ℕ} (r : Steps f s u m) where
  pub settled_rests : Rests f u → settle n f s ≡ rest u
  settled_rests k = any_order_rest within r w (suc n) (omega (arith, opens_bound s n)) (rests_step k)

  pub settled_at : ((c : Clause) → Memᴰ c f → ByCount (standing u c)) → Paired (λ g h. ⊥) f u → settle n f s ≡ rest u
  settled_at k p = settled_rests (counted_rests k p)

  pub settled_dead : Dies f u → settle n f s ≡ dead
  settled_dead k = any_order_dead within r w (suc n) (omega (arith, opens_bound s n)) k

  -- settling from where steps have led is settling from where they began
  pub settled_same : settle n f u ≡ settle n f s
  settled_same = go (settle n f u) (settle n f s) (settle_ends within u (steps_well within r w)) (settle_ends within s w)
    where
      stable : {s v : State} → Ended n f s v → Stable f v
      stable k = record { based = well_based k.well; rests = k.rests }

      onward : (v : State) → Stable f v → Refines s v → Refines u v
      onward v k q = steps_coarsest within r w v k q

      back : {v : State} → Refines u v → Refines s v
      back q = refines_trans (steps_refine within r w) q

      go : (o p : Settled) → Ends n f u o → Ends n f s p → o ≡ p
      go dead dead a b = refl
      go dead (rest v) a b = absurd (a v (stable b) (onward v (stable b) b.refines))
      go (rest v) dead a b = absurd (b v (stable a) (back a.refines))
      go (rest v) (rest z) a b =
          ap rest (refines_antisym a.well b.well (a.coarsest z (stable b) (onward z (stable b) b.refines)) (b.coarsest v (stable a) (back a.refines)))
