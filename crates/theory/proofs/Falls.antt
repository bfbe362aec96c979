-- Steps that each make a literal false, as rules 2 to 5 and 7 ask: what a clause and a pair keep along them.
use mathlib.Core.Path.{◌≡◌, refl}
use mathlib.Core.Logic.{◌⊎◌, inl, inr}
use Prim.Native.Nat.{ℕ, suc, ◌+◌, ◌<◌, ◌≤◌}
use native.Mathlib.Omega.{arith}
use native.Mathlib.Decide.{ℕ_discrete}
use Rattle.literal.specs.declared.Literal.{Literal}
use Rattle.literal.specs.Literal.{TRUE, FALSE, var, opposite}
use Rattle.theory.specs.Formula.{Clause, Formula, Within}
use Rattle.theory.specs.State.{State, assign, standing, WellFormed}
use Rattle.theory.proofs.Literals.{opposite_opposite, var_opposite}
use Rattle.theory.proofs.Asks.{Asks, asks_open}
use Rattle.theory.proofs.Propagation.{Steps, none_left, one_more, asked_well}
use Rattle.theory.proofs.Stepped.{assign_turned}
use Rattle.theory.proofs.Counts.{open_count, mentions, Wide}
use Rattle.theory.proofs.Recounts.{opens_step, wide_before, mentions_kept, mentions_gone}
use Rattle.theory.proofs.Paired.{Adds, adds_none, adds_still, adds_decided}
use Rattle.theory.proofs.DistinctBut.{DistinctBut, distinct_decided}

pub steps_trans : {f : Formula} {s u v : State} {m k : ℕ} → Steps f s u m → Steps f u v k → Steps f s v (m + k)
steps_trans {k = k} none_left b = let e : 0 + k ≡ k = omega arith in rw e b
steps_trans {k = k} (one_more {m = m} x t a r) b = let e : suc m + k ≡ suc (m + k) = omega arith in rw e (one_more x t a (steps_trans r b))

-- some rule asks that x becomes false, or that its opposite becomes true, which is the same step
abbrev pub AsksFalse : Formula → State → Literal → Type 0
AsksFalse f s x = Asks f s x FALSE ⊎ Asks f s (opposite x) TRUE

pub data Falls (f : Formula) : State → State → Type 0 where
  still : {s : State} → Falls f s s
  falls : {s u : State} (x : Literal) → AsksFalse f s x → Falls f (assign x FALSE s) u → Falls f s u

module _ {f : Formula} where
  -- what becomes true makes its opposite false
  pub asks_true : {s : State} {x : Literal} → Asks f s x TRUE → AsksFalse f s (opposite x)
  asks_true {x = x} a = inr (rw (opposite_opposite x) a)

  pub falls_one : {s : State} {x : Literal} → AsksFalse f s x → Falls f s (assign x FALSE s)
  falls_one {x = x} a = falls x a still

  pub falls_trans : {s u v : State} → Falls f s u → Falls f u v → Falls f s v
  falls_trans still b = b
  falls_trans (falls x a r) b = falls x a (falls_trans r b)

  pub falls_steps : {s u : State} → Falls f s u → (m : ℕ) × Steps f s u m
  falls_steps still = (0, none_left)
  falls_steps {s} {u} (falls x a r) = let w = falls_steps r in (suc w.0, go a w.1)
    where
      go : {m : ℕ} → AsksFalse f s x → Steps f (assign x FALSE s) u m → Steps f s u (suc m)
      go (inl a) k = one_more x FALSE a k
      go (inr a) k = one_more (opposite x) TRUE a (rw (← assign_turned s x FALSE) at k)

module _ {f : Formula} where
  false_open : {s : State} {x : Literal} → AsksFalse f s x → 0 < var x
  false_open (inl a) = asks_open a
  false_open {x = x} (inr a) = omega (arith, asks_open a, var_opposite x)

  -- what a literal that becomes false keeps is kept
  falls_ind : (R : State → State → Type 0) → ((s : State) → R s s) → ((s u : State) (x : Literal) → 0 < var x → R (assign x FALSE s) u → R s u) → {s u : State} → Falls f s u → R s u
  falls_ind R here on {s} still = here s
  falls_ind R here on {s} {u} (falls x a r) = on s u x (false_open a) (falls_ind R here on r)

  module _ {s u : State} (r : Falls f s u) where
    pub falls_opens : (c : Clause) → open_count (standing u c) ≤ open_count (standing s c)
    falls_opens c = falls_ind (λ s u. open_count (standing u c) ≤ open_count (standing s c)) (λ s. omega arith) (λ s u x o h. omega (arith, opens_step s x FALSE o c)) r

    pub falls_wide : (c : Clause) → Wide (standing u c) → Wide (standing s c)
    falls_wide c = falls_ind (λ s u. Wide (standing u c) → Wide (standing s c)) (λ s w. w) (λ s u x o h w. wide_before s x FALSE o c (h w)) r

    -- no clause begins to hold a variable
    pub falls_mentions : (c : Clause) (p : ℕ) → 0 < p → mentions p (standing u c) ≤ mentions p (standing s c)
    falls_mentions c p i = falls_ind (λ s u. mentions p (standing u c) ≤ mentions p (standing s c)) (λ s. omega arith)
        (λ s u x o h. elim (ℕ_discrete p (var x)) [
          | yes e ↦ let z : mentions p (standing (assign x FALSE s) c) ≡ 0 = rw e (mentions_gone s x FALSE o (λ q. omega arith) c) in omega arith
          | no e ↦ omega (arith, mentions_kept s x FALSE o p i e (λ q. omega arith) c)
        ]) r

    pub falls_distinct : {P : ℕ → Type 0} → DistinctBut P f s → DistinctBut P f u
    falls_distinct {P} = falls_ind (λ s u. DistinctBut P f s → DistinctBut P f u) (λ s k. k) (λ s u x o h k. h (distinct_decided k x FALSE o refl)) r

    -- and no two begin to meet
    pub falls_adds : Adds (λ g h. ⊥) f s u
    falls_adds = falls_ind (Adds (λ g h. ⊥) f) adds_none (λ s u x o h. adds_still (adds_decided s x FALSE o refl) h) r

module _ {n : ℕ} {f : Formula} (within : Within n f) where
  false_well : {s : State} {x : Literal} → WellFormed n s → AsksFalse f s x → WellFormed n (assign x FALSE s)
  false_well w (inl a) = asked_well within w a
  false_well {s} {x} w (inr a) = rw (assign_turned s x FALSE) at (asked_well within w a)

  pub falls_well : {s u : State} → WellFormed n s → Falls f s u → WellFormed n u
  falls_well w still = w
  falls_well w (falls x a r) = falls_well (false_well w a) r
