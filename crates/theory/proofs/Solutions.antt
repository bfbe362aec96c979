-- Solutions as states that no rule fits; so propagation never gains or loses one.
use mathlib.Core.Path.{◌≡◌, refl, ap, sym, ◌∙◌}
use mathlib.Core.Bool.{Bool, true, false, not, cond}
use mathlib.Core.Logic.{◌↔◌}
use mathlib.Core.List.{[], ◌∷◌, Memᴰ}
use Prim.Native.Nat.{ℕ, suc, ◌+◌, ◌<◌}
use native.Mathlib.Omega.{arith}
use native.Mathlib.Nat.{zero-add}
use lib.ListN.{replicate}
use Rattle.general.specs.Booleans.{bit}
use Rattle.general.specs.Lists.{before_left}
use Rattle.literal.specs.declared.Literal.{Literal}
use Rattle.literal.specs.declared.Literal.TheVariants.{Pos, Neg}
use Rattle.literal.specs.Literal.{TRUE, FALSE, opposite}
use Rattle.theory.specs.Formula.{Clause, Formula, Assignment, holds, true_count, Satisfies, Within}
use Rattle.theory.specs.State.{State, value, stand, standing, opens, Agrees, WellFormed}
use Rattle.theory.specs.Rules.{occurs}
use Rattle.theory.specs.Propagation.{Settled, dead, rest, propagate}
use Rattle.general.specs.Search.{find}
use Rattle.theory.proofs.States.{Refines, refines_trans}
use Rattle.theory.proofs.Closed.{met}
use Rattle.theory.proofs.Forms.{closed_quiet}
use Rattle.theory.proofs.Propagation.{Stable, Ends, propagate_ends}
use Rattle.theory.proofs.AtRest.{rests_step}

-- a solution of f that agrees with s; variable 0 is the constant
pub record Sol (f : Formula) (s : State) (a : Assignment) : Type 0 where
  pub constant : a 0 ≡ true
  pub satisfies : Satisfies a f
  pub agrees : Agrees a s

-- every variable decided as a has it
abbrev pub decided_by : Assignment → State
decided_by a p = cond (a p) TRUE FALSE

decided_opposite : (b : Bool) → cond (not b) TRUE FALSE ≡ opposite (cond b TRUE FALSE)
decided_opposite true = refl
decided_opposite false = refl

value_decided : (a : Assignment) (l : Literal) → value (decided_by a) l ≡ cond (holds a l) TRUE FALSE
value_decided a (Pos p) = refl
value_decided a (Neg p) = sym (decided_opposite (a p))

decided_injective : (b c : Bool) → cond b TRUE FALSE ≡ cond c TRUE FALSE → b ≡ c
decided_injective true true e = refl
decided_injective true false e = cc
decided_injective false true e = cc
decided_injective false false e = refl

-- agreeing is refining
pub agrees_refines : (a : Assignment) (s : State) → Agrees a s ↔ Refines s (decided_by a)
agrees_refines a s = (
  λ h. record { at = λ p. value_decided a (s p) ∙ ap (λ (b : Bool). cond b TRUE FALSE) (sym (h.at p)) },
  λ h. record { at = λ p. decided_injective (a p) (holds a (s p)) (sym (h.at p) ∙ value_decided a (s p)) },
)

-- as many TRUE stand as are true
standing_decided : (a : Assignment) (c : Clause) → standing (decided_by a) c ≡ replicate (true_count a c) TRUE
unfolding standing true_count
standing_decided a [] = refl
standing_decided a (l ∷ c) = rw (value_decided a l, standing_decided a c) (go (holds a l))
  where
    one_more : suc (true_count a c) ≡ 1 + true_count a c
    one_more = omega arith

    go : (b : Bool) → stand (cond b TRUE FALSE) (replicate (true_count a c) TRUE) ≡ replicate (bit b + true_count a c) TRUE
    go true = ap (λ (k : ℕ). replicate k TRUE) one_more
    go false = ap (λ (k : ℕ). replicate k TRUE) (sym (zero-add (true_count a c)))

-- every clause stands as one TRUE, so no rule fits
pub satisfied_stable : (f : Formula) (a : Assignment) → a 0 ≡ true → Satisfies a f → Stable f (decided_by a)
unfolding occurs find
satisfied_stable f a e h = record {
  based = record { base = rw e };
  rests = rests_step (record {
    quiet = λ c m. rw (one c m) (closed_quiet met);
    quiet7 = λ g d b. rw (one g (before_left b));
    quiet8 = λ g d b. rw (one g (before_left b));
  });
}
  where
    one : (c : Clause) → Memᴰ c f → standing (decided_by a) c ≡ TRUE ∷ []
    one c m = standing_decided a c ∙ ap (λ (k : ℕ). replicate k TRUE) (h c m)

-- "Simplifying never gains or loses a choice" -----------------------------------------------------------------------

abbrev pub Keeps : Formula → State → Settled → Type 0
Keeps f s dead = (a : Assignment) → ¬ Sol f s a
Keeps f s (rest u) = (a : Assignment) → Sol f s a ↔ Sol f u a

pub settling_keeps_solutions : {n : ℕ} {f : Formula} → Within n f → (k : ℕ) (s : State) → WellFormed n s → opens s n < k → Keeps f s (propagate k f s)
settling_keeps_solutions {n} {f} within k s w enough = go (propagate k f s) (propagate_ends within k s w enough)
  where
    refined : (a : Assignment) → Sol f s a → Refines s (decided_by a)
    refined a h = (agrees_refines a s).0 h.agrees

    stable : (u : State) (a : Assignment) → Sol f u a → Stable f (decided_by a)
    stable u a h = satisfied_stable f a h.constant h.satisfies

    go : (o : Settled) → Ends n f s o → Keeps f s o
    go dead e = λ a h. e (decided_by a) (stable s a h) (refined a h)
    go (rest u) e = λ a. (
      λ h. record { constant = h.constant; satisfies = h.satisfies; agrees = (agrees_refines a u).1 (e.coarsest (decided_by a) (stable s a h) (refined a h)) },
      λ h. record { constant = h.constant; satisfies = h.satisfies; agrees = (agrees_refines a s).1 (refines_trans e.refines ((agrees_refines a u).0 h.agrees)) },
    )
