-- A5: settling that keeps reasons is settling, and the search is the search, once the reasons are forgotten.
use mathlib.Core.Path.{◌≡◌, refl, ap}
use mathlib.Core.List.{List}
use Rattle.std.specs.Prelude.{Option, None, Some}
use Prim.Native.Nat.{ℕ, zero, suc}
use lib.IntN.{ℤ}
use Rattle.theory.specs.declared.Asked.{Asked}
use Rattle.theory.specs.declared.Step.{Step}
use Rattle.theory.specs.declared.Step.TheVariants.{DeadEnd, Becomes}
use Rattle.theory.specs.Formula.{Formula, clauses}
use Rattle.theory.specs.State.{State, initial}
use Rattle.theory.specs.Propagation.{step, act, follow, propagate, settle}
use Rattle.theory.specs.Propagation as settled
use Rattle.theory.specs.Tree.{limited}
use Rattle.theory.specs.Search.{branch_variable, decided, decide, tree_of, search}
use Rattle.theory.specs.Reasons.{Explained, unexplained, assign_by, Explanation, dead, rest, act_by, follow_by, propagate_by, explain, forget, ended_by, decide_by, tree_by, search_by}
use Rattle.theory.proofs.Tree.{seen, tree_alike}

pub propagate_forgets : (f : Formula) (k : ℕ) (e : Explained) → forget (propagate_by k f e) ≡ propagate k f e.state
unfolding propagate_by propagate
propagate_forgets f zero e = refl
propagate_forgets f (suc k) e = go (step f e.state) (propagate_forgets f k)
  where
    acts : (j : ℕ) (t : Step) → ((u : Explained) → forget (propagate_by k f u) ≡ propagate k f u.state) →
        forget (act_by (propagate_by k f) e j t) ≡ act (propagate k f) e.state t
    acts j DeadEnd ih = refl
    acts j (Becomes x t) ih = ih (assign_by j x t e)

    go : (o : Option Asked) → ((u : Explained) → forget (propagate_by k f u) ≡ propagate k f u.state) →
        forget (follow_by (propagate_by k f) e o) ≡ follow (propagate k f) e.state o
    go None ih = refl
    go (Some a) ih = acts a.clause.0 a.step ih

-- "forgetting the reasons gives back settling": states and dead ends
pub settle_forgets : (n : ℕ) (f : Formula) (e : Explained) → forget (explain n f e) ≡ settle n f e.state
settle_forgets n f e = propagate_forgets f (suc n) e

abbrev state_of : Explained → State
state_of e = e.state

decide_forgets : (n : ℕ) (f : Formula) (e : Explained) → seen state_of (decide_by n f e) ≡ decide n f e.state
unfolding decide_by decide
decide_forgets n f e = rw (← settle_forgets n f e) (ends (explain n f e))
  where
    splits : (u : Explained) (o : Option ℕ) → branch_variable f u.state ≡ o → seen state_of (ended_by n f (rest u)) ≡ decided (branch_variable f) n (settled.rest u.state)
    splits u None q = rw q
    splits u (Some p) q = rw q

    ends : (o : Explanation) → seen state_of (ended_by n f o) ≡ decided (branch_variable f) n (forget o)
    ends dead = refl
    ends (rest u) = splits u (branch_variable f u.state) refl

-- "The tree, its count and every plan are unchanged"
pub tree_forgets : (n : ℕ) (f : Formula) → tree_by n f ≡ tree_of n f
unfolding tree_by tree_of
tree_forgets n f = tree_alike state_of (decide n f) (decide_by n f) (decide_forgets n f) (suc n) 1 (unexplained initial)

pub search_forgets : (n : ℕ) (t : List ℤ) (b : ℕ) → search_by n t b ≡ search n t b
unfolding search_by search
search_forgets n t b = ap (limited b) (tree_forgets n (clauses t))
