-- A tree that splits, wherever settling leaves a state, on the variable that is picked there: what is decided of a state is right about its solutions, and the tree from a state is
-- what is decided of it and the trees from its sides.
use mathlib.Core.Path.{◌≡◌, refl, ap, sym, ◌∙◌}
use mathlib.Core.Logic.{◌↔◌}
use mathlib.Core.List.{[]}
use Rattle.std.specs.Prelude.{Option, None}
use Prim.Native.Nat.{ℕ, suc}
use native.Mathlib.Omega.{arith}
use Rattle.theory.specs.Order.{◌≼◌}
use Rattle.theory.specs.Formula.{Formula, Choice, assignment, Within}
use Rattle.theory.specs.Propagation.{step, Settled, dead, rest, settle}
use Rattle.theory.specs.Search.{branch_variable, split_on, decided, decide}
use Rattle.theory.specs.State.{State, opens, WellFormed}
use Rattle.theory.specs.Tree.{Decision, Run, run, visit, tree}
use Rattle.theory.proofs.Agreement.{Extends}
use Rattle.theory.proofs.Branching.{split_on_means}
use Rattle.theory.proofs.Propagation.{Ends}
use Rattle.theory.proofs.Solutions.{Sol, Keeps, settling_keeps_solutions}
use Rattle.theory.proofs.Splits.{rests_closed, settle_ends}
use Rattle.theory.proofs.States.{opens_bound}
use Rattle.theory.proofs.Tree.{Means, means_back, tree_step}

-- what is decided of a state is right about its solutions
abbrev pub Right : (n : ℕ) (f : Formula) → State → Decision State Choice → Type 0
Right n f s d = Means (WellFormed n) (λ u. opens u n) (Extends n f) ◌≼◌ s d

-- a way to decide, by the variable that it picks where no rule fits
pub record Picking (n : ℕ) (f : Formula) (pick : State → Option ℕ) (decide : State → Decision State Choice) : Type 0 where
  pub is : (s : State) → decide s ≡ decided pick n (settle n f s)
  pub right : (u : State) → WellFormed n u → step f u ≡ None → Right n f u (split_on n u (pick u))

extends_sol : (n : ℕ) (f : Formula) (s : State) (c : Choice) → Extends n f s c → Sol f s (assignment c)
extends_sol n f s c h = record { constant = refl; satisfies = h.solves.satisfies; agrees = h.agrees }

module _ {n : ℕ} {f : Formula} (within : Within n f) where
  -- the solutions of a state are those of what settling leaves
  abbrev pub Settles : State → Settled → Type 0
  Settles s dead = (c : Choice) → ¬ Extends n f s c
  Settles s (rest u) = (c : Choice) → Extends n f s c ↔ Extends n f u c

  pub settles_alike : (s : State) → WellFormed n s → Settles s (settle n f s)
  settles_alike s w = go (settle n f s) (settling_keeps_solutions within (suc n) s w (omega (arith, opens_bound s n)))
    where
      go : (o : Settled) → Keeps f s o → Settles s o
      go dead k = λ c h. k (assignment c) (extends_sol n f s c h)
      go (rest u) k = λ c. (
        λ h. record { solves = h.solves; agrees = ((k (assignment c)).0 (extends_sol n f s c h)).agrees },
        λ h. record { solves = h.solves; agrees = ((k (assignment c)).1 (extends_sol n f u c h)).agrees },
      )

  pub branch_picking : Picking n f (branch_variable f) (decide n f)
  unfolding decide
  branch_picking = record { is = λ s. refl; right = λ u w e. split_on_means w within (rests_closed f u e) }

  module _ {pick : State → Option ℕ} {decide : State → Decision State Choice} (p : Picking n f pick decide) where
    pub picking_means : (s : State) → WellFormed n s → Right n f s (decide s)
    picking_means s w = rw (p.is s) (go (settle n f s) (settle_ends within s w) (settles_alike s w))
      where
        go : (o : Settled) → Ends n f s o → Settles s o → Right n f s (decided pick n o)
        go dead e k = k
        go (rest u) e k = means_back (WellFormed n) (λ u. opens u n) (Extends n f) ◌≼◌ s u k e.fewer (split_on n u (pick u)) (p.right u e.well e.rests)

    module _ (k : ℕ) where
      abbrev tree_at : State → Run Choice
      tree_at = tree decide (suc n) k

      decided_at : (s : State) → WellFormed n s → (o : Settled) → settle n f s ≡ o → tree_at s ≡ visit (tree decide (suc n)) k (decided pick n o)
      decided_at s w o e =
          tree_step (WellFormed n) (λ u. opens u n) (Extends n f) ◌≼◌ decide picking_means (suc n) k s w (omega (arith, opens_bound s n)) ∙
          ap (visit (tree decide (suc n)) k) (p.is s ∙ ap (decided pick n) e)

      -- "Dead end: no layout here."
      pub at_dead_end : (s : State) → WellFormed n s → settle n f s ≡ dead → tree_at s ≡ run [] 0
      at_dead_end s w e = decided_at s w dead e

      -- a layout, or a split on the variable that is picked
      pub at_rest : (s : State) → WellFormed n s → (u : State) → settle n f s ≡ rest u → (o : Option ℕ) → pick u ≡ o →
          tree_at s ≡ visit (tree decide (suc n)) k (split_on n u o)
      at_rest s w u e o z = decided_at s w (rest u) e ∙ ap (λ d. visit (tree decide (suc n)) k (split_on n u d)) z

      -- from where steps have led the tree is that from where they began
      pub same_tree : (s u : State) → WellFormed n s → WellFormed n u → settle n f u ≡ settle n f s → tree_at u ≡ tree_at s
      same_tree s u w v e = decided_at u v _ e ∙ sym (decided_at s w _ refl)
