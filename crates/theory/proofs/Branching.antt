-- What is decided of a state that no rule fits is right about its first solution: the choice of a leaf, or the two sides of a split.
use mathlib.Core.Path.{◌≡◌, refl, sym, ◌∙◌}
use mathlib.Core.Bool.{true, false, cond}
use mathlib.Core.Logic.{inl, inr, ⊎_elim, ◌↔◌}
use Rattle.std.specs.Prelude.{Option, None, Some}
use mathlib.Core.List.{Memᴰ}
use Prim.Native.Nat.{ℕ, ◌<◌, ◌≤◌}
use native.Mathlib.Omega.{arith}
use native.Mathlib.Decide.{dec_lt}
use lib.Dec.{eqb, ltb}
use borrow.Author.Tests.{eqb-true, lt-ltb, le-ltb}
use Rattle.general.specs.Booleans.{bool_cases, true_not_false}
use Rattle.literal.specs.declared.Literal.TheVariants.{Pos}
use Rattle.literal.specs.Literal.{TRUE, FALSE, var}
use Rattle.theory.specs.Formula.{Clause, Formula, Assignment, Choice, assignment, Within}
use Rattle.theory.specs.Order.{◌≼◌, Least, IsLeast}
use Rattle.theory.specs.State.{State, assign, standing, opens, Open, WellFormed}
use Rattle.theory.specs.Search.{branch_variable, split_on}
use Rattle.theory.proofs.States.{Side, side}
use Rattle.theory.proofs.Closed.{Closed}
use Rattle.theory.proofs.Order.{≼_trans}
use Rattle.theory.proofs.Agreement.{Extends, count_alike, count_standing, extends_assign}
use Rattle.theory.proofs.Live.{InLive, in_live, live_open, branch_least}
use Rattle.theory.proofs.Leaves.{choice_from, ≼-roots, choice_root, choice_extends, leaf_first}
use Rattle.theory.proofs.Tree.{Branches, Means}

-- a with all variables below p left out
abbrev cleared : Assignment → ℕ → Assignment
cleared a p q = cond (ltb q p) (eqb q 0) (a q)

cleared_below : (a : Assignment) (p q : ℕ) → q < p → cleared a p q ≡ eqb q 0
cleared_below a p q h = rw (lt-ltb q p h)

cleared_from : (a : Assignment) (p q : ℕ) → p ≤ q → cleared a p q ≡ a q
cleared_from a p q h = rw (le-ltb q p h)

-- the two sides of a split on an open variable
abbrev pub LeftOut : ℕ → Formula → State → ℕ → Choice → Type 0
LeftOut n f s p = Extends n f (assign (Pos p) FALSE s)

abbrev pub Taken : ℕ → Formula → State → ℕ → Choice → Type 0
Taken n f s p = Extends n f (assign (Pos p) TRUE s)

module _ {n : ℕ} {s : State} {p : ℕ} (o : Open n s p) (f : Formula) where
  pub left_out_is : (c : Choice) → LeftOut n f s p c ↔ (Extends n f s c × (assignment c p ≡ false))
  left_out_is = extends_assign s (Pos p) FALSE o.root n f

  pub taken_is : (c : Choice) → Taken n f s p c ↔ (Extends n f s c × (assignment c p ≡ true))
  taken_is = extends_assign s (Pos p) TRUE o.root n f

  pub sides_branches : WellFormed n s → ((c d : Choice) → Least ◌≼◌ (LeftOut n f s p) c → Taken n f s p d → c ≼ d) →
      Branches (WellFormed n) (λ u. opens u n) (Extends n f) ◌≼◌ s (assign (Pos p) FALSE s) (assign (Pos p) TRUE s)
  sides_branches w before = record {
    good_left = left_out.well;
    good_right = taken.well;
    less_left = omega (arith, left_out.closes);
    less_right = omega (arith, taken.closes);
    into = λ c e. ⊎_elim (λ h. inr ((taken_is c).1 (e, h))) (λ h. inl ((left_out_is c).1 (e, h))) (bool_cases (assignment c p));
    from_left = λ c e. ((left_out_is c).0 e).0;
    from_right = λ c e. ((taken_is c).0 e).0;
    before = before;
  }
    where
      left_out : Side n s (assign (Pos p) FALSE s)
      left_out = side w o FALSE refl

      taken : Side n s (assign (Pos p) TRUE s)
      taken = side w o TRUE refl

module _ {n : ℕ} {f : Formula} {s : State} (w : WellFormed n s) (within : Within n f) (closed : (c : Clause) → Memᴰ c f → Closed (standing s c)) where
  -- p is the variable to split on
  module _ (p : ℕ) (b : Least ◌≤◌ (InLive f s) p) where
    opened : Open n s p
    opened = live_open w within b.member

    -- clearing the open variables below p keeps a solution, since they stand in no live clause
    cleared_extends : (c : Choice) → Extends n f s c → Extends n f s (choice_from n s (cleared (assignment c) p))
    cleared_extends c e = choice_extends w within closed (cleared (assignment c) p) (cleared_below (assignment c) p 0 opened.positive) (λ d m k.
        count_alike (cleared (assignment c) p) (assignment c) (standing s d)
        (λ l h. cleared_from (assignment c) p (var l) (b.least (var l) (in_live d m k l h))) ∙
        count_standing e.agrees refl d ∙
        e.solves.satisfies d m)

    branch_before : (c d : Choice) → Least ◌≼◌ (Extends n f (assign (Pos p) FALSE s)) c → Extends n f (assign (Pos p) TRUE s) d → c ≼ d
    branch_before c d first taken = ≼_trans c e d
        (first.least e ((left_out_is opened f e).1 (still, left_out)))
        (≼-roots w e d still.solves.long right.0.solves.long still.agrees right.0.agrees follows)
      where
        left : Extends n f s c × (assignment c p ≡ false)
        left = (left_out_is opened f c).0 first.member

        right : Extends n f s d × (assignment d p ≡ true)
        right = (taken_is opened f d).0 taken

        v : Assignment
        v = cleared (assignment c) p

        e : Choice
        e = choice_from n s v

        still : Extends n f s e
        still = cleared_extends c left.0

        at_root : (q : ℕ) → s q ≡ Pos q → q ≤ n → assignment e q ≡ v q
        at_root = choice_root w v (cleared_below (assignment c) p 0 opened.positive)

        left_out : assignment e p ≡ false
        left_out = at_root p opened.root opened.inside ∙ cleared_from (assignment c) p p (omega arith) ∙ left.1

        follows : (q : ℕ) → 0 < q → q ≤ n → s q ≡ Pos q → ((r : ℕ) → r < q → assignment e r ≡ assignment d r) → assignment e q ≡ true → assignment d q ≡ true
        follows q low high r alike one = elim (dec_lt q p) [
          | yes h ↦ absurd (omega (arith, eqb-true q 0 (sym (at_root q r high ∙ cleared_below (assignment c) p q h) ∙ one)))
          | no h ↦ elim (dec_lt p q) [
            | yes k ↦ absurd (true_not_false (alike p k ∙ right.1) left_out)
            | no k ↦ let same : q ≡ p = omega arith in rw same right.1
          ]
        ]

    branch_branches : Branches (WellFormed n) (λ u. opens u n) (Extends n f) ◌≼◌ s (assign (Pos p) FALSE s) (assign (Pos p) TRUE s)
    branch_branches = sides_branches opened f w branch_before

  pub split_on_means : Means (WellFormed n) (λ u. opens u n) (Extends n f) ◌≼◌ s (split_on n s (branch_variable f s))
  split_on_means = go (branch_variable f s) (branch_least f s closed)
    where
      go : (o : Option ℕ) → IsLeast ◌≤◌ (InLive f s) o → Means (WellFormed n) (λ u. opens u n) (Extends n f) ◌≼◌ s (split_on n s o)
      go None h = leaf_first w within closed h
      go (Some p) h = branch_branches p h
