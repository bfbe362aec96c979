-- Rules 7 and 8 by the literals of document 01, and what a step x := t changes: which pairs that the rule does not fit it may fit then.
use mathlib.Core.Path.{◌≡◌, refl, ap, sym, ◌∙◌}
use mathlib.Core.Bool.{Bool, true, false, not, ◌&&◌, or-true}
use mathlib.Core.Logic.{◌≢◌, ⊎_elim}
use Rattle.std.specs.Prelude.{Option, None, Some, option_map, option_and_then}
use mathlib.Core.List.{Memᴰ}
use Prim.Native.Nat.{◌<◌}
use native.Mathlib.Decide.{ℕ_discrete}
use borrow.Author.Tests.{eqb-false, ne_eqb, not-true}
use Rattle.general.specs.Booleans.{true_not_false, and_true, and_intro, or_left}
use Rattle.general.specs.Options.{cond_none, map_none}
use Rattle.general.specs.Search.{Finds, find, find_finds, find_none}
use Rattle.literal.specs.declared.Literal.{Literal}
use Rattle.literal.specs.Literal.{var, opposite}
use Rattle.theory.specs.Formula.{Clause}
use Rattle.theory.specs.State.{State, replace, assign, standing}
use Rattle.theory.specs.Rules.{stands, differ, when, is_none, live, partner, tie}
use Rattle.theory.proofs.Literals.{opposite_opposite, var_opposite, opposite_ne, of_variable_lem}
use Rattle.theory.proofs.States.{replace_same, replace_other, replace_opposite}
use Rattle.theory.proofs.Clauses.{stands_mem, mem_stands}
use Rattle.theory.proofs.Closed.{open_of, not_true_of}
use Rattle.theory.proofs.Asks.{standing_no_false}
use Rattle.theory.proofs.Stepped.{replace_alike, after_mem}
use Rattle.theory.proofs.Idle.{live_none_true, live_before}
use Rattle.clause.specs.declared.Test.TheVariants.{Opposed, Partner, Shared}
use Rattle.clause.specs.Finding.{shares, passes}
use Rattle.rules.specs.declared.PairRule.{PairRule}
use Rattle.rules.specs.declared.PairRule.TheVariants.{Seven, Eight}
use Rattle.rules.specs.Rules.{pair_rule, pairs, paired, pair_step, another, wanted, Without, Side}
use Rattle.rules.proofs.Pairs.{pair_live}

-- beside a in g: a itself in h, or its opposite
abbrev pub beside : PairRule → Literal → Literal
beside Seven a = a
beside Eight a = opposite a

pub record Fits (p : PairRule) (g h : Clause) (a b : Literal) : Type 0 where
  pub left : Memᴰ a g
  pub right : Memᴰ (beside p a) h
  pub crossing : Memᴰ b g
  pub crossed_by : Memᴰ (opposite b) h
  pub apart : var a ≢ var b

differs : (x y : Literal) → var x ≢ var y → differ x y ≡ true
differs x y d = rw (ne_eqb (var x) (var y) d)

-- by what code tests -------------------------------------------------------------------------------------------------

tested : (p : PairRule) (h : Clause) (x : Literal) → passes (wanted p) h x ≡ stands (beside p x) h
tested Seven h x = refl
tested Eight h x = refl

module _ (p : PairRule) (g h : Clause) where
  fits_pairs : {a b : Literal} → Fits p g h a b → pairs (wanted p) g h a ≡ true
  fits_pairs {a} {b} f = and_intro (tested p h a ∙ mem_stands h (beside p a) f.right) (go (partner g h a) (find_finds _ g))
    where
      go : (o : Option Literal) → Finds (λ y. stands (opposite y) h && differ a y) g o → not (is_none o) ≡ true
      go None k = absurd (true_not_false (and_intro (mem_stands h (opposite b) f.crossed_by) (differs a b f.apart)) (k b f.crossing))
      go (Some y) k = refl

  pairs_fits : (a : Literal) → Memᴰ a g → pairs (wanted p) g h a ≡ true → (b : Literal) × Fits p g h a b
  pairs_fits a m e = let w = and_true (passes (wanted p) h a) _ e in go w.0 (partner g h a) (find_finds _ g) w.1
    where
      go : passes (wanted p) h a ≡ true → (o : Option Literal) → Finds (λ y. stands (opposite y) h && differ a y) g o → not (is_none o) ≡ true → (b : Literal) × Fits p g h a b
      go q None k z = absurd (true_not_false z refl)
      go q (Some b) k z =
          let w = and_true (stands (opposite b) h) (differ a b) k.1 in (
            b,
            record {
              left = m;
              right = stands_mem h (beside p a) (sym (tested p h a) ∙ q);
              crossing = k.0;
              crossed_by = stands_mem h (opposite b) w.0;
              apart = eqb-false (var a) (var b) (not-true _ w.1);
            },
          )

-- the rule asks nothing exactly where no literal is paired
step_paired : (p : PairRule) (g h : Clause) → pair_step p g h ≡ None → paired (wanted p) g h ≡ None
step_paired Seven g h e = map_none _ _ e
step_paired Eight g h e = go (paired Opposed g h) (find_finds (pairs Opposed g h) g) e
  where
    go : (o : Option Literal) → Finds (pairs Opposed g h) g o → option_and_then (λ x. option_map (tie x) (partner g h x)) o ≡ None → o ≡ None
    go None k q = refl
    go (Some x) k q = absurd (true_not_false (and_true (stands (opposite x) h) _ k.1).1 (rw (map_none (tie x) (partner g h x) q)))

paired_step : (p : PairRule) (g h : Clause) → paired (wanted p) g h ≡ None → pair_step p g h ≡ None
paired_step Seven g h e = rw e
paired_step Eight g h e = rw e

module _ (p : PairRule) (g h : Clause) where
  step_unfit : pair_step p g h ≡ None → (a b : Literal) → ¬ Fits p g h a b
  step_unfit e a b f = true_not_false (fits_pairs p g h f) (find_none _ g (step_paired p g h e) a f.left)

  unfit_step : ((a b : Literal) → ¬ Fits p g h a b) → pair_step p g h ≡ None
  unfit_step unfit = paired_step p g h (go (paired (wanted p) g h) (find_finds _ g))
    where
      go : (o : Option Literal) → Finds (pairs (wanted p) g h) g o → o ≡ None
      go None k = refl
      go (Some a) k = let w = pairs_fits p g h a k.0 k.1 in absurd (unfit a w.0 w.1)

-- a quick look at h beside the counts of g: the first literal that crosses, and another ---------------------------------

pub none_crosses : (p : PairRule) (g h : Clause) → None ≡ find (passes Opposed g) h → pair_step p g h ≡ None
none_crosses p g h e = unfit_step p g h (λ a b f.
    true_not_false (mem_stands g (opposite (opposite b)) (rw (opposite_opposite b) f.crossing)) (find_none (passes Opposed g) h (sym e) (opposite b) f.crossed_by))

pub none_another : (p : PairRule) (g h : Clause) (x : Literal) → None ≡ find (passes (another p x) g) h → pair_step p g h ≡ None
none_another Seven g h x e = unfit_step Seven g h (λ a b f. elim (ℕ_discrete (var x) (var a)) [
  | yes q ↦ unless (opposite b) f.crossed_by (rw (opposite_opposite b, mem_stands g b f.crossing) (or-true (stands (opposite b) g))) (λ r. f.apart (sym q ∙ r ∙ var_opposite b))
  | no q ↦ unless a f.right (or_left _ (mem_stands g a f.left)) q
])
  where
    unless : (y : Literal) → Memᴰ y h → shares g y ≡ true → var x ≢ var y → ⊥
    unless y k m d = true_not_false (and_intro m (differs x y d)) (find_none (passes (Shared x) g) h (sym e) y k)
none_another Eight g h x e = unfit_step Eight g h (λ a b f. elim (ℕ_discrete (var x) (var a)) [
  | yes q ↦ unless b f.crossing f.crossed_by (λ r. f.apart (sym q ∙ r))
  | no q ↦ unless a f.left f.right q
])
  where
    unless : (y : Literal) → Memᴰ y g → Memᴰ (opposite y) h → var x ≢ var y → ⊥
    unless y m k d =
        true_not_false
        (and_intro (mem_stands g (opposite (opposite y)) (rw (opposite_opposite y) m)) (differs x (opposite y) (λ r. d (r ∙ var_opposite y))))
        (find_none (passes (Partner x) g) h (sym e) (opposite y) k)

beside_twice : (p : PairRule) (a : Literal) → beside p (beside p a) ≡ a
beside_twice Seven a = refl
beside_twice Eight a = opposite_opposite a

pub none_wanted : (p : PairRule) (g h : Clause) → None ≡ find (passes (wanted p) g) h → pair_step p g h ≡ None
none_wanted p g h e = unfit_step p g h (λ a b f.
    true_not_false (tested p g (beside p a) ∙ rw (beside_twice p a) (mem_stands g a f.left)) (find_none (passes (wanted p) g) h (sym e) (beside p a) f.right))

-- two clauses that the rule does not fit ------------------------------------------------------------------------------

abbrev pub Unfit : PairRule → Clause → Clause → Type 0
Unfit p g h = live g ≡ true → live h ≡ true → (a b : Literal) → ¬ Fits p g h a b

module _ (p : PairRule) (g h : Clause) where
  pub rule_unfit : pair_rule p g h ≡ None → Unfit p g h
  rule_unfit e lg lh = step_unfit p g h (cond_none (live g && live h) (pair_step p g h) (sym (pair_live p g h) ∙ e) (and_intro lg lh))

  pub unfit_rule : Unfit p g h → pair_rule p g h ≡ None
  unfit_rule k = pair_live p g h ∙ go (live g && live h) refl
    where
      go : (b : Bool) → (live g && live h) ≡ b → when b (pair_step p g h) ≡ None
      go true e = let w = and_true (live g) (live h) e in unfit_step p g h (k w.0 w.1)
      go false e = refl

-- the same pair the other way round
var_beside : (p : PairRule) (a : Literal) → var (beside p a) ≡ var a
var_beside Seven a = refl
var_beside Eight a = var_opposite a

fits_turned : {p : PairRule} {g h : Clause} {a b : Literal} → Fits p g h a b → Fits p h g (beside p a) (opposite b)
fits_turned {p} {g} {h} {a} {b} f = record {
  left = f.right;
  right = rw (beside_twice p a) f.left;
  crossing = f.crossed_by;
  crossed_by = rw (opposite_opposite b) f.crossing;
  apart = λ e. f.apart (sym (var_beside p a) ∙ e ∙ var_opposite b);
}

pub turned_unfit : (p : PairRule) (g h : Clause) → pair_step p h g ≡ None → Unfit p g h
turned_unfit p g h e lg lh a b f = step_unfit p h g e (beside p a) (opposite b) (fits_turned f)

-- a step x := t -------------------------------------------------------------------------------------------------------

-- every pair that fits newly has a clause in which x stood and one in which t stood: so a pair of clauses without one of the two is kept
module _ (p : PairRule) (s : State) (x t : Literal) (opened : 0 < var x) {y : Literal} (side : Side x t y) (g h : Clause)
    (without_g : Without y (standing s g)) (without_h : Without y (standing s h)) where
  -- x in one clause, and in the other what t becomes
  parted : (k l : Literal) (c d : Clause) → Without y c → Without y d → Memᴰ k c → Memᴰ l d → var k ≡ var x → var l ≡ var t → 0 < var t → ⊥
  parted k l c d wc wd mk ml e q o = ⊎_elim
      (λ (z : y ≡ t). wd l ml (rw q o) (rw z q))
      (λ z. wc k mk (rw e opened) (rw z.0 e))
      side

  together : (k l : Literal) → Memᴰ k (standing s g) → Memᴰ l (standing s h) → var (replace x t l) ≡ var (replace x t k) → 0 < var (replace x t k) → var l ≡ var k
  together k l mk ml e o = elim (ℕ_discrete (var k) (var x)) [
    | yes i ↦ elim (ℕ_discrete (var l) (var x)) [
      | yes j ↦ j ∙ sym i
      | no j ↦ absurd (parted k l _ _ without_g without_h mk ml i (sym (ap var (replace_other x t l j)) ∙ e ∙ of_x k i) (rw (of_x k i) at o))
    ]
    | no i ↦ elim (ℕ_discrete (var l) (var x)) [
      | yes j ↦
          absurd (parted l k _ _ without_h without_g ml mk j (sym (ap var (replace_other x t k i)) ∙ sym e ∙ of_x l j) (rw (sym e ∙ of_x l j) at o))
      | no j ↦ sym (ap var (replace_other x t l j)) ∙ e ∙ ap var (replace_other x t k i)
    ]
  ]
    where
      of_x : (l : Literal) → var l ≡ var x → var (replace x t l) ≡ var t
      of_x l i = replace_alike x t l x i ∙ ap var (replace_same x t)

  -- then by the same literal, or by opposite ones
  as_before : (p : PairRule) (k l : Literal) → var l ≡ var k → replace x t l ≡ beside p (replace x t k) → l ≡ beside p k
  as_before Seven k l e i = ⊎_elim
      (λ q. q)
      (λ (q : l ≡ opposite k). absurd (opposite_ne (replace x t k) (sym (replace_opposite x t k) ∙ sym (ap (replace x t) q) ∙ i)))
      (of_variable_lem l k e)
  as_before Eight k l e i = ⊎_elim (λ (q : l ≡ k). absurd (opposite_ne (replace x t k) (sym i ∙ ap (replace x t) q))) (λ q. q) (of_variable_lem l k e)

  pub unfit_kept : Unfit p (standing s g) (standing s h) → Unfit p (standing (assign x t s) g) (standing (assign x t s) h)
  unfit_kept unfit lg lh a b f =
      let k = after_mem s x t opened g a f.left in
      let l = after_mem s x t opened h (beside p a) f.right in
      let i = after_mem s x t opened g b f.crossing in
      let j = after_mem s x t opened h (opposite b) f.crossed_by in
      let e : replace x t l.0 ≡ beside p (replace x t k.0) = l.2 ∙ ap (beside p) (sym k.2) in
      let q : replace x t j.0 ≡ opposite (replace x t i.0) = j.2 ∙ ap opposite (sym i.2) in
      let u = together k.0 l.0 k.1 l.1 (ap var e ∙ var_beside p (replace x t k.0)) (rw k.2 (open_in a f.left)) in
      let v = together i.0 j.0 i.1 j.1 (ap var q ∙ var_opposite (replace x t i.0)) (rw i.2 (open_in b f.crossing)) in
      unfit (live_before s x t opened g lg) (live_before s x t opened h lh) k.0 i.0 (record {
        left = k.1;
        right = rw (as_before p k.0 l.0 u e) at l.1;
        crossing = i.1;
        crossed_by = rw (as_before Eight i.0 j.0 v q) at j.1;
        apart = λ z. f.apart (sym (ap var k.2) ∙ replace_alike x t k.0 i.0 z ∙ ap var i.2);
      })
    where
      open_in : (l : Literal) → Memᴰ l (standing (assign x t s) g) → 0 < var l
      open_in l m = open_of l (not_true_of _ l (live_none_true _ lg) m) (standing_no_false (assign x t s) g l m)
