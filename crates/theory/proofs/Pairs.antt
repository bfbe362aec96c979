-- Two clauses that rule 7 or 8 fits, and what a step does to that: a constant makes none fit, a tie only by its lower variable.
use mathlib.Core.Path.{◌≡◌, refl, sym, ◌∙◌}
use mathlib.Core.Bool.{true, ◌&&◌}
use mathlib.Core.Logic.{◌⊎◌, inl, inr, ◌≢◌, ⊎_elim}
use Rattle.std.specs.Prelude.{Option, None, Some}
use mathlib.Core.List.{Memᴰ}
use Prim.Native.Nat.{◌<◌}
use Rattle.general.specs.Booleans.{and_true}
use Rattle.general.specs.Lists.{Before}
use Rattle.general.specs.Options.{cond_some}
use Rattle.literal.specs.declared.Literal.{Literal}
use Rattle.literal.specs.Literal.{TRUE, FALSE, var, opposite}
use Rattle.theory.specs.Formula.{Clause, Formula}
use Rattle.theory.specs.State.{State, assign, standing}
use Rattle.theory.specs.declared.Step.{Step}
use Rattle.theory.specs.declared.Step.TheVariants.{DeadEnd, Becomes}
use Rattle.theory.specs.Rules.{occurs, live, rule7, rule8}
use Rattle.theory.proofs.Literals.{opposite_opposite, var_opposite}
use Rattle.theory.proofs.Closed.{NoFalse, open_of, not_true_of}
use Rattle.theory.proofs.Ties.{Ties, ties_opposite}
use Rattle.theory.proofs.Asks.{common, crossed, Asks, by_two, Two, rule7_two, rule8_two, standing_no_false}
use Rattle.theory.proofs.Stepped.{stood}

-- rule 7 or 8 fits two clauses, which are both B, by a and b: b stands in one and its opposite in the other, a or its opposite in both
pub record Meets (B : Clause → Type 0) (g h : Clause) (a b : Literal) : Type 0 where
  pub both : B g × B h
  pub left : Memᴰ a g
  pub right : Memᴰ a h ⊎ Memᴰ (opposite a) h
  pub crossing : Memᴰ b g
  pub crossed_by : Memᴰ (opposite b) h
  pub apart : var a ≢ var b

module _ {B : Clause → Type 0} where
  -- where none is true, both are open
  pub meets_open : ((c : Clause) → B c → occurs TRUE c ≡ 0) → {g h : Clause} → NoFalse g → {a b : Literal} → Meets B g h a b → (0 < var a) × (0 < var b)
  meets_open bare {g} f {a} {b} m = (opened a m.left, opened b m.crossing)
    where
      opened : (x : Literal) → Memᴰ x g → 0 < var x
      opened x i = open_of x (not_true_of g x (bare g m.both.0) i) (f x i)

  -- by another fact of both
  pub meets_as : {C : Clause → Type 0} {g h : Clause} {a b : Literal} → C g × C h → Meets B g h a b → Meets C g h a b
  meets_as w m = record { both = w; left = m.left; right = m.right; crossing = m.crossing; crossed_by = m.crossed_by; apart = m.apart }

  -- the same pair the other way round, by the same variables
  pub meets_turned : {g h : Clause} {a b : Literal} → Meets B g h a b → (c : Literal) × (var c ≡ var a) × Meets B h g c (opposite b)
  meets_turned {g} {h} {a} {b} m = ⊎_elim
      (λ k. (a, refl, around a k (inl m.left) (λ e. m.apart (e ∙ var_opposite b))))
      (λ k. (opposite a, var_opposite a, around (opposite a) k (inr (rw (opposite_opposite a) m.left)) (λ e. m.apart (sym (var_opposite a) ∙ e ∙ var_opposite b))))
      m.right
    where
      around : (c : Literal) → Memᴰ c h → Memᴰ c g ⊎ Memᴰ (opposite c) g → var c ≢ var (opposite b) → Meets B h g c (opposite b)
      around c k i d = record {
        both = (m.both.1, m.both.0);
        left = k;
        right = i;
        crossing = m.crossed_by;
        crossed_by = rw (opposite_opposite b) m.crossing;
        apart = d;
      }

  -- what is B after a step was B before: then a step makes two clauses meet only by t
  module _ (s : State) (x t : Literal) (opened : 0 < var x) (back : (c : Clause) → B (standing (assign x t s) c) → B (standing s c)) (g h : Clause) where
    pub meets_before : {a b : Literal} → Meets B (standing (assign x t s) g) (standing (assign x t s) h) a b → var a ≢ var t → var b ≢ var t →
        Meets B (standing s g) (standing s h) a b
    meets_before {a} {b} m da db = record {
      both = (back g m.both.0, back h m.both.1);
      left = stood s x t opened g a m.left da;
      right = ⊎_elim
          (λ k. inl (stood s x t opened h a k da))
          (λ k. inr (stood s x t opened h (opposite a) k (λ e. da (sym (var_opposite a) ∙ e))))
          m.right;
      crossing = stood s x t opened g b m.crossing db;
      crossed_by = stood s x t opened h (opposite b) m.crossed_by (λ e. db (sym (var_opposite b) ∙ e));
      apart = m.apart;
    }

-- rule 7, whichever of its clauses comes first
pub asks_false : {f : Formula} (s : State) (g h : Clause) → Before g h f ⊎ Before h g f → {x y : Literal} → Memᴰ x (standing s g) → Memᴰ x (standing s h) →
    Memᴰ y (standing s g) → Memᴰ (opposite y) (standing s h) → 0 < var x → var x ≢ var y → Asks f s x FALSE
asks_false s g h b {y = y} xg xh yg yh o d = ⊎_elim
    (λ i. by_two g h i (common y xg xh yg yh o d))
    (λ i. by_two h g i (common (opposite y) xh xg yh (rw (opposite_opposite y) yg) o (λ e. d (e ∙ var_opposite y))))
    b

-- the step of such a pair, whichever of its clauses comes first
module _ {B : Clause → Type 0} (bare : (c : Clause) → B c → occurs TRUE c ≡ 0) {f : Formula} (s : State) (g h : Clause) (b : Before g h f ⊎ Before h g f) {x y : Literal}
    (m : Meets B (standing s g) (standing s h) x y) where
  opened : (0 < var x) × (0 < var y)
  opened = meets_open bare (standing_no_false s g) m

  pub asks_crossed : {z t : Literal} → Memᴰ (opposite x) (standing s h) → Ties x y z t → Asks f s z t
  asks_crossed k i = ⊎_elim
      (λ j. by_two g h j (crossed x y m.left k m.crossing m.crossed_by opened.0 opened.1 i))
      (λ j. by_two h g j (crossed (opposite x) (opposite y) k (rw (opposite_opposite x) m.left) m.crossed_by (rw (opposite_opposite y) m.crossing)
      (rw (var_opposite x) opened.0) (rw (var_opposite y) opened.1) (ties_opposite i)))
      b

-- live clauses, of which rules 7 and 8 speak -------------------------------------------------------------------------

abbrev pub Live : Clause → Type 0
Live c = live c ≡ true

abbrev pub NoPair : Clause → Clause → Type 0
NoPair g h = (rule7 g h ≡ None) × (rule8 g h ≡ None)

module _ (g h : Clause) (f : NoFalse g) where
  two_meets : (st : Step) → Live g × Live h → Two g h st → (a : Literal) × (b : Literal) × Meets Live g h a b
  two_meets DeadEnd l k = absurd k
  two_meets (Becomes x t) l (common y xg xh yg yh o d) = (x, y, record { both = l; left = xg; right = inl xh; crossing = yg; crossed_by = yh; apart = d })
  two_meets (Becomes x t) l (crossed y z yg yh zg zh oy oz k) =
      (y, z, record { both = l; left = yg; right = inr yh; crossing = zg; crossed_by = zh; apart = k.apart })

  pub meets_no_pair : ((a b : Literal) → ¬ Meets Live g h a b) → NoPair g h
  meets_no_pair unmet = (go (rule7 g h) refl (λ st e. ((cond_some _ _ st e).0, rule7_two g h f st e)), go (rule8 g h) refl (λ st e. ((cond_some _ _ st e).0, rule8_two g h f st e)))
    where
      go : (o : Option Step) {r : Option Step} → r ≡ o → ((st : Step) → r ≡ Some st → ((live g && live h) ≡ true) × Two g h st) → r ≡ None
      go None e k = e
      go (Some st) e k = let w = k st e in let m = two_meets st (and_true (live g) (live h) w.0) w.1 in absurd (unmet m.0 m.1 m.2)
