-- What one step x := t does to the counts of a clause.
use mathlib.Core.Path.{◌≡◌, refl, ap, sym, ◌∙◌}
use mathlib.Core.Bool.{Bool, true, false}
use mathlib.Core.Logic.{◌≢◌}
use Prim.Native.Nat.{ℕ, ◌+◌, ◌<◌, ◌≤◌}
use native.Mathlib.Omega.{arith}
use borrow.Author.Tests.{eq-eqb, ne_eqb, lt-ltb}
use Rattle.general.specs.Booleans.{bit}
use Rattle.general.specs.Counting.{count, count_same, count_less, count_none, count_plus}
use Rattle.literal.specs.declared.Literal.{Literal}
use Rattle.literal.specs.Literal.{TRUE, FALSE, var, opposite, same, is_open}
use Rattle.theory.specs.Formula.{Clause}
use Rattle.theory.specs.State.{State, value, replace, assign, standing}
use Rattle.theory.specs.Rules.{occurs}
use Rattle.theory.proofs.Literals.{var_opposite, opposite_ne, same_refl, same_ne}
use Rattle.theory.proofs.States.{replace_ind, value_assign}
use Rattle.theory.proofs.Counts.{open_count, of_variable, mentions, Wide, occurs_count, count_standing}

module _ (s : State) (x t : Literal) where
  count_assign : (test : Literal → Bool) → test FALSE ≡ false → (c : Clause) → count test (standing (assign x t s) c) ≡ count (λ l. test (replace x t (value s l))) c
  count_assign test z c = count_standing test z (assign x t s) c ∙ count_same _ _ (λ l. ap (λ (v : Literal). bit (test v)) (value_assign s x t l)) c

  -- tests of the literals that stand say what tests of the literals that stood do
  count_kept : (a : Literal → Bool) → a FALSE ≡ false → ((l : Literal) → bit (a (replace x t l)) ≡ bit (a l)) → (c : Clause) →
      count a (standing (assign x t s) c) ≡ count a (standing s c)
  count_kept a za h c = omega (arith, count_assign a za c, count_standing a za s c, count_same (λ l. a (replace x t (value s l))) (λ l. a (value s l)) (λ l. h (value s l)) c)

  count_joined : (a b : Literal → Bool) → a FALSE ≡ false → b FALSE ≡ false → ((l : Literal) → bit (a (replace x t l)) ≡ bit (a l) + bit (b l)) → (c : Clause) →
      count a (standing (assign x t s) c) ≡ count a (standing s c) + count b (standing s c)
  count_joined a b za zb h c = omega (
    arith,
    count_assign a za c,
    count_standing a za s c,
    count_standing b zb s c,
    count_plus (λ l. a (replace x t (value s l))) (λ l. a (value s l)) (λ l. b (value s l)) (λ l. h (value s l)) c,
  )

  module _ (opened : 0 < var x) where
    open_x : is_open x ≡ true
    open_x = lt-ltb 0 (var x) opened

    not_x : (l : Literal) → var l ≡ 0 → of_variable (var x) l ≡ false
    not_x l e = ne_eqb (var l) (var x) (λ q. omega arith)

    -- open and true literals ---------------------------------------------------------------------------------------

    -- x := a constant: the open literals of its class go
    pub opens_decided : var t ≡ 0 → (c : Clause) → open_count (standing s c) ≡ open_count (standing (assign x t s) c) + mentions (var x) (standing s c)
    opens_decided z c = omega (
      arith,
      count_standing is_open refl s c,
      count_assign is_open refl c,
      count_standing (of_variable (var x)) (not_x FALSE refl) s c,
      count_plus (λ l. is_open (value s l)) (λ l. is_open (replace x t (value s l))) (λ l. of_variable (var x) (value s l)) (λ l. each (value s l)) c,
    )
      where
        each : (l : Literal) → bit (is_open l) ≡ bit (is_open (replace x t l)) + bit (of_variable (var x) l)
        each = replace_ind (λ l m. bit (is_open l) ≡ bit (is_open m) + bit (of_variable (var x) l)) x t
            (rw (open_x, z, eq-eqb (var x) (var x) refl))
            (rw (var_opposite x, open_x, var_opposite t, z, eq-eqb (var x) (var x) refl))
            (λ l h. rw (ne_eqb (var l) (var x) h) (omega arith))

    -- a tie leaves as many open
    pub opens_tied : 0 < var t → (c : Clause) → open_count (standing (assign x t s) c) ≡ open_count (standing s c)
    opens_tied z = count_kept is_open refl (replace_ind (λ l m. bit (is_open m) ≡ bit (is_open l)) x t
        (rw (open_x, lt-ltb 0 (var t) z))
        (rw (var_opposite x, open_x, var_opposite t, lt-ltb 0 (var t) z))
        (λ l h. refl))

    -- no step opens one
    pub opens_step : (c : Clause) → open_count (standing (assign x t s) c) ≤ open_count (standing s c)
    opens_step c = omega (
      arith,
      count_assign is_open refl c,
      count_standing is_open refl s c,
      count_less (λ l. is_open (replace x t (value s l))) (λ l. is_open (value s l)) (λ l. each (value s l)) c,
    )
      where
        at_most : (b : Bool) → bit b ≤ 1
        at_most true = omega arith
        at_most false = omega arith

        each : (l : Literal) → bit (is_open (replace x t l)) ≤ bit (is_open l)
        each = replace_ind (λ l m. bit (is_open m) ≤ bit (is_open l)) x t
            (rw open_x (at_most (is_open t)))
            (rw (var_opposite x, open_x) (at_most (is_open (opposite t))))
            (λ l h. omega arith)

    -- and what is true stays true
    pub trues_step : (c : Clause) → occurs TRUE (standing s c) ≤ occurs TRUE (standing (assign x t s) c)
    trues_step c = omega (
      arith,
      occurs_count TRUE (standing s c),
      occurs_count TRUE (standing (assign x t s) c),
      count_assign (λ l. same l TRUE) refl c,
      count_standing (λ l. same l TRUE) refl s c,
      count_less (λ l. same (value s l) TRUE) (λ l. same (replace x t (value s l)) TRUE) (λ l. each (value s l)) c,
    )
      where
        each : (l : Literal) → bit (same l TRUE) ≤ bit (same (replace x t l) TRUE)
        each = replace_ind (λ l m. bit (same l TRUE) ≤ bit (same m TRUE)) x t
            (rw (same_ne x TRUE (λ e. omega (arith, ap var e))) (omega arith))
            (rw (same_ne (opposite x) TRUE (λ e. omega (arith, ap var e, var_opposite x))) (omega arith))
            (λ l h. omega arith)

    -- what is wide now was wide before
    pub wide_before : (c : Clause) → Wide (standing (assign x t s) c) → Wide (standing s c)
    wide_before c w = record { none_true = omega (arith, w.none_true, trues_step c); three = omega (arith, w.three, opens_step c) }

    -- what is neither x nor t nor their opposite stands as often
    occurs_kept : (y : Literal) → y ≢ FALSE → var y ≢ var x → var y ≢ var t → (c : Clause) → occurs y (standing (assign x t s) c) ≡ occurs y (standing s c)
    occurs_kept y f hx ht c = occurs_count y _ ∙ count_kept (λ l. same l y) (same_ne FALSE y (λ e. f (sym e))) each c ∙ sym (occurs_count y _)
      where
        each : (l : Literal) → bit (same (replace x t l) y) ≡ bit (same l y)
        each = replace_ind (λ l m. bit (same m y) ≡ bit (same l y)) x t
            (rw (same_ne t y (λ e. ht (sym (ap var e))), same_ne x y (λ e. hx (sym (ap var e)))))
            (rw (same_ne (opposite t) y (λ e. ht (sym (ap var e) ∙ var_opposite t)), same_ne (opposite x) y (λ e. hx (sym (ap var e) ∙ var_opposite x))))
            (λ l h. refl)

    -- a tie leaves as many true
    pub trues_tied : 0 < var t → (c : Clause) → occurs TRUE (standing (assign x t s) c) ≡ occurs TRUE (standing s c)
    trues_tied z = occurs_kept TRUE (opposite_ne FALSE) (λ e. omega arith) (λ e. omega arith)

    -- the opposite of t stands once more for each opposite of x
    occurs_turned : opposite t ≢ FALSE → var t ≢ var x → (c : Clause) →
        occurs (opposite t) (standing (assign x t s) c) ≡ occurs (opposite t) (standing s c) + occurs (opposite x) (standing s c)
    occurs_turned f d c = omega (
      arith,
      occurs_count (opposite t) (standing (assign x t s) c),
      occurs_count (opposite t) (standing s c),
      occurs_count (opposite x) (standing s c),
      count_joined (λ l. same l (opposite t)) (λ l. same l (opposite x)) (same_ne FALSE (opposite t) (λ e. f (sym e)))
          (same_ne FALSE (opposite x) (λ e. omega (arith, ap var e, var_opposite x))) each c,
    )
      where
        each : (l : Literal) → bit (same (replace x t l) (opposite t)) ≡ bit (same l (opposite t)) + bit (same l (opposite x))
        each = replace_ind (λ l m. bit (same m (opposite t)) ≡ bit (same l (opposite t)) + bit (same l (opposite x))) x t
            (rw (same_ne t (opposite t) (λ e. opposite_ne t (sym e)), same_ne x (opposite t) (λ e. d (sym (ap var e ∙ var_opposite t))), same_ne x (opposite x) (λ e. opposite_ne x (sym e))))
            (rw (same_refl (opposite t), same_ne (opposite x) (opposite t) (λ e. d (sym (sym (var_opposite x) ∙ ap var e ∙ var_opposite t))), same_refl (opposite x)))
            (λ l h. rw (same_ne l (opposite x) (λ e. h (ap var e ∙ var_opposite x))) (omega arith))

    -- the variables ------------------------------------------------------------------------------------------------

    -- of any other variable than x's and t's as many stand
    pub mentions_kept : (p : ℕ) → 0 < p → p ≢ var x → p ≢ var t → (c : Clause) → mentions p (standing (assign x t s) c) ≡ mentions p (standing s c)
    mentions_kept p o hx ht = count_kept (of_variable p) (ne_eqb 0 p (λ e. omega arith)) (replace_ind (λ l m. bit (of_variable p m) ≡ bit (of_variable p l)) x t
        (rw (ne_eqb (var t) p (λ e. ht (sym e)), ne_eqb (var x) p (λ e. hx (sym e))))
        (rw (var_opposite t, var_opposite x, ne_eqb (var t) p (λ e. ht (sym e)), ne_eqb (var x) p (λ e. hx (sym e))))
        (λ l h. refl))

    -- x's is gone
    pub mentions_gone : var t ≢ var x → (c : Clause) → mentions (var x) (standing (assign x t s) c) ≡ 0
    mentions_gone d c = count_assign (of_variable (var x)) (not_x FALSE refl) c ∙ count_none _ (λ l. each (value s l)) c
      where
        each : (l : Literal) → bit (of_variable (var x) (replace x t l)) ≡ 0
        each = replace_ind (λ l m. bit (of_variable (var x) m) ≡ 0) x t (rw (ne_eqb (var t) (var x) d)) (rw (var_opposite t, ne_eqb (var t) (var x) d)) (λ l h. rw (ne_eqb (var l) (var x) h))

    -- t's stands once more for each x
    pub mentions_tied : 0 < var t → var t ≢ var x → (c : Clause) →
        mentions (var t) (standing (assign x t s) c) ≡ mentions (var t) (standing s c) + mentions (var x) (standing s c)
    mentions_tied o d = count_joined (of_variable (var t)) (of_variable (var x)) (ne_eqb 0 (var t) (λ e. omega arith)) (not_x FALSE refl)
        (replace_ind (λ l m. bit (of_variable (var t) m) ≡ bit (of_variable (var t) l) + bit (of_variable (var x) l)) x t
        (rw (eq-eqb (var t) (var t) refl, ne_eqb (var x) (var t) (λ e. d (sym e)), eq-eqb (var x) (var x) refl))
        (rw (var_opposite t, var_opposite x, eq-eqb (var t) (var t) refl, ne_eqb (var x) (var t) (λ e. d (sym e)), eq-eqb (var x) (var x) refl))
        (λ l h. rw (ne_eqb (var l) (var x) h) (omega arith)))

-- x := FALSE: the opposites of x become true
pub trues_decided : (s : State) (x : Literal) → 0 < var x → (c : Clause) → occurs TRUE (standing (assign x FALSE s) c) ≡ occurs TRUE (standing s c) + occurs (opposite x) (standing s c)
trues_decided s x o c = occurs_turned s x FALSE o (opposite_ne FALSE) (λ e. omega arith) c
