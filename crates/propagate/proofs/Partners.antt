-- Clauses that are noted to have no partner: at first none, then those that turn out so; and what is left of that after a step.
use mathlib.Core.Path.{◌≡◌, refl, sym, ◌∙◌}
use mathlib.Core.Bool.{Bool, true, false}
use mathlib.Core.List.Memᴰ
use mathlib.Core.List.{List, [], ◌∷◌, map, Memᴰ}
use mathlib.Core.Logic.{◌⊎◌, inl, inr, ⊎_elim}
use Rattle.std.specs.Prelude.{Option, None}
use Prim.Native.Nat.{ℕ, suc, ◌+◌, ◌<◌, ◌≤◌}
use native.Mathlib.Decide.{ℕ_discrete, dec_lt}
use native.Mathlib.Omega.{arith}
use borrow.Author.Tests.{ltb-false}
use lib.IntN.{ℤ}
use lib.ListN.{length, set, drop, drop_of_length-le, replicate, length-set, length-replicate}
use lib.Seq.{get_or-set_other}
use Rattle.general.specs.Booleans.{true_not_false}
use Rattle.general.specs.Lists.{get_or_throughout}
use Rattle.literal.specs.declared.Literal.{Literal}
use Rattle.literal.specs.Literal.{var, is_open, max_table}
use Rattle.theory.specs.declared.Step.{Step}
use Rattle.theory.specs.Formula.{Clause, clauses}
use Rattle.theory.specs.State.{assign, standing}
use Rattle.theory.specs.Propagation.{first_clause}
use Rattle.theory.proofs.Asks.{clause_none}
use Rattle.state.specs.State.{state_of}
use Rattle.clause.specs.Reading.{group, clause_at}
use Rattle.clause.proofs.Advancing.{Advances, later_clause}
use Rattle.rules.specs.declared.PairRule.{PairRule}
use Rattle.rules.specs.Rules.{Without, Side}
use Rattle.rules.proofs.Fits.{rule_unfit, unfit_rule, turned_unfit, unfit_kept}
use Rattle.propagate.specs.Partners.{next_of, first_partner, Alone, Noted, NoneNoted, Kept, Apart, Parted, PartedAll}

-- where a rule fits none of the clauses, there is no first
none_first : (look : Clause → Clause) (rule : Clause → Option Step) (k : ℕ) (f : List Clause) → ((c : Clause) → Memᴰ c f → rule (look c) ≡ None) →
    first_clause rule k (map look f) ≡ None
unfolding first_clause
none_first look rule k [] h = refl
none_first look rule k (c ∷ f) h = rw (h c (Memᴰ.head refl)) (none_first look rule (suc k) f (λ d m. h d (Memᴰ.tail m)))

module _ (t : List ℤ) (v : List ℕ) (rule : PairRule) where
  pub alone_none : (k i : ℕ) → Alone t (state_of v) rule i → None ≡ first_partner t v rule k i
  alone_none k i a = sym (none_first (standing (state_of v)) _ (k + 1) (clauses (drop (next_of t i) t)) a)

  none_alone : (k i : ℕ) → None ≡ first_partner t v rule k i → Alone t (state_of v) rule i
  none_alone k i e = λ h m. clause_none (standing (state_of v)) _ (k + 1) (clauses (drop (next_of t i) t)) (sym e) m

  pub noted_none : Noted t v rule (replicate max_table false)
  noted_none = record { room = length-replicate {A = Bool} max_table false; alone = λ i e. absurd (true_not_false e (get_or_throughout max_table i false)) }

  -- one more that has no partner
  pub noted_more : {m : List Bool} → Noted t v rule m → (k i : ℕ) → None ≡ first_partner t v rule k i → Noted t v rule (set m i true)
  noted_more {m} n k i e = record {
    room = length-set m i true ∙ n.room;
    alone = λ j q. elim (ℕ_discrete j i) [
      | yes s ↦ rw s (none_alone k i e)
      | no s ↦ n.alone j (sym (get_or-set_other m i j true false s) ∙ q)
    ];
  }

-- a step from v to w ---------------------------------------------------------------------------------------------------

module _ (t : List ℤ) (v w : List ℕ) (rule : PairRule) where
  module _ (x y : Literal) (opened : 0 < var x) (e : state_of w ≡ assign x y (state_of v)) where
    -- a decision makes no pair fit
    pub noted_decided : is_open y ≡ false → {m : List Bool} → Noted t v rule m → Noted t w rule m
    noted_decided z n = record {
      room = n.room;
      alone = λ i q. rw e (λ h c. unfit_rule rule _ _ (unfit_kept rule (state_of v) x y opened (inl refl) (group (drop i t)) h constant constant (rule_unfit rule _ _ (n.alone i q h c))));
    }
      where
        constant : {d : Clause} → Without y d
        constant l m o q = omega (arith, ltb-false 0 (var y) z)

    -- after a tie
    pub noted_tied : {z : Literal} → Side x y z → {m n o : List Bool} → Noted t v rule m → Kept (λ i. Without z (clause_at t v i)) m n → Kept (PartedAll t v w rule z) n o →
        Noted t w rule o
    noted_tied side noted k l = record {
      room = l.room ∙ k.room ∙ noted.room;
      alone = λ i q.
          let b = l.each i q in
          let a = k.each i b.0 in
          λ h c. ⊎_elim
          (λ without. rw e (unfit_rule rule _ _ (unfit_kept rule (state_of v) x y opened side (group (drop i t)) h a.1 without (rule_unfit rule _ _ (noted.alone i a.0 h c)))))
          (λ apart. unfit_rule rule _ _ (turned_unfit rule _ _ apart))
          (b.1 h (later_clause t i c));
    }

  -- where nothing is noted
  pub noted_nothing : {m : List Bool} → NoneNoted (length t) m → Noted t v rule m → Noted t w rule m
  unfolding clauses
  noted_nothing none-noted n = record {
    room = n.room;
    alone = λ i q. elim (dec_lt i (length t)) [
      | yes h ↦ absurd (true_not_false q (none-noted i h))
      | no h ↦ λ c m. absurd (Memᴰ.not-nil (rw (past i (omega arith)) at m))
    ];
  }
    where
      past : (i : ℕ) → length t ≤ i → clauses (drop (next_of t i) t) ≡ []
      past i h = rw (drop_of_length-le t {i = next_of t i} (omega arith))

-- clause by clause, from h on ------------------------------------------------------------------------------------------

module _ (t : List ℤ) (v w : List ℕ) (rule : PairRule) (y : Literal) where
  -- what is left of the clauses, or parted
  abbrev pub PartedFrom : ℕ → ℕ → Type 0
  PartedFrom h i = (c : Clause) → Memᴰ c (clauses t) → Memᴰ c (clauses (drop h t)) ⊎ Parted t v w rule y i c

  pub parting_none : (m : List Bool) → Kept (PartedFrom 0) m m
  parting_none m = record { room = refl; each = λ i q. (q, λ c k. inl k) }

  module _ {h : ℕ} {m n : List Bool} (k : Kept (PartedFrom h) m n) where
    parting_here : {next : ℕ} → Advances t h next → (i : ℕ) → Parted t v w rule y i (group (drop h t)) → PartedFrom h i → PartedFrom next i
    parting_here a i here from c l = ⊎_elim
        (λ z. ⊎_elim (λ (q : c ≡ group (drop h t)). inr (rw q here)) inl (Memᴰ.cases_cons (rw a.written at z)))
        inr
        (from c l)

    -- y did not stand in the clause at h, or the clauses that it may be a partner of are gone
    pub parting_without : {next : ℕ} → Advances t h next → Without y (clause_at t v h) → Kept (PartedFrom next) m n
    parting_without a without = record { room = k.room; each = λ i q. let b = k.each i q in (b.0, parting_here a i (inl without) b.1) }

    pub parting_next : {next : ℕ} → Advances t h next → {o : List Bool} → Kept (λ i. Apart t w rule h i) n o → Kept (PartedFrom next) m o
    parting_next a l = record {
      room = l.room ∙ k.room;
      each = λ i q. let d = l.each i q in let b = k.each i d.0 in (b.0, parting_here a i (inr d.1) b.1);
    }

    pub parting_all : length t ≤ h → Kept (PartedAll t v w rule y) m n
    unfolding clauses
    parting_all e = record {
      room = k.room;
      each = λ i q.
          let b = k.each i q in
          (b.0, λ c l. ⊎_elim (λ z. absurd (Memᴰ.not-nil (rw (drop_of_length-le t e) at z))) (λ z. z) (b.1 c l));
    }
