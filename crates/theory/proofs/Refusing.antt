-- Checks in their order, and calls that they refuse: refused exactly when some check refuses, with the number and place of the first that does, and nothing changed.
use mathlib.Core.Path.{◌≡◌, refl, ap, sym, ◌∙◌}
use mathlib.Core.Bool.{Bool, true, false, true≢false, cond}
use mathlib.Core.Logic.{◌↔◌, ◌≢◌, ⊎_elim}
use mathlib.Core.List.Memᴰ
use mathlib.Core.List.{List, [], ◌∷◌, ◌++◌, Memᴰ}
use Prim.Native.Nat.{ℕ, ◌≤◌}
use native.Mathlib.Omega.{arith}
use borrow.Author.Tests.{ltb-false, le-ltb}
use lib.Dec.{ltb}
use lib.IntN.{ℤ}
use Rattle.general.specs.Search.{first_place}
use Rattle.literal.specs.Literal.{max_variables, max_clauses, max_literals}
use Rattle.receipt.specs.declared.Fault.{Fault}
use Rattle.receipt.specs.declared.Fault.TheVariants.{TooManyVariables, TooManyClauses, TooManyLiterals, OpenClause}
use Rattle.receipt.specs.declared.Refusal.{Refusal}
use Rattle.receipt.specs.declared.Receipt.{Receipt}
use Rattle.std.specs.Prelude.{Result, Ok, Err}
use Rattle.receipt.specs.Receipt.{Checked, pass}
use Rattle.receipt.specs.declared.Outcome.{Outcome}
use Rattle.receipt.specs.Receipt.{number_of, named_clause, outcome_number, unknown_variable, refusal, receipt, refused_receipt}
use Rattle.receipt.proofs.Numbers.{answers, not_refused, outcome_answers}
use Rattle.theory.specs.Refusing.{refused_if, at_most, first_of, first_refusal, RefusedFirst, table_checks, unless, NotRefused}
use Rattle.theory.specs.Table.{zeros, nonzeros, ends_open, refused, is_unknown, table_unknown, check}
use Rattle.theory.specs.Unknown.{UnknownInTable, Names}
use Rattle.theory.proofs.Unknown.{none_named, refusal_names, check_unknown}

-- one check -----------------------------------------------------------------------------------------------------------

pub not_passed : {w : Refusal} → ¬ (Err w ≡ pass)
not_passed e = let z : ◌≡◌ {A = ℕ} 0 1 = cc in omega arith

pub if_passes : (test : Bool) (why : Fault) → (refused_if test why ≡ pass) ↔ (test ≡ false)
if_passes true why = (λ e. absurd (not_passed e), λ e. absurd (true≢false e))
if_passes false why = (λ e. refl, λ e. refl)

pub most_passes : (k m : ℕ) (why : Fault) → (at_most k m why ≡ pass) ↔ (k ≤ m)
most_passes k m why = (λ e. ltb-false m k ((if_passes (ltb m k) why).0 e), λ h. rw (le-ltb m k h))

-- checks in their order -----------------------------------------------------------------------------------------------

pub first_passed : (c d : Checked) → (first_of c d ≡ pass) ↔ ((c ≡ pass) × (d ≡ pass))
first_passed (Err r) d = (λ e. absurd (not_passed e), λ e. absurd (not_passed e.0))
first_passed (Ok u) d = (λ e. (refl, e), λ e. e.1)

-- by what each asks
pub both_pass : {P Q : Type 0} {c d : Checked} → (c ≡ pass) ↔ P → (d ≡ pass) ↔ Q → (first_of c d ≡ pass) ↔ (P × Q)
both_pass {c = c} {d = d} p q = (
  λ e. let x = (first_passed c d).0 e in (p.0 x.0, q.0 x.1),
  λ (h, k). (first_passed c d).1 (p.1 h, q.1 k),
)

pub last_passes : {P : Type 0} {c : Checked} → (c ≡ pass) ↔ P → (first_of c pass ≡ pass) ↔ P
last_passes {c = c} p = (λ e. p.0 ((first_passed c pass).0 e).0, λ h. (first_passed c pass).1 (p.1 h, refl))

-- refused exactly when some check refuses
pub all_pass : (cs : List Checked) → (first_refusal cs ≡ pass) ↔ ((c : Checked) → Memᴰ c cs → c ≡ pass)
all_pass [] = (λ e c m. absurd (Memᴰ.not-nil m), λ h. refl)
all_pass (d ∷ cs) = (
  λ e c m.
      let x = (first_passed d (first_refusal cs)).0 e in
      ⊎_elim (λ (q : c ≡ d). q ∙ x.0) (λ k. (all_pass cs).0 x.1 c k) (Memᴰ.cases_cons m),
  λ h. (first_passed d (first_refusal cs)).1 (h d (Memᴰ.head refl), (all_pass cs).1 (λ c m. h c (Memᴰ.tail m))),
)

-- the first that refuses gives the number and the place
pub first_refuses : (cs : List Checked) (w : Refusal) → (first_refusal cs ≡ Err w) ↔ RefusedFirst cs w
first_refuses cs w = (there cs, λ f. rw f.whole (back f.before f.after f.passed))
  where
    back : (l r : List Checked) → first_refusal l ≡ pass → first_refusal (l ++ (Err w ∷ r)) ≡ Err w
    back [] r e = refl
    back ((Ok u) ∷ l) r e = back l r e
    back (Err v ∷ l) r e = absurd (not_passed e)

    there : (cs : List Checked) → first_refusal cs ≡ Err w → RefusedFirst cs w
    there [] e = absurd (not_passed (sym e))
    there (Err v ∷ cs) e = record { before = []; after = cs; whole = ap (λ k. k ∷ cs) e; passed = refl }
    there ((Ok u) ∷ cs) e = let f = there cs e in record { before = (Ok u) ∷ f.before; after = f.after; whole = ap (◌∷◌ (Ok u)) f.whole; passed = f.passed }

-- checks one after another, in whatever way they are put together
pub first_assoc : (a b c : Checked) → first_of (first_of a b) c ≡ first_of a (first_of b c)
first_assoc (Ok u) b c = refl
first_assoc (Err r) b c = refl

pub first_last : (c : Checked) → first_of c pass ≡ c
first_last (Ok u) = refl
first_last (Err r) = refl

-- document 01's check is its checks in their order
pub check_first : (n : ℕ) (t : List ℤ) → check n t ≡ first_refusal (table_checks n t)
unfolding check
check_first n t =
    or (ltb max_variables n) TooManyVariables
    (or (ltb max_clauses (zeros t)) TooManyClauses
    (or (ltb max_literals (nonzeros t)) TooManyLiterals
    (or (ends_open false t) OpenClause
    (sym (first_last (table_unknown t (first_place (is_unknown n) 0 t)))))))
  where
    or : (test : Bool) (why : Fault) {k l : Checked} → k ≡ l → cond test (refused why 0) k ≡ first_of (refused_if test why) l
    or true why e = refl
    or false why e = e

-- what a check names, where it refuses with 5 ------------------------------------------------------------------------

pub record NamedBy (Where : ℕ → ℕ → Type 0) (c : Checked) : Type 0 where
  pub named : (w : Refusal) → c ≡ Err w → number_of w.fault ≡ 5 → Where (named_clause w.fault).0 w.place

pub table_named : (n : ℕ) (t : List ℤ) → NamedBy (UnknownInTable n t) (check n t)
table_named n t = record { named = check_unknown n t }

pub passed_named : {Where : ℕ → ℕ → Type 0} {c : Checked} → c ≡ pass → NamedBy Where c
passed_named p = record { named = λ w e. absurd (not_passed (sym e ∙ p)) }

pub first_named : {Where : ℕ → ℕ → Type 0} (c d : Checked) → NamedBy Where c → (c ≡ pass → NamedBy Where d) → NamedBy Where (first_of c d)
first_named (Err r) d h k = h
first_named (Ok u) d h k = k refl

pub if_named : {Where : ℕ → ℕ → Type 0} (test : Bool) (why : Fault) → number_of why ≢ 5 → NamedBy Where (refused_if test why)
if_named true why h = record { named = λ w e q. let z : refusal why 0 ≡ w = cc in absurd (h (ap (λ (x : Refusal). number_of x.fault) z ∙ q)) }
if_named false why h = passed_named refl

pub most_named : {Where : ℕ → ℕ → Type 0} (k m : ℕ) (why : Fault) → number_of why ≢ 5 → NamedBy Where (at_most k m why)
most_named k m why h = if_named (ltb m k) why h

-- no outcome is 5
pub outcome_names : {Where : ℕ → ℕ → Type 0} (o : Outcome) (p k : ℕ) → Names Where (receipt (outcome_number o) p k)
outcome_names o p k = none_named (outcome_number o) p k (λ e. not_refused (unknown_variable 0) (outcome_number o) (outcome_answers o) (sym e))

-- a call ---------------------------------------------------------------------------------------------------------------

-- a number of an answer is no refusal's
pub number_not_refused : {A : Type 0} (receipt_of : Result A Refusal → Receipt) → ((w : Refusal) → receipt_of (Err w) ≡ refused_receipt w) →
    (r : Result A Refusal) (k : ℕ) → answers k ≡ true → (receipt_of r).number ≡ k → NotRefused r
number_not_refused receipt_of receipts r k a q w e =
    not_refused w.fault k a (ap (λ (x : Receipt). x.number) (sym (receipts w) ∙ ap receipt_of (sym e)) ∙ q)

-- what call c answers and leaves: as turned says where check k refuses, and else what is accepted
pub record Refusing {A C : Type 0} (answer : C → Result A Refusal) (turned : Refusal → C) (k : Checked) (accepted c : C) : Type 0 where
  pub is : c ≡ unless k turned accepted
  pub turns : (w : Refusal) → answer (turned w) ≡ Err w
  pub accepts : NotRefused (answer accepted)

module _ {A C : Type 0} {answer : C → Result A Refusal} {turned : Refusal → C} {accepted c : C} where
  pub accepted_is : {k : Checked} → Refusing answer turned k accepted c → k ≡ pass → c ≡ accepted
  accepted_is s e = s.is ∙ ap (λ x. unless x turned accepted) e

  pub refused_is : {k : Checked} → Refusing answer turned k accepted c → (w : Refusal) → k ≡ Err w → c ≡ turned w
  refused_is s w e = s.is ∙ ap (λ x. unless x turned accepted) e

  -- and its answer
  pub refused_with : {k : Checked} → Refusing answer turned k accepted c → (w : Refusal) → k ≡ Err w → answer c ≡ Err w
  refused_with s w e = ap answer (refused_is s w e) ∙ s.turns w

  -- "accepted when it isn't refused": exactly when all checks pass
  pub accepted_when : {k : Checked} {P : Type 0} → Refusing answer turned k accepted c → (k ≡ pass) ↔ P → NotRefused (answer c) ↔ P
  accepted_when {k} s p = (λ h. p.0 (go k refl h), λ h w e. s.accepts w (sym (ap answer (accepted_is s (p.1 h))) ∙ e))
    where
      go : (x : Checked) → k ≡ x → NotRefused (answer c) → x ≡ pass
      go (Ok u) e h = refl
      go (Err w) e h = absurd (h w (refused_with s w e))

  -- "a refused call changes no lent element": it is what turned leaves
  pub unchanged : {k : Checked} → Refusing answer turned k accepted c → (w : Refusal) → answer c ≡ Err w → (v : Refusal) × (k ≡ Err v) × (c ≡ turned v)
  unchanged {k} s w e = go k refl
    where
      go : (x : Checked) → k ≡ x → (v : Refusal) × (k ≡ Err v) × (c ≡ turned v)
      go (Ok u) q = absurd (s.accepts w (sym (ap answer (accepted_is s q)) ∙ e))
      go (Err v) q = (v, q, refused_is s v q)

  -- what holds of a call that is refused, and of one that isn't
  pub call_cases : {k : Checked} → Refusing answer turned k accepted c → (P : C → Type 0) → ((w : Refusal) → k ≡ Err w → P (turned w)) → (k ≡ pass → P accepted) → P c
  call_cases {k} s P h j = go k refl
    where
      go : (x : Checked) → k ≡ x → P c
      go (Ok u) q = rw (accepted_is s q) (j q)
      go (Err v) q = rw (refused_is s v q) (h v q)

  -- A2: 5 is named by the checks; "for all other numbers it is 0"
  pub call_names : {k : Checked} {Where : ℕ → ℕ → Type 0} → Refusing answer turned k accepted c →
      (receipt_of : Result A Refusal → Receipt) → ((w : Refusal) → receipt_of (Err w) ≡ refused_receipt w) → NamedBy Where k → Names Where (receipt_of (answer accepted)) → Names Where (receipt_of (answer c))
  call_names {k} {Where} s receipt_of receipts named h = call_cases s (λ x. Names Where (receipt_of (answer x))) (λ v q. rw (s.turns v, receipts v) (refusal_names v (named.named v q))) (λ _. h)
