-- What a call of Settle promises, by its number on the receipt and both lists after it. All of it follows from the equation that `settle` ensures.
use mathlib.Core.Path.{◌≡◌, refl, ap, sym, ◌∙◌}
use mathlib.Core.Logic.{◌⊎◌, inl, inr, ◌↔◌, ◌≢◌}
use mathlib.Core.List.{List, [], ◌∷◌}
use Prim.Native.Nat.{ℕ, suc, ◌<◌, ◌≤◌}
use native.Mathlib.Omega.{arith}
use borrow.Author.Tests.{lt-ltb, le-ltb}
use lib.IntN.{ℤ, pos as posℤ}
use lib.ListN.{length, get_or, take, drop, replicate, length-replicate}
use lib.Seq.{take_at, drop_at}
use Rattle.general.specs.Lists.{up_to, length_from}
use Rattle.literal.specs.declared.Literal.TheVariants.{Pos}
use Rattle.receipt.specs.Receipt.{Checked, refusal, receipt, pass}
use Rattle.receipt.specs.Answers.{settling_receipt}
use Rattle.receipt.specs.declared.Fault.TheVariants.{StateShort, ReasonsShort}
use Rattle.std.specs.Prelude.{Result, Ok, Err}
use Rattle.receipt.specs.declared.Settling.{Settling}
use Rattle.receipt.specs.declared.Settling.TheVariants as settling
use Rattle.receipt.specs.declared.Refusal.{Refusal}
use Rattle.receipt.proofs.Numbers.{not_refused}
use Rattle.theory.specs.Calls.{over, state_entry, settling_of, state_list, reason_list, SettleCall, settled_call, settle_refused, settle_call}
use Rattle.theory.specs.Formula.{Choice, clauses, Solution, Within}
use Rattle.theory.specs.Propagation.{settle}
use Rattle.theory.specs.Propagation as plain
use Rattle.theory.specs.Reasons.{Explained, unexplained, Explanation, dead, rest, propagate_by, explain, forget, SettledBy}
use Rattle.theory.specs.Refusing.{at_most, first_refusal, NotRefused, RefusedFirst}
use Rattle.theory.specs.SettledList.{state_in, Remains}
use Rattle.theory.specs.State.{initial}
use Rattle.theory.specs.Table.{zeros, Accepted, check, WithinLimits}
use Rattle.theory.specs.Unknown.{UnknownInTable, Names}
use Rattle.theory.proofs.Heads.{clauses_zeros}
use Rattle.theory.proofs.Forgetting.{settle_forgets}
use Rattle.theory.proofs.Reasons.{initial_accounted, reason_open, reason_named, reason_kept}
use Rattle.theory.proofs.Refusing.{not_passed, most_passes, both_pass, last_passes, table_named, passed_named, first_named, most_named, first_refuses, Refusing, accepted_is, refused_with, accepted_when, unchanged, call_cases, call_names}
use Rattle.theory.proofs.SettledList.{entry_open, written_at, list_read, dead_end_none, settled_well, settled_remains}
use Rattle.theory.proofs.Tables.{accepted_exactly, accepted_within}
use Rattle.theory.proofs.Unknown.{none_named}
use Rattle.settle.specs.Settle.{called}

abbrev pub number_of : Result Settling Refusal → ℕ
number_of r = (settling_receipt r).number

-- a call of Settle: its answer r, and both lists before and after it
pub record Call (n : ℕ) (t l : List ℤ) (m : List ℕ) (r : Result Settling Refusal) (l' : List ℤ) (m' : List ℕ) : Type 0 where
  pub is : called r l' m' ≡ settle_call n t l m

-- "within the limits of document 01, with room lent for the results"
pub record Acceptable (n : ℕ) (t l : List ℤ) (m : List ℕ) : Type 0 where
  pub table : WithinLimits n t
  pub list_room : n ≤ length l
  pub reasons_room : n ≤ length m

-- where settling of the table ends, with its reasons
abbrev pub explanation_of : ℕ → List ℤ → Explanation
explanation_of n t = explain n (clauses t) (unexplained initial)

-- the three ways in which a call ends
data Way (n : ℕ) (t l : List ℤ) (m : List ℕ) : Result Settling Refusal → List ℤ → List ℕ → Type 0 where
  refused : (w : Refusal) → ¬ Acceptable n t l m → Way n t l m (Err w) l m
  dead_end : Acceptable n t l m → explanation_of n t ≡ dead → Way n t l m (Ok settling.NoLayout) (over n (replicate n (posℤ 0)) l) (over n (replicate n 0) m)
  settled : Acceptable n t l m → (u : Explained) → explanation_of n t ≡ rest u →
      Way n t l m (Ok settling.Settled) (over n (up_to (λ p. state_entry (u.state p)) n) l) (over n (up_to u.reasons n) m)

abbrev By : ℕ → List ℤ → List ℤ → List ℕ → SettleCall → Type 0
By n t l m s = Way n t l m s.answer s.list s.reasons

-- settling as it was
forgotten : (n : ℕ) (t : List ℤ) {o : Explanation} → explanation_of n t ≡ o → settle n (clauses t) initial ≡ forget o
forgotten n t e = sym (settle_forgets n (clauses t) (unexplained initial)) ∙ ap forget e

-- a call by its checks: "Tables: 1, 2, 3, 4, 5, then .. 14 (settle)"; "19, reason list short, after 14"
abbrev checks : ℕ → List ℤ → List ℤ → List ℕ → List Checked
checks n t l m = check n t ∷ at_most n (length l) StateShort ∷ at_most n (length m) ReasonsShort ∷ []

checked : (n : ℕ) (t l : List ℤ) (m : List ℕ) → (first_refusal (checks n t l m) ≡ pass) ↔ Acceptable n t l m
checked n t l m =
    let k = both_pass (accepted_exactly n t) (both_pass (most_passes n (length l) StateShort) (last_passes (most_passes n (length m) ReasonsShort))) in (
      λ e. let h = k.0 e in record { table = h.0; list_room = h.1.0; reasons_room = h.1.1 },
      λ a. k.1 (a.table, (a.list_room, a.reasons_room)),
    )

-- Settle's own answers refuse nothing
pub settling_answers : (o : plain.Settled) → NotRefused (settling_of o)
settling_answers plain.dead w e = let z : ◌≡◌ {A = ℕ} 0 1 = cc in omega arith
settling_answers (plain.rest s) w e = let z : ◌≡◌ {A = ℕ} 0 1 = cc in omega arith

pub settling_names : {Where : ℕ → ℕ → Type 0} (o : plain.Settled) → Names Where (settling_receipt (settling_of o))
settling_names plain.dead = none_named 10 0 0 (λ e. omega arith)
settling_names (plain.rest u) = none_named 13 0 0 (λ e. omega arith)

by_checks : {n : ℕ} {t l : List ℤ} {m : List ℕ} {r : Result Settling Refusal} {l' : List ℤ} {m' : List ℕ} → Call n t l m r l' m' →
    Refusing (λ (s : SettleCall). s.answer) (λ w. settle_refused w l m) (first_refusal (checks n t l m)) (settled_call n (clauses t) l m) (called r l' m')
unfolding settle_call
by_checks {n} {t} c = record { is = c.is; turns = λ w. refl; accepts = settling_answers (settle n (clauses t) initial) }

way : {n : ℕ} {t l : List ℤ} {m : List ℕ} {r : Result Settling Refusal} {l' : List ℤ} {m' : List ℕ} → Call n t l m r l' m' → Way n t l m r l' m'
way {n} {t} {l} {m} c =
    call_cases (by_checks c) (By n t l m) (λ w e. refused w (λ h. not_passed (sym e ∙ (checked n t l m).1 h))) (λ e. ended ((checked n t l m).0 e) (explanation_of n t) refl)
  where
    ended : Acceptable n t l m → (o : Explanation) → explanation_of n t ≡ o → By n t l m (settled_call n (clauses t) l m)
    ended a dead e = rw (e, forgotten n t e) (dead_end a e)
    ended a (rest u) e = rw (e, forgotten n t e) (settled a u e)

within_of : {n : ℕ} {t : List ℤ} → WithinLimits n t → Within n (clauses t)
within_of {n} {t} w = accepted_within n t ((accepted_exactly n t).1 w)

-- a list whose first n elements are written has the rest that it had
rest_of : {A : Type 0} (n : ℕ) (new old : List A) → length new ≡ n → drop n (over n new old) ≡ drop n old
rest_of n new old e = drop_at new (drop n old) n e

-- and those elements
first_of : {A : Type 0} (n : ℕ) (old : List A) (a : A) → take n (over n (replicate n a) old) ≡ replicate n a
first_of n old a = take_at (replicate n a) (drop n old) n (length-replicate n a)

-- where a call settles: the state in which settling ends, with its reasons, and what both lists have of each placement
record End (n : ℕ) (t l' : List ℤ) (m' : List ℕ) : Type 0 where
  limits : WithinLimits n t
  state : Explained
  is : explanation_of n t ≡ rest state
  entry : (i : ℕ) → i < n → get_or l' i (posℤ 0) ≡ state_entry (state.state (suc i))
  reason : (i : ℕ) → i < n → get_or m' i 0 ≡ state.reasons (suc i)

end : {n : ℕ} {t l : List ℤ} {m : List ℕ} {r : Result Settling Refusal} {l' : List ℤ} {m' : List ℕ} → Way n t l m r l' m' → number_of r ≡ 13 → End n t l' m'
end (refused w h) q = absurd (not_refused w.fault 13 refl q)
end (dead_end a e) q = absurd (omega arith)
end {n} {t} {l} {m} (settled a u e) q = record {
  limits = a.table;
  state = u;
  is = e;
  entry = λ i h. written_at (λ p. state_entry (u.state p)) n l i (posℤ 0) h;
  reason = λ i h. written_at u.reasons n m i 0 h;
}

module _ {n : ℕ} {t l : List ℤ} {m : List ℕ} {r : Result Settling Refusal} {l' : List ℤ} {m' : List ℕ} (c : Call n t l m r l' m') where
  -- demand 1: "Every table .. within the limits of document 01, with room lent for the results, is accepted"; "Every other input is refused"
  pub settle_accepts : NotRefused r ↔ Acceptable n t l m
  settle_accepts = accepted_when (by_checks c) (checked n t l m)

  -- 13 settled, 10 no layout; "Place and count are 0 where nothing else is said."
  pub settle_answers : NotRefused r → (settling_receipt r ≡ receipt 13 0 0) ⊎ (settling_receipt r ≡ receipt 10 0 0)
  settle_answers = go (way c)
    where
      go : {r : Result Settling Refusal} {l' : List ℤ} {m' : List ℕ} → Way n t l m r l' m' → NotRefused r → (settling_receipt r ≡ receipt 13 0 0) ⊎ (settling_receipt r ≡ receipt 10 0 0)
      go (refused w h) k = absurd (k w refl)
      go (dead_end a e) k = inr refl
      go (settled a u e) k = inl refl

  -- demand 1: "a refused call changes no lent element"
  pub settle_refused_unchanged : (w : Refusal) → r ≡ Err w → (l' ≡ l) × (m' ≡ m)
  settle_refused_unchanged w e = let q = (unchanged (by_checks c) w e).2 in (ap (λ (s : SettleCall). s.list) q, ap (λ (s : SettleCall). s.reasons) q)

  -- A2: 5 is for the first unknown placement, with its group; "for all other numbers it is 0"
  pub settle_names : Names (UnknownInTable n t) (settling_receipt r)
  settle_names = call_names (by_checks c) settling_receipt (λ w. refl)
      (first_named _ _ (table_named n t) (λ _. first_named _ _ (most_named n (length l) StateShort (λ e. omega arith)) (λ _. first_named _ _ (most_named n (length m) ReasonsShort (λ e. omega arith)) (λ _. passed_named refl))))
      (settling_names (settle n (clauses t) initial))

  -- refused exactly with the first check that refuses
  pub settle_refused_lem : (w : Refusal) → (r ≡ Err w) ↔ RefusedFirst (checks n t l m) w
  settle_refused_lem w = (λ e. let o = unchanged (by_checks c) w e in let q : o.0 ≡ w = cc (ap (λ (x : SettleCall). x.answer) o.2) in (first_refuses (checks n t l m) w).0 (rw q at o.1), λ f. refused_with (by_checks c) w ((first_refuses (checks n t l m) w).1 f))

  -- "Tables: 1, 2, 3, 4, 5, then .. 14 (settle)"
  pub settle_table_refused : (w : Refusal) → check n t ≡ Err w → r ≡ Err w
  settle_table_refused w e = refused_with (by_checks c) w (rw e)

  pub settle_state_short : WithinLimits n t → length l < n → r ≡ Err (refusal StateShort 0)
  settle_state_short w h = let a : Accepted n t = (accepted_exactly n t).1 w in refused_with (by_checks c) (refusal StateShort 0) (rw (a, lt-ltb (length l) n h))

  -- A5: "Turned away: 19, reason list short, after 14"
  pub settle_reasons_short : WithinLimits n t → n ≤ length l → length m < n → r ≡ Err (refusal ReasonsShort 0)
  settle_reasons_short w h k =
      let a : Accepted n t = (accepted_exactly n t).1 w in
      refused_with (by_checks c) (refusal ReasonsShort 0) (rw (a, le-ltb (length l) n h, lt-ltb (length m) n k))

  -- "Elements not named are never changed."
  pub settle_rest_kept : (drop n l' ≡ drop n l) × (drop n m' ≡ drop n m)
  settle_rest_kept = go (way c)
    where
      go : {r : Result Settling Refusal} {l' : List ℤ} {m' : List ℕ} → Way n t l m r l' m' → (drop n l' ≡ drop n l) × (drop n m' ≡ drop n m)
      go (refused w h) = (refl, refl)
      go (dead_end a e) = (rest_of n (replicate n (posℤ 0)) l (length-replicate n (posℤ 0)), rest_of n (replicate n 0) m (length-replicate {A = ℕ} n 0))
      go (settled a u e) = (rest_of n (up_to (λ p. state_entry (u.state p)) n) l (length_from (λ p. state_entry (u.state p)) 1 n), rest_of n (up_to u.reasons n) m (length_from u.reasons 1 n))

  -- "On a dead end they become 0."; A5: "all 0 on a dead end"
  pub settle_dead_end_zeros : number_of r ≡ 10 → (take n l' ≡ replicate n (posℤ 0)) × (take n m' ≡ replicate n 0)
  settle_dead_end_zeros = go (way c)
    where
      go : {r : Result Settling Refusal} {l' : List ℤ} {m' : List ℕ} → Way n t l m r l' m' → number_of r ≡ 10 → (take n l' ≡ replicate n (posℤ 0)) × (take n m' ≡ replicate n 0)
      go (refused w h) q = absurd (not_refused w.fault 10 refl q)
      go (dead_end a e) q = (first_of n l (posℤ 0), first_of n m 0)
      go (settled a u e) q = absurd (omega arith)

  -- 10: there is no layout
  pub settle_dead_end_no_layout : number_of r ≡ 10 → (f : Choice) → ¬ Solution n (clauses t) f
  settle_dead_end_no_layout = go (way c)
    where
      go : {r : Result Settling Refusal} {l' : List ℤ} {m' : List ℕ} → Way n t l m r l' m' → number_of r ≡ 10 → (f : Choice) → ¬ Solution n (clauses t) f
      go (refused w h) q = absurd (not_refused w.fault 10 refl q)
      go (dead_end a e) q = dead_end_none (within_of a.table) (forgotten n t e)
      go (settled a u e) q = absurd (omega arith)

  -- 13: a choice is a layout exactly when it agrees with the list and meets the groups as they stand by it: "Simplifying never gains or loses a choice."
  pub settle_settled_exactly : number_of r ≡ 13 → (f : Choice) → Solution n (clauses t) f ↔ Remains n (clauses t) (state_in n l') f
  settle_settled_exactly = go (way c)
    where
      go : {r : Result Settling Refusal} {l' : List ℤ} {m' : List ℕ} → Way n t l m r l' m' → number_of r ≡ 13 → (f : Choice) → Solution n (clauses t) f ↔ Remains n (clauses t) (state_in n l') f
      go (refused w h) q = absurd (not_refused w.fault 13 refl q)
      go (dead_end a e) q = absurd (omega arith)
      go (settled a u e) q =
          let w = within_of a.table in
          rw (list_read a.table.variables (settled_well w u.state (forgotten n t e)) l) (settled_remains w u.state (forgotten n t e))

  -- A5, which rule settled it ---------------------------------------------------------------------------------------

  settles : NotRefused r → called r l' m' ≡ settled_call n (clauses t) l m
  settles k = accepted_is (by_checks c) ((checked n t l m).1 (settle_accepts.0 k))

  -- without the reasons it is settling as it was: the same number, and the same list
  pub settle_as_before : NotRefused r → (r ≡ settling_of (settle n (clauses t) initial)) × (l' ≡ over n (state_list n (settle n (clauses t) initial)) l)
  settle_as_before k = (ap (λ (s : SettleCall). s.answer) (settles k), ap (λ (s : SettleCall). s.list) (settles k))

  -- what the reasons are: those of settling's own steps
  pub settle_reasons : NotRefused r → m' ≡ over n (reason_list n (explanation_of n t)) m
  settle_reasons k = ap (λ (s : SettleCall). s.reasons) (settles k)

  module _ (done : number_of r ≡ 13) where
    abbrev e : End n t l' m'
    e = end (way c) done

    within : Within n (clauses t)
    within = within_of e.limits

    module _ (i : ℕ) (h : i < n) where
      opened : (state_entry (e.state.state (suc i)) ≡ posℤ (suc i)) ↔ (e.state.state (suc i) ≡ Pos (suc i))
      opened =
          let low = (settled_well within e.state.state (forgotten n t e.is)).low (suc i) in
          let few = e.limits.variables in
          entry_open (e.state.state (suc i)) i (omega arith) (omega arith)

      -- "it is 0 while open", and nowhere else: Settle has no splits
      pub settle_reason_open : (get_or m' i 0 ≡ 0) ↔ (get_or l' i (posℤ 0) ≡ posℤ (suc i))
      settle_reason_open =
          let z = reason_open within (suc n) e.state e.is (suc i) in (
            λ q. e.entry i h ∙ opened.1 (z.0 (sym (e.reason i h) ∙ q)),
            λ q. e.reason i h ∙ z.1 (opened.0 (sym (e.entry i h) ∙ q)),
          )

      -- else it is "the number of the group that settled or tied it, for rules 7 and 8 the later of the two", and that group holds the placement, or one tied to it
      pub settle_reason_named : get_or l' i (posℤ 0) ≢ posℤ (suc i) → SettledBy (clauses t) (suc i) (get_or m' i 0)
      settle_reason_named k =
          rw (e.reason i h) (reason_named within (suc n) e.state e.is (suc i) (λ q. k (e.entry i h ∙ opened.1 q)))

      -- between 1 and the number of groups
      pub settle_reason_between : get_or l' i (posℤ 0) ≢ posℤ (suc i) → (1 ≤ get_or m' i 0) × (get_or m' i 0 ≤ zeros t)
      settle_reason_between k =
          let g = (settle_reason_named k).holder in
          (g.from_one, omega (arith, g.is_clause, clauses_zeros t))

      -- a reason once given stays, whatever is settled or tied later
      pub settle_reason_stays : (k : ℕ) (u : Explained) → propagate_by k (clauses t) (unexplained initial) ≡ rest u → u.reasons (suc i) ≢ 0 → get_or m' i 0 ≡ u.reasons (suc i)
      settle_reason_stays k u q z = e.reason i h ∙ reason_kept within k (unexplained initial) u e.state (initial_accounted n) q e.is (suc i) z
