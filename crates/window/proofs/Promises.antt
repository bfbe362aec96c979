-- The user's demands, said of a call of the window by the number that it returns, and of the plan and the receipt after it.
-- A call of an acceptable strip is a call of Search on the table of its groups, with a trail of the window's own: so what Search promises holds here too.
-- All of it follows from the equation that `window` ensures.
use mathlib.Core.Path.{◌≡◌, refl, ap, sym, ◌∙◌}
use mathlib.Core.Logic.{◌⊎◌, inl, inr, ⊎_elim, ◌↔◌}
use mathlib.Core.List.{List, map}
use Prim.Native.Nat.{ℕ, ◌≤◌, ◌<◌, min}
use native.Mathlib.Decide.{dec_lt}
use native.Mathlib.Omega.{arith}
use borrow.Author.Tests.{le-ltb}
use lib.IntN.{ℤ, pos as posℤ}
use lib.ListN.{length, take, drop, replicate, length-replicate}
use Rattle.general.specs.Booleans.{bit}
use Rattle.literal.specs.Literal.{max_variables, max_table}
use Rattle.receipt.specs.declared.Fault.TheVariants.{PlanShort, ReceiptShort, TableShort, UnmentionedVariable}
use Rattle.receipt.specs.declared.Outcome.{Outcome}
use Rattle.receipt.specs.declared.Outcome.TheVariants.{LaidOut, NoLayout, Stopped}
use Rattle.std.specs.Prelude.{Result, Err, Ok}
use Rattle.receipt.specs.declared.Searched.{Searched}
use Rattle.receipt.specs.declared.Read.{Read}
use Rattle.receipt.specs.declared.Receipt.{Receipt}
use Rattle.receipt.specs.declared.Refusal.{Refusal}
use Rattle.receipt.specs.Receipt.{number_of, outcome_number, refusal, receipt, refused_receipt}
use Rattle.receipt.specs.Answers.{searching_receipt, reading}
use Rattle.receipt.proofs.Numbers.{not_refused, outcome_answers}
use Rattle.theory.specs.Bound.{N}
use Rattle.theory.specs.Calls.{over, SearchCall, search_refused, search_call, read_call, solve_call, receipt_length, receipt_bytes, WindowCall, written, window_call}
use Rattle.theory.specs.Encoding.{Item, groups, table_of, StripWithin, UnmentionedInStrip, Bytes}
use Rattle.theory.specs.Formula.{Choice, clauses, Solution}
use Rattle.theory.specs.Mentions.{AllStand}
use Rattle.theory.specs.Order.{◌≼◌, Least}
use Rattle.theory.specs.Search.{needs}
use Rattle.theory.specs.Strip.{Decoding, read_strip}
use Rattle.theory.specs.Unknown.{UnknownInStrip, Names}
use Rattle.theory.proofs.Encodings.{clauses_table}
use Rattle.theory.proofs.Mentions.{mentioned_exactly}
use Rattle.theory.proofs.Refusing.{passed_named}
use Rattle.theory.proofs.Tables.{accepted_sizes, accepted_exactly as table_accepted}
use Rattle.strip.proofs.Accepted.{read_accepted}
use Rattle.strip.proofs.Ends.{never_short}
use Rattle.strip.proofs.Encoded.{within_read}
use Rattle.strip.proofs.Faults.{refused_exactly}
use Rattle.strip.proofs.Promises.{read_accepts}
use Rattle.strip.specs.Faults.{RefusedStrip}
use Rattle.search.specs.Call as search
use Rattle.strip.proofs.Receipts.{strip_names, strip_unmentioned}
use Rattle.strip.proofs.Unmentioned.{unmentioned_exactly}
use Rattle.search.proofs.Calling.{call_plan_short}
use Rattle.search.proofs.Promises as promises
use Rattle.window.specs.Window.{called}
use Rattle.window.proofs.Calling.{call_short}
use Rattle.window.specs.Call.{Acceptable, Stamped, Call, Reports, refused_call, number_at, count_of, receipt_on, Alike}

-- a strip that is read ---------------------------------------------------------------------------------------------

strip_exactly : (s : List ℕ) → Bytes s → (n u : ℕ) (t : List ℤ) → length t ≡ max_table → (read_strip s max_table).reading ≡ reading n u → (l : List Item) × StripWithin s n l
unfolding read_call
strip_exactly s b n u t k e = let r = (read_accepts s t (read_call s t).answer (read_call s t).table refl b n u).0 (rw k e) in (r.0, r.1)

-- what is on the receipt -------------------------------------------------------------------------------------------

numbers_read : (r : Receipt) (old : List ℕ) → let new = over receipt_length (receipt_bytes r) old in
    (number_at 0 new ≡ r.number) × (number_at 4 new ≡ r.place) × (number_at 8 new ≡ r.count) × (number_at 12 new ≡ r.clause.0)
numbers_read r old = (omega arith, omega arith, omega arith, omega arith)

receipt_read : (r : Receipt) (old : List ℕ) → receipt_on (over receipt_length (receipt_bytes r) old) ≡ r
receipt_read r old = let n = numbers_read r old in rw (n.0, n.1, n.2, n.3)

-- solving, by how the strip reads ----------------------------------------------------------------------------------

module _ (s : List ℕ) (b : ℕ) (plan : List ℕ) (trail : List ℤ) where
  solve_refused : (f : Refusal) → (read_strip s max_table).reading ≡ Err f → solve_call s b plan trail ≡ search_refused f plan trail
  unfolding solve_call
  solve_refused f e = rw e

  solve_reads : (n u : ℕ) → (read_strip s max_table).reading ≡ reading n u → solve_call s b plan trail ≡ search_call n (read_strip s max_table).table b plan trail
  unfolding solve_call
  solve_reads n u e = rw e

outcome_low : (o : Outcome) → outcome_number o ≤ 11
outcome_low LaidOut = omega arith
outcome_low NoLayout = omega arith
outcome_low Stopped = omega arith

-- demand 1: a receipt too short --------------------------------------------------------------------------------------

-- "Window: 9" first; such a receipt is not written, and nothing else is
pub window_short_receipt : (s : List ℕ) (b : ℕ) (plan old : List ℕ) (w : WindowCall) → w ≡ window_call s b plan old → length old < receipt_length →
    w ≡ called (number_of ReceiptShort) plan old
window_short_receipt s b plan old w is h = is ∙ sym (call_short s b plan old h)

-- demand 1: a receipt long enough ------------------------------------------------------------------------------------

module _ {s : List ℕ} {b : ℕ} {plan old : List ℕ} {w : WindowCall} (h : Stamped s b plan old w) where
  abbrev own : List ℤ
  own = replicate max_variables (posℤ 0)

  stamped : w ≡ written (solve_call s b plan own) old
  unfolding window_call
  stamped = h.is ∙ rw (le-ltb (length old) receipt_length (omega (arith, h.receipt_room)))

  -- "The call itself returns the number": the one on the receipt
  pub window_number : number_at 0 w.receipt ≡ w.number
  window_number = rw stamped (numbers_read (searching_receipt (solve_call s b plan own).answer) old).0

  -- A2: 5 names the group of the strip that is open at its place; "for all other numbers it is 0"
  pub window_names : Bytes s → Names (UnknownInStrip s) (receipt_on w.receipt)
  window_names k = rw (stamped, receipt_read) (go (read_strip s max_table).reading refl)
    where
      go : (r : Result Read Refusal) → (read_strip s max_table).reading ≡ r → Names (UnknownInStrip s) (searching_receipt (solve_call s b plan own).answer)
      go (Err f) e = rw (solve_refused s b plan own f e) (rw e at (strip_names s k max_table))
      go (Ok d) e = rw (solve_reads s b plan own d.variables d.used e) (promises.search_names_by d.variables (read_strip s max_table).table b plan own _ refl (passed_named (read_accepted s max_table d.variables d.used e)))

  -- "Elements not named are never changed."
  pub window_receipt_rest : drop receipt_length w.receipt ≡ drop receipt_length old
  window_receipt_rest = rw stamped

  -- "Window: 9, strip refusals except 23": of a refused strip
  pub window_strip_refused : (f : Refusal) → (read_strip s max_table).reading ≡ Err f → w ≡ refused_call f plan old
  window_strip_refused f e = stamped ∙ ap (λ (c : SearchCall). written c old) (solve_refused s b plan own f e)

  module _ (n u : ℕ) (e : (read_strip s max_table).reading ≡ reading n u) where
    read : w ≡ written (search_call n (read_strip s max_table).table b plan own) old
    read = stamped ∙ ap (λ (c : SearchCall). written c old) (solve_reads s b plan own n u e)

    -- "then 6"
    pub window_plan_short : length plan < n → w ≡ refused_call (refusal PlanShort 0) plan old
    window_plan_short k = read ∙ ap (λ (c : SearchCall). written c old) (sym (call_plan_short n (read_strip s max_table).table b plan own (read_accepted s max_table n u e) k))

    searched : n ≤ length plan → search.Call n (read_strip s max_table).table b plan own (search_call n (read_strip s max_table).table b plan own)
    searched k =
        let a = accepted_sizes n (read_strip s max_table).table (read_accepted s max_table n u e) in
        record { acceptable = record { table = a; plan_room = k; trail_room = omega (arith, a.variables, length-replicate max_variables (posℤ 0)) }; is = refl }

  -- a strip that reads, with more placements than the plan has room for
  abbrev Overlong : Type 0
  Overlong = (n : ℕ) × (u : ℕ) × ((read_strip s max_table).reading ≡ reading n u) × (length plan < n)

  -- every call is refused, or searches what was read
  abbrev Turned : Type 0
  Turned = (f : Refusal) × (w ≡ refused_call f plan old) × (((read_strip s max_table).reading ≡ Err f) ⊎ ((f ≡ refusal PlanShort 0) × Overlong))

  abbrev Answered : Type 0
  Answered = (n : ℕ) × (u : ℕ) × ((read_strip s max_table).reading ≡ reading n u) × (n ≤ length plan) × ((o : Outcome) × Reports w o)

  fate : Turned ⊎ Answered
  fate = go (read_strip s max_table).reading refl
    where
      go : (r : Result Read Refusal) → (read_strip s max_table).reading ≡ r → Turned ⊎ Answered
      go (Err f) e = inl (f, window_strip_refused f e, inl e)
      go (Ok d) e = elim (dec_lt (length plan) d.variables) [
        | yes k ↦ inl (refusal PlanShort 0, window_plan_short d.variables d.used e k, inr (refl, (d.variables, d.used, e, k)))
        | no k ↦
            let l : d.variables ≤ length plan = omega arith in
            let q = ap (λ (c : WindowCall). c.number) (read d.variables d.used e) in
            let ends = promises.search_ends (searched d.variables d.used e l) in
            inr (d.variables, d.used, e, l, ⊎_elim (λ r. (LaidOut, q ∙ r)) (⊎_elim (λ r. (NoLayout, q ∙ r)) (λ r. (Stopped, q ∙ r))) ends)
      ]

  turned_unanswered : Turned → (o : Outcome) → ¬ Reports w o
  turned_unanswered r o e = not_refused r.0.fault (outcome_number o) (outcome_answers o) (sym (ap (λ (c : WindowCall). c.number) r.1) ∙ e)

  -- demand 1: "a refused call changes no lent element except a receipt long enough to be written"
  pub window_refused_unchanged : ((o : Outcome) → ¬ Reports w o) → (f : Refusal) × (w ≡ refused_call f plan old)
  window_refused_unchanged k = ⊎_elim (λ r. (r.0, r.1)) (λ a. absurd (k a.4.0 a.4.1)) fate

  -- "Window: 9, strip refusals except 23, then 6": a refused call has what the strip is refused with, or, of one that reads, 6
  pub window_refused : ((o : Outcome) → ¬ Reports w o) → (f : Refusal) × (w ≡ refused_call f plan old) × (RefusedStrip s max_table f ⊎ ((f ≡ refusal PlanShort 0) × Overlong))
  window_refused k = ⊎_elim
      (λ r. (r.0, r.1, ⊎_elim (λ q. inl ((refused_exactly s max_table r.0).0 q)) (λ q. inr q) r.2))
      (λ a. absurd (k a.4.0 a.4.1))
      fate

  -- a number above 11 is that of a refusal of the strip
  of_strip : 11 < w.number → (f : Refusal) × (w ≡ refused_call f plan old) × ((read_strip s max_table).reading ≡ Err f)
  of_strip k = ⊎_elim
      (λ r. ⊎_elim
      (λ q. (r.0, r.1, q))
      (λ q. absurd (omega (arith, ap (λ (c : WindowCall). c.number) r.1, ap (λ (f : Refusal). number_of f.fault) q.0)))
      r.2)
      (λ a. absurd (omega (arith, a.4.1, outcome_low a.4.0)))
      fate

  not_short : ¬ (w.number ≡ number_of TableShort)
  not_short e = let r = of_strip (omega arith) in never_short s max_table r.0 (omega arith) r.2 (sym (ap (λ (c : WindowCall). c.number) r.1) ∙ e)

  -- A3: 26 is for a strip that doesn't name every placement before the end mark at the place
  pub window_unmentioned : Bytes s → w.number ≡ 26 → UnmentionedInStrip s max_table (receipt_on w.receipt).place
  window_unmentioned b e =
      let r = of_strip (omega arith) in
      let place : (receipt_on w.receipt).place ≡ r.0.place =
      ap (λ (c : WindowCall). (receipt_on c.receipt).place) r.1 ∙ (numbers_read (refused_receipt r.0) old).1 in
      let told = rw r.2 at (strip_unmentioned s b max_table) in
      rw place (told (sym (ap (λ (c : WindowCall). c.number) r.1) ∙ e))

  -- and for every such strip, before 6
  pub window_unmentioned_refused : Bytes s → (i : ℕ) → UnmentionedInStrip s max_table i → w ≡ refused_call (refusal UnmentionedVariable i) plan old
  window_unmentioned_refused b i u = window_strip_refused (refusal UnmentionedVariable i) ((unmentioned_exactly s b max_table i).1 u)

-- "strip refusals except 23": no call is answered with it
pub window_never_short : (s : List ℕ) (b : ℕ) (plan old : List ℕ) (w : WindowCall) → w ≡ window_call s b plan old → ¬ (w.number ≡ number_of TableShort)
window_never_short s b plan old w is e = elim (dec_lt (length old) receipt_length) [
  | yes k ↦ let z : number_of ReceiptShort ≡ number_of TableShort = sym (ap (λ (c : WindowCall). c.number) (window_short_receipt s b plan old w is k)) ∙ e in omega arith
  | no k ↦ not_short (record { receipt_room = omega arith; is = is }) e
]

-- acceptable strips --------------------------------------------------------------------------------------------------

module _ {s : List ℕ} {n : ℕ} {l : List Item} {b : ℕ} {plan old : List ℕ} {w : WindowCall} (h : Call s n l b plan old w) where
  abbrev table : List ℤ
  table = table_of (groups l)

  abbrev trail : List ℤ
  trail = replicate max_variables (posℤ 0)

  is_read : read_strip s max_table ≡ record { reading = reading n (length table); table = table }
  is_read = within_read h.bytes h.acceptable.strip

  reads : (read_strip s max_table).reading ≡ reading n (length table)
  reads = ap (λ (d : Decoding). d.reading) is_read

  abbrev found : SearchCall
  found = search_call n table b plan trail

  -- the window's answer is that of a call of Search on the table of the strip's groups
  pub window_searches : search.Call n table b plan trail found × (w ≡ written found old)
  window_searches =
      let q = ap (λ (d : Decoding). d.table) is_read in
      let k = reads in
      (rw q at (searched h.stamped n (length table) k h.acceptable.plan_room), rw q at (read h.stamped n (length table) k))

  call : search.Call n table b plan trail found
  call = window_searches.0

  plan_is : w.plan ≡ found.plan
  plan_is = ap (λ (c : WindowCall). c.plan) window_searches.1

  count_is : count_of w ≡ search.count_of found
  count_is = rw window_searches.1 (numbers_read (searching_receipt found.answer) old).2

  reports : {k : ℕ} → w.number ≡ k → (searching_receipt found.answer).number ≡ k
  reports e = sym (ap (λ (c : WindowCall). c.number) window_searches.1) ∙ e

  reported : {k : ℕ} → (searching_receipt found.answer).number ≡ k → w.number ≡ k
  reported e = ap (λ (c : WindowCall). c.number) window_searches.1 ∙ e

  is_formula : clauses table ≡ groups l
  is_formula = clauses_table (groups l) h.acceptable.strip.limits.known.low

  all_stand : AllStand n (groups l)
  all_stand = rw is_formula at ((mentioned_exactly n table ((table_accepted n table).1 call.acceptable.table)).0 h.acceptable.strip.mentioned)

  -- 0 laid out, 10 no layout or 11 stopped on the receipt, with the count; place and group 0
  pub window_answers : (o : Outcome) × (k : ℕ) × (receipt_on w.receipt ≡ receipt (outcome_number o) 0 k)
  window_answers =
      let a = promises.search_answers n table b plan trail found refl ((promises.search_accepts n table b plan trail found refl).1 call.acceptable) in
      let q : receipt_on w.receipt ≡ searching_receipt found.answer = rw window_searches.1 (receipt_read (searching_receipt found.answer) old) in
      (a.0, a.1, q ∙ a.2)

  -- demand 1: "a search brings back a layout, no layout, or a stop"
  pub window_ends : Reports w LaidOut ⊎ Reports w NoLayout ⊎ Reports w Stopped
  window_ends = ⊎_elim (λ e. inl (reported e)) (⊎_elim (λ e. inr (inl (reported e))) (λ e. inr (inr (reported e)))) (promises.search_ends call)

  -- demand 2: "it is the first such choice, counting from placement 1 with left out before taken"
  pub window_first_layout : Reports w LaidOut → (f : Choice) × Least ◌≼◌ (Solution n (groups l)) f × (take n w.plan ≡ map bit f)
  window_first_layout e = rw plan_is (rw is_formula at (promises.search_first_layout call (reports e)))

  -- demand 2: "When no choice does so it reports no layout, and at no other time"
  pub window_no_layout_exactly : ¬ Reports w Stopped → Reports w NoLayout ↔ ((f : Choice) → ¬ Solution n (groups l) f)
  window_no_layout_exactly k =
      let p = rw is_formula at (promises.search_no_layout_exactly call (λ e. k (reported e))) in
      (λ e. p.0 (reports e), λ g. reported (p.1 g))

  -- demand 2: "reports a layout when some choice of placements makes exactly one entry true in every group of the whole filing"
  pub window_layout_when_some : ¬ Reports w Stopped → (f : Choice) → Solution n (groups l) f → Reports w LaidOut
  window_layout_when_some k f g = reported (promises.search_layout_when_some call (λ e. k (reported e)) f (rw is_formula g))

  -- demand 3: "an accepted search stops exactly when the tree of document 01 needs more splits than allowed"
  pub window_stops_exactly : Reports w Stopped ↔ (b < needs n table)
  window_stops_exactly = let p = promises.search_stops_exactly call in (λ e. p.0 (reports e), λ k. reported (p.1 k))

  -- demand 3: "its count is the smaller of what that tree needs and the allowance"
  pub window_count : count_of w ≡ min (needs n table) b
  window_count = count_is ∙ promises.search_count_smaller call

  -- "A stop's count is the allowance."
  pub window_stop_count : Reports w Stopped → count_of w ≡ b
  window_stop_count e = count_is ∙ promises.search_stop_count call (reports e)

  -- demand 3: "For n placements the tree never needs more than the bound N(n)"
  pub window_count_bound : count_of w ≤ N n
  window_count_bound = rw count_is (promises.search_count_bound call)

  -- "An allowance of N(n), where 32 bits hold it, always finishes."
  pub window_bound_finishes : N n ≤ b → ¬ Reports w Stopped
  window_bound_finishes k e = promises.search_bound_finishes call k (reports e)

  -- "No layout or stopped: the first n of both become 0."
  pub window_others_zero : ¬ Reports w LaidOut → take n w.plan ≡ replicate n 0
  window_others_zero k = rw plan_is (promises.search_others_zero call (λ e. k (reported e))).0

  -- demand 3: "the rest of both lists stays as it was"
  pub window_rest_kept : drop n w.plan ≡ drop n plan
  window_rest_kept = rw plan_is (promises.search_rest_kept call).0

-- demand 1: "Every table and strip within the limits of document 01, with room lent for the results, is accepted"; "Every other input is refused"
pub window_accepts : {s : List ℕ} {b : ℕ} {plan old : List ℕ} {w : WindowCall} → Stamped s b plan old w → Bytes s →
    ((o : Outcome) × Reports w o) ↔ ((n : ℕ) × (l : List Item) × Acceptable s n l plan)
window_accepts {s} h bytes = (
  λ r. ⊎_elim
      (λ t. absurd (turned_unanswered h t r.0 r.1))
      (λ a.
      let l = strip_exactly s bytes a.0 a.1 (replicate max_table (posℤ 0)) (length-replicate max_table (posℤ 0)) a.2 in
      (a.0, l.0, record { strip = l.1; plan_room = a.3 }))
      (fate h),
  λ a. ⊎_elim (λ e. (LaidOut, e)) (⊎_elim (λ e. (NoLayout, e)) (λ e. (Stopped, e))) (window_ends (record { bytes = bytes; acceptable = a.2; stamped = h })),
)

-- A3: no placement is left out for want of a rule: what is searched is a strip's groups, and each placement stands in one of them
pub window_mentions_all : {s : List ℕ} {b : ℕ} {plan old : List ℕ} {w : WindowCall} → Stamped s b plan old w → Bytes s → (o : Outcome) → Reports w o →
    (n : ℕ) × (l : List Item) × Acceptable s n l plan × AllStand n (groups l)
window_mentions_all h bytes o r =
    let a = (window_accepts h bytes).0 (o, r) in
    (a.0, a.1, a.2, all_stand (record { bytes = bytes; acceptable = a.2; stamped = h }))

-- demand 3: "whatever the plan and the trail held before", and whatever the strip's chapters: its groups are the filing ------------------------------

module _ {s s' : List ℕ} {n : ℕ} {l l' : List Item} {b b' : ℕ} {plan plan' old old' : List ℕ} {w w' : WindowCall}
    (c : Call s n l b plan old w) (d : Call s' n l' b' plan' old' w') (same : groups l' ≡ groups l) where
  alike : search.Alike n (found c) (found d) → Alike n w w'
  alike a = record {
    number = reported d (ap (λ (u : Result Searched Refusal). (searching_receipt u).number) a.answer ∙ reports c refl);
    count = count_is d ∙ ap (λ (u : Result Searched Refusal). (searching_receipt u).count) a.answer ∙ sym (count_is c);
    plan = ap (take n) (plan_is d) ∙ a.plan ∙ sym (ap (take n) (plan_is c));
  }

  -- "A search that finishes does so at every larger allowance too"
  pub window_alike : b ≤ b' → ¬ Reports w Stopped → Alike n w w'
  window_alike k f = alike (rw same (promises.search_larger_alike (call c) (rw same at (call d)) k (λ e. f (reported c e))))

  -- "all finished searches of one filing are alike in the outcome, the count, the first n of the plan"
  pub window_finished_alike : ¬ Reports w Stopped → ¬ Reports w' Stopped → Alike n w w'
  window_finished_alike f g =
      alike (rw same (promises.search_finished_alike (call c) (rw same at (call d)) (λ e. f (reported c e)) (λ e. g (reported d (rw same e)))))
