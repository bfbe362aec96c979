-- The user's demands, said of a call's own answer, by its number and count on the receipt, and of the lists after it.
-- All of it follows from the equation that `search` ensures.
use mathlib.Core.Path.{◌≡◌, refl, ap, sym, ◌∙◌}
use mathlib.Core.Logic.{◌⊎◌, inl, inr, ⊎_elim, ◌↔◌}
use mathlib.Core.List.{List, [], ◌∷◌, ◌++◌, map}
use Prim.Native.Nat.{ℕ, ◌-◌, ◌≤◌, ◌<◌, min}
use native.Mathlib.Decide.{dec_le}
use native.Mathlib.Omega.{arith}
use borrow.Author.Tests.{lt-ltb, le-ltb}
use lib.IntN.{ℤ, pos as posℤ}
use lib.ListN.{length, take, drop, replicate}
use lib.Seq.{take_at, drop_at}
use Rattle.general.specs.Booleans.{bit}
use Rattle.literal.specs.Literal.{entry_of}
use Rattle.std.specs.Prelude.{Err}
use Rattle.receipt.specs.declared.Fault.TheVariants.{PlanShort, TrailShort}
use Rattle.receipt.specs.declared.Outcome.{Outcome}
use Rattle.receipt.specs.declared.Outcome.TheVariants.{LaidOut, NoLayout, Stopped}
use Rattle.receipt.specs.declared.Refusal.{Refusal}
use Rattle.receipt.specs.Receipt.{Checked, pass, outcome_number, refusal, receipt}
use Rattle.receipt.specs.Answers.{searching_receipt}
use Rattle.receipt.proofs.Numbers.{same_outcome}
use Rattle.theory.specs.Bound.{N}
use Rattle.theory.specs.Calls.{SearchCall, searched_call, search_refused, search_call}
use Rattle.theory.specs.Formula.{Choice, clauses, Solution}
use Rattle.theory.specs.Order.{◌≼◌, Least}
use Rattle.theory.specs.Reasons.{search_by}
use Rattle.theory.specs.Refusing.{at_most, first_refusal, NotRefused, RefusedFirst}
use Rattle.theory.specs.Search.{tree_of, needs, search, plan_of, trail_of}
use Rattle.theory.specs.Table.{check, Accepted, WithinLimits}
use Rattle.theory.specs.Tree.{Found, Limited}
use Rattle.theory.specs.Unknown.{UnknownInTable, Names}
use Rattle.theory.proofs.Budget.{limited_empty}
use Rattle.theory.proofs.Demands as demands
use Rattle.theory.proofs.Paths.{plan_long, trail_long}
use Rattle.theory.proofs.Forgetting.{search_forgets}
use Rattle.theory.proofs.Refusing.{most_passes, both_pass, last_passes, NamedBy, table_named, passed_named, first_named, most_named, outcome_names, first_refuses, Refusing, accepted_is, refused_with, accepted_when, unchanged, call_names}
use Rattle.theory.proofs.Tables.{accepted_exactly}
use Rattle.search.specs.Call.{Acceptable, Call, Reports, count_of, Alike}

-- what is accepted -------------------------------------------------------------------------------------------------

-- a call by its checks: "Tables: 1, 2, 3, 4, 5, then 6, 7 (search)"
module _ (n : ℕ) (t : List ℤ) (b : ℕ) (plan : List ℕ) (trail : List ℤ) (s : SearchCall) (is : s ≡ search_call n t b plan trail) where
  abbrev checks : List Checked
  checks = check n t ∷ at_most n (length plan) PlanShort ∷ at_most n (length trail) TrailShort ∷ []

  by_checks : Refusing (λ (u : SearchCall). u.answer) (λ w. search_refused w plan trail) (first_refusal checks) (searched_call n (search n t b) plan trail) s
  unfolding search_call
  by_checks = record { is = is; turns = λ w. refl; accepts = λ w e. let z : ◌≡◌ {A = ℕ} 0 1 = cc in omega arith }

  checked : (first_refusal checks ≡ pass) ↔ Acceptable n t plan trail
  checked =
      let k = both_pass (accepted_exactly n t) (both_pass (most_passes n (length plan) PlanShort) (last_passes (most_passes n (length trail) TrailShort))) in (
        λ e. let h = k.0 e in record { table = h.0; plan_room = h.1.0; trail_room = h.1.1 },
        λ a. k.1 (a.table, (a.plan_room, a.trail_room)),
      )

  -- an acceptable call is a search of the table
  searched : Acceptable n t plan trail → s ≡ searched_call n (search n t b) plan trail
  searched a = accepted_is by_checks (checked.1 a)

  -- demand 1: "Every table .. within the limits of document 01, with room lent for the results, is accepted"; "Every other input is refused"
  pub search_accepts : NotRefused s.answer ↔ Acceptable n t plan trail
  search_accepts = accepted_when by_checks checked

  -- 0 laid out, 10 no layout, 11 stopped, with the count; place 0
  pub search_answers : NotRefused s.answer → (o : Outcome) × (k : ℕ) × (searching_receipt s.answer ≡ receipt (outcome_number o) 0 k)
  search_answers h =
      let r = search n t b in
      (r.outcome, r.count, ap (λ (u : SearchCall). searching_receipt u.answer) (searched (search_accepts.0 h)))

  -- demand 1: "a refused call changes no lent element"
  pub search_refused_unchanged : (w : Refusal) → s.answer ≡ Err w → (s.plan ≡ plan) × (s.trail ≡ trail)
  search_refused_unchanged w e = let q = (unchanged by_checks w e).2 in (ap (λ (u : SearchCall). u.plan) q, ap (λ (u : SearchCall). u.trail) q)

  -- by what the check of the table names: past it no call is refused with 5
  pub search_names_by : {Where : ℕ → ℕ → Type 0} → NamedBy Where (check n t) → Names Where (searching_receipt s.answer)
  search_names_by h = call_names by_checks searching_receipt (λ w. refl)
      (first_named _ _ h (λ _. first_named _ _ (most_named n (length plan) PlanShort (λ e. omega arith)) (λ _. first_named _ _ (most_named n (length trail) TrailShort (λ e. omega arith)) (λ _. passed_named refl))))
      (outcome_names (search n t b).outcome 0 _)

  -- A2: 5 is for the first unknown placement, with its group; "for all other numbers it is 0"
  pub search_names : Names (UnknownInTable n t) (searching_receipt s.answer)
  search_names = search_names_by (table_named n t)

  -- refused exactly with the first check that refuses
  pub search_refused_lem : (w : Refusal) → (s.answer ≡ Err w) ↔ RefusedFirst checks w
  search_refused_lem w = (λ e. let o = unchanged by_checks w e in let q : o.0 ≡ w = cc (ap (λ (x : SearchCall). x.answer) o.2) in (first_refuses checks w).0 (rw q at o.1), λ f. refused_with by_checks w ((first_refuses checks w).1 f))

  -- 1 to 5 are the table's
  pub search_table_refused : (w : Refusal) → check n t ≡ Err w → s.answer ≡ Err w
  search_table_refused w e = refused_with by_checks w (rw e)

  -- 6: "plan short", under n, of a table within the limits
  pub search_plan_short : WithinLimits n t → length plan < n → s.answer ≡ Err (refusal PlanShort 0)
  search_plan_short w h = let a : Accepted n t = (accepted_exactly n t).1 w in refused_with by_checks (refusal PlanShort 0) (rw (a, lt-ltb (length plan) n h))

  -- 7: "trail short", under n, where the plan has room
  pub search_trail_short : WithinLimits n t → n ≤ length plan → length trail < n → s.answer ≡ Err (refusal TrailShort 0)
  search_trail_short w h k =
      let a : Accepted n t = (accepted_exactly n t).1 w in
      refused_with by_checks (refusal TrailShort 0) (rw (a, le-ltb (length plan) n h, lt-ltb (length trail) n k))

-- accepted calls ---------------------------------------------------------------------------------------------------

module _ {n : ℕ} {t : List ℤ} {b : ℕ} {plan : List ℕ} {trail : List ℤ} {s : SearchCall} (c : Call n t b plan trail s) where
  abbrev r : Limited Choice
  r = search n t b

  is_search : s ≡ searched_call n r plan trail
  is_search = searched n t b plan trail s c.is c.acceptable

  accepted : Accepted n t
  accepted = (accepted_exactly n t).1 c.acceptable.table

  reports : (o : Outcome) → Reports s o ↔ (r.outcome ≡ o)
  reports o =
      let e = ap (λ (u : SearchCall). (searching_receipt u.answer).number) is_search in
      (λ h. same_outcome r.outcome o (sym e ∙ h), λ h. e ∙ ap outcome_number h)

  count_is : count_of s ≡ r.count
  count_is = ap count_of is_search

  plan_first : take n s.plan ≡ plan_of n r.found
  plan_first = rw is_search (take_at (plan_of n r.found) (drop n plan) n (plan_long n t accepted b))

  trail_first : take n s.trail ≡ trail_of n r.found
  trail_first = rw is_search (take_at (trail_of n r.found) (drop n trail) n (trail_long n t accepted b))

  -- A5: "The tree, its count and every plan are unchanged": a search that kept reasons would answer and write the same, the trail too
  pub search_explained : s ≡ searched_call n (search_by n t b) plan trail
  search_explained = is_search ∙ ap (λ (x : Limited Choice). searched_call n x plan trail) (sym (search_forgets n t b))

  -- demand 1: "a search brings back a layout, no layout, or a stop"
  pub search_ends : Reports s LaidOut ⊎ Reports s NoLayout ⊎ Reports s Stopped
  search_ends = go r.outcome refl
    where
      go : (o : Outcome) → r.outcome ≡ o → Reports s LaidOut ⊎ Reports s NoLayout ⊎ Reports s Stopped
      go LaidOut e = inl ((reports LaidOut).1 e)
      go NoLayout e = inr (inl ((reports NoLayout).1 e))
      go Stopped e = inr (inr ((reports Stopped).1 e))

  -- demand 2: "it is the first such choice, counting from placement 1 with left out before taken"
  pub search_first_layout : Reports s LaidOut → (f : Choice) × Least ◌≼◌ (Solution n (clauses t)) f × (take n s.plan ≡ map bit f)
  search_first_layout h =
      let w = demands.laid_out_is_first n t accepted b ((reports LaidOut).0 h) in
      (w.0.choice, w.3, plan_first ∙ ap (plan_of n) w.2)

  -- demand 2: "When no choice does so it reports no layout, and at no other time"
  pub search_no_layout_exactly : ¬ Reports s Stopped → Reports s NoLayout ↔ ((f : Choice) → ¬ Solution n (clauses t) f)
  search_no_layout_exactly h =
      let w = demands.no_layout_iff n t accepted b (λ e. h ((reports Stopped).1 e)) in
      (λ e. w.0 ((reports NoLayout).0 e), λ k. (reports NoLayout).1 (w.1 k))

  -- demand 2: "reports a layout when some choice of placements makes exactly one entry true in every group of the whole filing"
  pub search_layout_when_some : ¬ Reports s Stopped → (f : Choice) → Solution n (clauses t) f → Reports s LaidOut
  search_layout_when_some h f k = ⊎_elim (λ e. e) (⊎_elim (λ e. absurd ((search_no_layout_exactly h).0 e f k)) (λ e. absurd (h e))) search_ends

  -- demand 3: "an accepted search stops exactly when the tree of document 01 needs more splits than allowed"
  pub search_stops_exactly : Reports s Stopped ↔ (b < needs n t)
  search_stops_exactly =
      let w = demands.stops_iff n t accepted b in
      (λ e. w.0 ((reports Stopped).0 e), λ h. (reports Stopped).1 (w.1 h))

  -- demand 3: "its count is the smaller of what that tree needs and the allowance"
  pub search_count_smaller : count_of s ≡ min (needs n t) b
  search_count_smaller = count_is ∙ demands.count_smaller n t accepted b

  -- "A stop's count is the allowance."
  pub search_stop_count : Reports s Stopped → count_of s ≡ b
  search_stop_count e = omega (arith, search_count_smaller, search_stops_exactly.0 e)

  -- demand 3: "For n placements the tree never needs more than the bound N(n)"
  pub search_count_bound : count_of s ≤ N n
  search_count_bound = omega (arith, search_count_smaller, demands.needs_bound n t accepted)

  -- "An allowance of N(n), where 32 bits hold it, always finishes."
  pub search_bound_finishes : N n ≤ b → ¬ Reports s Stopped
  search_bound_finishes h e = demands.bound_finishes n t accepted b h ((reports Stopped).0 e)

  -- "the first n of the trail are the splits on the path, -p or +p in order, then zeros"
  pub search_path_on_trail : Reports s LaidOut → (a : Found Choice) × (l : List (Found Choice)) × ((tree_of n (clauses t)).found ≡ a ∷ l) ×
      (take n s.trail ≡ map entry_of a.path ++ replicate (n - length a.path) (posℤ 0))
  search_path_on_trail h =
      let e = (reports LaidOut).0 h in
      let w = demands.laid_out_is_first n t accepted b e in
      let f = demands.search_finished n t accepted b (λ q. let z : ◌≡◌ {A = ℕ} 0 1 = cc in omega arith) in
      (w.0, w.1, sym (ap (λ (u : Limited Choice). u.found) f) ∙ w.2, trail_first ∙ ap (trail_of n) w.2)

  -- "No layout or stopped: the first n of both become 0."
  pub search_others_zero : ¬ Reports s LaidOut → (take n s.plan ≡ replicate n 0) × (take n s.trail ≡ replicate n (posℤ 0))
  unfolding search
  search_others_zero h =
      let e = limited_empty b (tree_of n (clauses t)) (λ k. h ((reports LaidOut).1 k)) in
      (plan_first ∙ ap (plan_of n) e, trail_first ∙ ap (trail_of n) e)

  -- demand 3: "the rest of both lists stays as it was"
  pub search_rest_kept : (drop n s.plan ≡ drop n plan) × (drop n s.trail ≡ drop n trail)
  search_rest_kept = (
    rw is_search (drop_at (plan_of n r.found) (drop n plan) n (plan_long n t accepted b)),
    rw is_search (drop_at (trail_of n r.found) (drop n trail) n (trail_long n t accepted b)),
  )

-- demand 3: "Whatever the allowance, and whatever the plan and the trail held before" --------------------------------

module _ {n : ℕ} {t : List ℤ} {b b' : ℕ} {plan plan' : List ℕ} {trail trail' : List ℤ} {s s' : SearchCall} where
  -- "A search that finishes does so at every larger allowance too"
  pub search_larger_alike : Call n t b plan trail s → Call n t b' plan' trail' s' → b ≤ b' → ¬ Reports s Stopped → Alike n s s'
  search_larger_alike c d l h =
      let e : search n t b' ≡ search n t b = demands.larger_allowance n t (accepted c) b b' l (λ k. h ((reports c Stopped).1 k)) in
      record {
        answer = ap (λ (u : SearchCall). u.answer) (is_search d ∙ ap (λ (u : Limited Choice). searched_call n u plan' trail') e) ∙ sym (ap (λ (u : SearchCall). u.answer) (is_search c));
        plan = plan_first d ∙ ap (λ (u : Limited Choice). plan_of n u.found) e ∙ sym (plan_first c);
        trail = trail_first d ∙ ap (λ (u : Limited Choice). trail_of n u.found) e ∙ sym (trail_first c);
      }

-- "all finished searches of one filing are alike in the outcome, the count, the first n of the plan and the first n of the trail"
pub search_finished_alike : {n : ℕ} {t : List ℤ} {b b' : ℕ} {plan plan' : List ℕ} {trail trail' : List ℤ} {s s' : SearchCall} →
    Call n t b plan trail s → Call n t b' plan' trail' s' → ¬ Reports s Stopped → ¬ Reports s' Stopped → Alike n s s'
search_finished_alike {b} {b'} c d h k = elim (dec_le b b') [
  | yes l ↦ search_larger_alike c d l h
  | no l ↦
      let a = search_larger_alike d c (omega arith) k in
      record { answer = sym a.answer; plan = sym a.plan; trail = sym a.trail }
]
