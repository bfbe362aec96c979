-- Document 02's A6 and the user's demands, said of a call's own answer, by its number, place and count on the receipt, and of the rows after it.
-- All of it follows from the equation that `list` ensures.
use mathlib.Core.Path.{◌≡◌, refl, ap, sym, ◌∙◌}
use mathlib.Core.Logic.{◌⊎◌, inl, inr, ⊎_elim, ◌↔◌}
use mathlib.Core.List.{List, [], ◌∷◌, map, Memᴰ}
use Prim.Native.Nat.{ℕ, suc, ◌+◌, ◌*◌, ◌-◌, ◌^◌, ◌≤◌, ◌<◌, min}
use native.Mathlib.Decide.{dec_le, dec_lt}
use native.Mathlib.Nat.{zero-mul}
use native.Mathlib.Omega.{arith}
use borrow.Author.Tests.{lt-ltb, le-ltb}
use lib.Dec.{ltb}
use lib.IntN.{ℤ}
use lib.ListN.{length, get_or, take, drop, replicate, length-take, length-replicate}
use lib.Seq.{take_at, drop_at, take-nil}
use Rattle.general.specs.Booleans.{bit, true_not_false}
use Rattle.general.specs.Lists.{mem_get_or, mem_index}
use Rattle.std.specs.Prelude.{Err}
use Rattle.receipt.specs.declared.Fault.TheVariants.{RowsShort}
use Rattle.receipt.specs.declared.Outcome.{Outcome}
use Rattle.receipt.specs.declared.Outcome.TheVariants.{LaidOut, NoLayout, Stopped}
use Rattle.receipt.specs.declared.Refusal.{Refusal}
use Rattle.receipt.specs.Receipt.{Checked, pass, outcome_number, refusal, receipt}
use Rattle.receipt.specs.Answers.{listing_receipt, rows_written, says_more}
use Rattle.receipt.proofs.Numbers.{same_outcome}
use Rattle.theory.specs.Calls.{over, SearchCall, ListCall, listed_call, list_refused, list_call}
use Rattle.theory.specs.Formula.{Choice, clauses, Solution}
use Rattle.theory.specs.Layouts.{layouts}
use Rattle.theory.specs.Listing.{list_tree, list_needs, list, row_bytes, rows_of}
use Rattle.theory.specs.Order.{◌≺◌}
use Rattle.theory.specs.Refusing.{at_most, first_refusal, NotRefused, RefusedFirst}
use Rattle.theory.specs.Table.{check, Accepted, WithinLimits}
use Rattle.theory.specs.Tree.{Found, choices_found, Limited, finished, stop}
use Rattle.theory.specs.Unknown.{UnknownInTable, Names}
use Rattle.theory.proofs.Ascending.{ascends_at}
use Rattle.theory.proofs.Budget.{stopped_iff, count_min, limited_short, larger_budget}
use Rattle.theory.proofs.Layouts.{layouts_exactly, layouts_ascend, layouts_most, layouts_first}
use Rattle.theory.proofs.Listed.{listed_finished, listed_length}
use Rattle.theory.proofs.Listed as theory
use Rattle.theory.proofs.Listing.{list_layouts}
use Rattle.theory.proofs.ListingBound.{list_under, list_bound, list_bound_all}
use Rattle.theory.proofs.Order.{≼-antisym}
use Rattle.theory.proofs.Rows.{rows_whole, rows_row, rows_zero, bits_same}
use Rattle.theory.proofs.Refusing.{most_passes, both_pass, last_passes, table_named, passed_named, first_named, most_named, outcome_names, first_refuses, Refusing, accepted_is, refused_with, accepted_when, unchanged, call_names}
use Rattle.theory.proofs.Tables.{accepted_exactly}
use Rattle.theory.proofs.Tree.{choices_length}
use Rattle.search.specs.Call as search
use Rattle.search.proofs.Promises.{search_first_layout, search_layout_when_some}
use Rattle.list.specs.Call.{Acceptable, Call, Reports, count_of, place_of, More, RowIs, Alike}

-- what is accepted -------------------------------------------------------------------------------------------------

-- a call by its checks: "Turned away: 1 to 5, then 27, row room under k times n."
module _ (n : ℕ) (t : List ℤ) (k b : ℕ) (rows : List ℕ) (s : ListCall) (is : s ≡ list_call n t k b rows) where
  abbrev checks : List Checked
  checks = check n t ∷ at_most (k * n) (length rows) RowsShort ∷ []

  by_checks : Refusing (λ (u : ListCall). u.answer) (λ w. list_refused w rows) (first_refusal checks) (listed_call n k (list n t k b) rows) s
  unfolding list_call
  by_checks = record { is = is; turns = λ w. refl; accepts = λ w e. let z : ◌≡◌ {A = ℕ} 0 1 = cc in omega arith }

  checked : (first_refusal checks ≡ pass) ↔ Acceptable n t k rows
  checked =
      let p = both_pass (accepted_exactly n t) (last_passes (most_passes (k * n) (length rows) RowsShort)) in
      (λ e. let h = p.0 e in record { table = h.0; room = h.1 }, λ a. p.1 (a.table, a.room))

  -- an acceptable call is a listing of the table
  is_listed : Acceptable n t k rows → s ≡ listed_call n k (list n t k b) rows
  is_listed a = accepted_is by_checks (checked.1 a)

  -- demand 1: "Every table .. within the limits of document 01, with room lent for the results, is accepted"; "Every other input is refused"
  pub list_accepts : NotRefused s.answer ↔ Acceptable n t k rows
  list_accepts = accepted_when by_checks checked

  -- 0 laid out, 10 no layout, 11 stopped, with the count; "place is the rows written"
  pub list_answers : NotRefused s.answer → (o : Outcome) × (c : ℕ) × (listing_receipt s.answer ≡ receipt (outcome_number o) (rows_written s.answer) c)
  list_answers h = let r = list n t k b in (r.outcome, r.count, rw (is_listed (list_accepts.0 h)))

  -- demand 1: "a refused call changes no lent element"; and it has no "more"
  pub list_refused_unchanged : (w : Refusal) → s.answer ≡ Err w → (s.rows ≡ rows) × ¬ More s
  list_refused_unchanged w e = (ap (λ (u : ListCall). u.rows) (unchanged by_checks w e).2, λ m. true_not_false m (ap says_more e))

  -- A2: 5 is for the first unknown placement, with its group; "for all other numbers it is 0"
  pub list_names : Names (UnknownInTable n t) (listing_receipt s.answer)
  list_names = call_names by_checks listing_receipt (λ w. refl)
      (first_named _ _ (table_named n t) (λ _. first_named _ _ (most_named (k * n) (length rows) RowsShort (λ e. omega arith)) (λ _. passed_named refl)))
      (outcome_names (list n t k b).outcome _ _)

  -- refused exactly with the first check that refuses
  pub list_refused_lem : (w : Refusal) → (s.answer ≡ Err w) ↔ RefusedFirst checks w
  list_refused_lem w = (λ e. let o = unchanged by_checks w e in let q : o.0 ≡ w = cc (ap (λ (x : ListCall). x.answer) o.2) in (first_refuses checks w).0 (rw q at o.1), λ f. refused_with by_checks w ((first_refuses checks w).1 f))

  -- "Turned away: 1 to 5,
  pub list_table_refused : (w : Refusal) → check n t ≡ Err w → s.answer ≡ Err w
  list_table_refused w e = refused_with by_checks w (rw e)

  -- then 27, row room under k times n."
  pub list_rows_short : WithinLimits n t → length rows < k * n → s.answer ≡ Err (refusal RowsShort 0)
  list_rows_short w h = let a : Accepted n t = (accepted_exactly n t).1 w in refused_with by_checks (refusal RowsShort 0) (rw (a, lt-ltb (length rows) (k * n) h))

listed : {n : ℕ} {t : List ℤ} {k b : ℕ} {rows : List ℕ} {s : ListCall} → Call n t k b rows s → s ≡ listed_call n k (list n t k b) rows
listed c = is_listed _ _ _ _ _ _ c.is c.acceptable

-- accepted calls ---------------------------------------------------------------------------------------------------

module _ {n : ℕ} {t : List ℤ} {k b : ℕ} {rows : List ℕ} {s : ListCall} (c : Call n t k b rows s) where
  -- all layouts, in order: "each once"
  abbrev all : List Choice
  all = layouts n (clauses t)

  abbrev r : Limited Choice
  r = list n t k b

  accepted : Accepted n t
  accepted = (accepted_exactly n t).1 c.acceptable.table

  reports : (o : Outcome) → Reports s o ↔ (r.outcome ≡ o)
  reports o =
      let e = ap (λ (u : ListCall). (listing_receipt u.answer).number) (listed c) in
      (λ h. same_outcome r.outcome o (sym e ∙ h), λ h. e ∙ ap outcome_number h)

  count_is : count_of s ≡ r.count
  count_is = ap count_of (listed c)

  place_is : place_of s ≡ min k (length r.found)
  place_is = ap place_of (listed c)

  more_is : says_more s.answer ≡ ltb k (length r.found)
  more_is = ap (λ (u : ListCall). says_more u.answer) (listed c)

  rows_are : s.rows ≡ over (k * n) (rows_of n k (choices_found r.found)) rows
  rows_are = ap (λ (u : ListCall). u.rows) (listed c)

  -- demand 1: "a layout, no layout, or a stop"
  pub list_ends : Reports s LaidOut ⊎ Reports s NoLayout ⊎ Reports s Stopped
  list_ends = go r.outcome refl
    where
      go : (o : Outcome) → r.outcome ≡ o → Reports s LaidOut ⊎ Reports s NoLayout ⊎ Reports s Stopped
      go LaidOut e = inl ((reports LaidOut).1 e)
      go NoLayout e = inr (inl ((reports NoLayout).1 e))
      go Stopped e = inr (inr ((reports Stopped).1 e))

  -- stopped ----------------------------------------------------------------------------------------------------------

  -- demand 3 for this tree: it stops exactly when the tree needs more splits than allowed
  pub list_stops_exactly : Reports s Stopped ↔ (b < list_needs n t k)
  unfolding list
  list_stops_exactly =
      let w = stopped_iff b (list_tree n t k) in
      (λ e. w.0 ((reports Stopped).0 e), λ h. (reports Stopped).1 (w.1 h))

  -- "its splits are the count": the smaller of what the tree needs and the allowance
  pub list_count_smaller : count_of s ≡ min (list_needs n t k) b
  unfolding list
  list_count_smaller = count_is ∙ count_min b (list_tree n t k)

  stopped_is : Reports s Stopped → r ≡ stop b
  unfolding list
  stopped_is e = limited_short b (list_tree n t k) (list_stops_exactly.0 e)

  stopped_rows : Reports s Stopped → rows_of n k (choices_found r.found) ≡ replicate (k * n) 0
  unfolding row_bytes
  stopped_rows e =
      let none_taken : k - 0 ≡ k = omega arith in
      ap (λ (x : Limited Choice). rows_of n k (choices_found x.found)) (stopped_is e) ∙ rw (take-nil k, none_taken)

  -- "Stopped: place 0, the first k times n bytes 0, no "more""; the count is the allowance
  pub list_stop : Reports s Stopped → (place_of s ≡ 0) × (take (k * n) s.rows ≡ replicate (k * n) 0) × ¬ More s × (count_of s ≡ b)
  list_stop e =
      let q = stopped_is e in
      let none_found : length r.found ≡ 0 = ap (λ (x : Limited Choice). length x.found) q in
      let empty = stopped_rows e in (
        omega (arith, place_is),
        ap (take (k * n)) rows_are ∙ rw empty (take_at (replicate (k * n) 0) (drop (k * n) rows) (k * n) (length-replicate (k * n) 0)),
        λ m. true_not_false m (more_is ∙ le-ltb k (length r.found) (omega arith)),
        omega (arith, list_count_smaller, list_stops_exactly.0 e),
      )

  -- finished -----------------------------------------------------------------------------------------------------------

  module _ (ends : ¬ Reports s Stopped) where
    going : ¬ (r.outcome ≡ Stopped)
    going e = ends ((reports Stopped).1 e)

    found_length : length r.found ≡ min (suc k) (length all)
    found_length = listed_length n t accepted k b going

    long : (d : Choice) → Memᴰ d all → length d ≡ n
    long d m = ((layouts_exactly n (clauses t) d).0 m).long

    rows_as : rows_of n k (choices_found r.found) ≡ rows_of n k all
    rows_as = theory.listed_rows n t accepted k b going

    -- "The rows are all layouts in document 01's order, each once, up to k"; "Unused rows become 0."
    pub list_rows : take (k * n) s.rows ≡ rows_of n k all
    list_rows = ap (take (k * n)) rows_are ∙ rw rows_as (take_at (rows_of n k all) (drop (k * n) rows) (k * n) (rows_whole n k all long))

    -- the number of rows is the smaller of k and the number of layouts
    pub list_place : place_of s ≡ min k (length all)
    list_place = ap place_of (listed c) ∙ theory.listed_place n t accepted k b going

    -- "more" exactly when there are more than k
    pub list_more_exactly : More s ↔ (k < length all)
    list_more_exactly = let w = theory.listed_more n t accepted k b going in (λ m. w.0 (sym more_is ∙ m), λ h. more_is ∙ w.1 h)

    row_bytes_lem : (i : ℕ) → i < place_of s → (d : Choice) → RowIs n s i (get_or all i d)
    row_bytes_lem i h d = ap (λ (l : List ℕ). take n (drop (i * n) l)) (rows_are ∙ ap (λ (l : List ℕ). over (k * n) l rows) rows_as) ∙
        rows_row n k all long (drop (k * n) rows) i (omega (arith, list_place)) d

    -- every layout is a row, or "more" is said and it comes after the rows
    pub list_layout_row : (d : Choice) → Solution n (clauses t) d → ((i : ℕ) × (i < place_of s) × RowIs n s i d) ⊎ (More s × ((i : ℕ) (e : Choice) → i < place_of s → RowIs n s i e → e ≺ d))
    list_layout_row d h =
        let w = mem_index all d [] ((layouts_exactly n (clauses t) d).1 h) in
        elim (dec_lt w.0 k) [
          | yes l ↦ let q = row_bytes_lem w.0 (omega (arith, list_place, w.1)) [] in inl (w.0, omega (arith, list_place, w.1), q ∙ ap (map bit) w.2)
          | no l ↦ inr (
            list_more_exactly.1 (omega (arith, w.1)),
            λ i e j q.
                let is : e ≡ get_or all i [] = bits_same e (get_or all i []) (sym q ∙ row_bytes_lem i j []) in
                let up : get_or all i [] ≺ get_or all w.0 [] = ascends_at ◌≺◌ all (layouts_ascend n (clauses t)) i w.0 (omega (arith, list_place)) w.1 [] in
                rw (is, ← w.2) up,
          )
        ]

    -- "Unused rows become 0."
    pub list_unused_zero : drop (place_of s * n) (take (k * n) s.rows) ≡ replicate ((k - place_of s) * n) 0
    list_unused_zero = rw (list_rows, list_place) (rows_zero n k all long)

    outcome_is : r.outcome ≡ finished r.found
    outcome_is = let f = listed_finished n t accepted k b going in ap (λ (x : Limited Choice). x.outcome) f ∙ sym (ap (λ (x : Limited Choice). finished x.found) f)

    some_found : (d : Choice) → Solution n (clauses t) d → 0 < length r.found
    some_found d h = let w = mem_index all d [] ((layouts_exactly n (clauses t) d).1 h) in omega (arith, found_length, w.1)

    -- "The number is 0 if any layout exists,
    pub list_laid_out_exactly : Reports s LaidOut ↔ ((d : Choice) × Solution n (clauses t) d)
    list_laid_out_exactly = (λ e. go r.found refl (sym outcome_is ∙ (reports LaidOut).0 e), λ h. (reports LaidOut).1 (outcome_is ∙ back r.found (some_found h.0 h.1)))
      where
        go : (l : List (Found Choice)) → r.found ≡ l → finished l ≡ LaidOut → (d : Choice) × Solution n (clauses t) d
        go [] q e = absurd (let z : ◌≡◌ {A = ℕ} 0 1 = cc in omega arith)
        go (a ∷ l) q e =
            let one : 0 < length all = omega (arith, found_length, ap length q) in
            (get_or all 0 [], (layouts_exactly n (clauses t) (get_or all 0 [])).0 (mem_get_or all 0 [] one))

        back : (l : List (Found Choice)) → 0 < length l → finished l ≡ LaidOut
        back [] h = absurd (omega arith)
        back (a ∷ l) h = refl

    -- else 10"
    pub list_no_layout_exactly : Reports s NoLayout ↔ ((d : Choice) → ¬ Solution n (clauses t) d)
    list_no_layout_exactly = (
      λ e d h. let z : ◌≡◌ {A = ℕ} 0 1 = cc (sym ((reports NoLayout).0 e) ∙ (reports LaidOut).0 (list_laid_out_exactly.1 (d, h))) in omega arith,
      λ h. ⊎_elim (λ e. let w = list_laid_out_exactly.0 e in absurd (h w.0 w.1)) (⊎_elim (λ e. e) (λ e. absurd (ends e))) list_ends,
    )

  -- wherever there is a row ----------------------------------------------------------------------------------------

  row_finishes : (i : ℕ) → i < place_of s → ¬ Reports s Stopped
  row_finishes i h e = omega (arith, (list_stop e).0)

  row_choice : (i : ℕ) → i < place_of s → (d : Choice) → RowIs n s i d → d ≡ get_or all i []
  row_choice i h d q = bits_same d (get_or all i []) (sym q ∙ row_bytes_lem (row_finishes i h) i h [])

  -- every row is a layout
  pub list_row_layout : (i : ℕ) → i < place_of s → (d : Choice) × Solution n (clauses t) d × RowIs n s i d
  list_row_layout i h =
      let ends = row_finishes i h in
      (get_or all i [], (layouts_exactly n (clauses t) (get_or all i [])).0 (mem_get_or all i [] (omega (arith, list_place ends))), row_bytes_lem ends i h [])

  -- they strictly ascend
  pub list_rows_ascend : (i j : ℕ) → i < j → j < place_of s → (d e : Choice) → RowIs n s i d → RowIs n s j e → d ≺ e
  list_rows_ascend i j h l d e p q =
      let place = list_place (row_finishes j l) in
      rw (row_choice i (omega arith) d p, row_choice j l e q) (ascends_at ◌≺◌ all (layouts_ascend n (clauses t)) i j h (omega arith) [])

  -- elements past k times n stay
  pub list_rest_kept : drop (k * n) s.rows ≡ drop (k * n) rows
  list_rest_kept = ap (drop (k * n)) rows_are ∙ drop_at (rows_of n k (choices_found r.found)) (drop (k * n) rows) (k * n) whole
    where
      whole : length (rows_of n k (choices_found r.found)) ≡ k * n
      whole = elim (dec_lt b (list_needs n t k)) [
        | yes h ↦ ap length (stopped_rows (list_stops_exactly.1 h)) ∙ length-replicate (k * n) 0
        | no h ↦ let ends : ¬ Reports s Stopped = λ e. h (list_stops_exactly.0 e) in ap length (rows_as ends) ∙ rows_whole n k all (long ends)
      ]

  -- how many splits ------------------------------------------------------------------------------------------------

  -- the tree never needs as many splits as there are choices
  pub list_count_under : count_of s < 2 ^ n
  list_count_under = omega (arith, list_count_smaller, list_under n t accepted k)

  needs_bound : 8 * list_needs n t k ≤ 2 ^ n + 7 * k + 16
  needs_bound =
      let found : length (list_tree n t k).found ≡ min (suc k) (length all) =
      sym (choices_length (list_tree n t k).found) ∙ ap length (list_layouts n t accepted k) ∙ length-take (suc k) all in
      omega (arith, list_bound n t accepted k)

  -- nor more than this, in terms of n and k
  pub list_count_bound : 8 * count_of s ≤ 2 ^ n + 7 * k + 16
  list_count_bound = omega (arith, list_count_smaller, needs_bound)

  -- an allowance of either finishes
  pub list_bound_finishes : (2 ^ n ≤ suc b) ⊎ (2 ^ n + 7 * k + 16 ≤ 8 * b) → ¬ Reports s Stopped
  list_bound_finishes h e = ⊎_elim
      (λ l. omega (arith, list_stops_exactly.0 e, list_under n t accepted k))
      (λ l. omega (arith, list_stops_exactly.0 e, needs_bound))
      h

  -- "For n = 0 there is one layout or none.": the call never stops, and makes no split
  pub list_no_placements : n ≡ 0 → ¬ Reports s Stopped × (count_of s ≡ 0) × (place_of s ≤ 1) × (0 < k → ¬ More s)
  list_no_placements e =
      let one : 2 ^ n ≡ 1 = ap (λ (m : ℕ). 2 ^ m) e in
      let ends : ¬ Reports s Stopped = list_bound_finishes (inl (omega arith)) in (
        ends,
        omega (arith, list_count_under),
        omega (arith, list_place ends, layouts_most n (clauses t)),
        λ h m. omega (arith, (list_more_exactly ends).0 m, layouts_most n (clauses t)),
      )

  -- where all layouts are rows, in terms of their number
  pub list_count_all : ¬ Reports s Stopped → ¬ More s → 8 * count_of s ≤ 2 ^ n + 7 * place_of s - 8
  list_count_all ends none =
      let f : length r.found ≡ length (list_tree n t k).found = ap (λ (x : Limited Choice). length x.found) (listed_finished n t accepted k b (going ends)) in
      let few : length r.found ≤ k = elim (dec_le (length r.found) k) [ yes h ↦ h | no h ↦ absurd (none (more_is ∙ lt-ltb k (length r.found) (omega arith))) ] in
      omega (arith, list_count_smaller, list_bound_all n t accepted k (omega arith), place_is)

  -- "The first row, where there is one, equals the plan of a plain search that isn't stopped."
  pub list_first_row : {b' : ℕ} {plan : List ℕ} {trail : List ℤ} {u : SearchCall} → 0 < place_of s → search.Call n t b' plan trail u → ¬ search.Reports u Stopped →
      take n s.rows ≡ take n u.plan
  list_first_row h v unstopped =
      let ends = row_finishes 0 h in
      let one = layouts_first n (clauses t) [] (omega (arith, list_place ends)) in
      let w = search_first_layout v (search_layout_when_some v unstopped (get_or all 0 []) one.member) in
      let front : 0 * n ≡ 0 = zero-mul n in
      rw front at (row_bytes_lem ends 0 h []) ∙
      ap (map bit) (≼-antisym (get_or all 0 []) w.0 (one.least w.0 w.1.member) (w.1.least (get_or all 0 []) one.member)) ∙
      sym w.2

-- demand 3: "Whatever the allowance, and whatever" the rows held before ------------------------------------------------

module _ {n : ℕ} {t : List ℤ} {k b b' : ℕ} {rows rows' : List ℕ} {s s' : ListCall} where
  -- a call that finishes does so at every larger allowance too, alike
  pub list_larger_alike : Call n t k b rows s → Call n t k b' rows' s' → b ≤ b' → ¬ Reports s Stopped → Alike n k s s'
  unfolding list
  list_larger_alike c d l h =
      let e : list n t k b' ≡ list n t k b = larger_budget b b' (list_tree n t k) l (λ q. h ((reports c Stopped).1 q)) in
      let h' : ¬ Reports s' Stopped = λ q. h ((reports c Stopped).1 (sym (ap (λ (x : Limited Choice). x.outcome) e) ∙ (reports d Stopped).0 q)) in
      record {
        answer = ap (λ (u : ListCall). u.answer) (listed d ∙ ap (λ (x : Limited Choice). listed_call n k x rows') e) ∙ sym (ap (λ (u : ListCall). u.answer) (listed c));
        rows = list_rows d h' ∙ sym (list_rows c h);
      }

-- all finished calls of one filing for k rows are alike
pub list_finished_alike : {n : ℕ} {t : List ℤ} {k b b' : ℕ} {rows rows' : List ℕ} {s s' : ListCall} → Call n t k b rows s → Call n t k b' rows' s' →
    ¬ Reports s Stopped → ¬ Reports s' Stopped → Alike n k s s'
list_finished_alike {b = b} {b' = b'} c d h g = elim (dec_le b b') [
  | yes l ↦ list_larger_alike c d l h
  | no l ↦ let a = list_larger_alike d c (omega arith) g in record { answer = sym a.answer; rows = sym a.rows }
]
