-- What a call of Index promises, by its receipt and the heads after it. All of it follows from the equation that `index` ensures.
use mathlib.Core.Path.{◌≡◌, refl, ap, sym, ◌∙◌}
use mathlib.Core.Bool.{false}
use mathlib.Core.Logic.{◌↔◌}
use mathlib.Core.List.{List, [], ◌∷◌}
use Prim.Native.Nat.{ℕ, suc, ◌+◌, ◌-◌, ◌<◌, ◌≤◌}
use native.Mathlib.Omega.{arith}
use borrow.Author.Tests.{lt-ltb}
use lib.IntN.{ℤ}
use lib.ListN.{length, get_or, drop, get_or-append}
use lib.Seq.{drop_at}
use Rattle.receipt.specs.Receipt.{refusal, receipt, pass, Checked}
use Rattle.receipt.specs.Answers.{indexing_receipt}
use Rattle.std.specs.Prelude.{Err}
use Rattle.receipt.specs.declared.Fault.TheVariants.{HeadsShort}
use Rattle.receipt.specs.declared.Head.{Head}
use Rattle.receipt.specs.declared.Refusal.{Refusal}
use Rattle.theory.specs.Calls.{over, IndexCall, index_refused, indexed_call, index_call}
use Rattle.theory.specs.Formula.{clauses}
use Rattle.theory.specs.Heads.{head, heads_of, head_at, HeadOf}
use Rattle.theory.specs.Refusing.{at_most, first_refusal, NotRefused, RefusedFirst}
use Rattle.theory.specs.Table.{zeros, ends_open, check, Accepted, WithinLimits}
use Rattle.theory.specs.Unknown.{Encloses, UnknownInTable, Names}
use Rattle.theory.proofs.Heads.{clauses_zeros, heads_zeros, heads_hold, first_start, next_start, last_end, in_order}
use Rattle.theory.proofs.Refusing.{most_passes, both_pass, last_passes, table_named, passed_named, first_named, most_named, number_not_refused, first_refuses, Refusing, accepted_is, refused_with, accepted_when, unchanged, call_cases, call_names}
use Rattle.theory.proofs.Tables.{accepted_exactly, accepted_closed}
use Rattle.theory.proofs.Unknown.{none_named}
use Rattle.index.specs.Index.{called}

abbrev pub number_of : Checked → ℕ
number_of r = (indexing_receipt r).number

-- a call of Index: its answer r, and the heads before and after it
pub record Call (n : ℕ) (t : List ℤ) (hs : List Head) (r : Checked) (hs' : List Head) : Type 0 where
  pub is : called r hs' ≡ index_call n t hs

-- "within the limits of document 01, with room lent for the results": 8 is "under the number of groups"
abbrev pub Acceptable : ℕ → List ℤ → List Head → Type 0
Acceptable n t hs = WithinLimits n t × (zeros t ≤ length hs)

module _ {n : ℕ} {t : List ℤ} {hs : List Head} {r : Checked} {hs' : List Head} (c : Call n t hs r hs') where
  -- a call by its checks: "Tables: 1, 2, 3, 4, 5, then .. 8 (index)"
  abbrev checks : List Checked
  checks = check n t ∷ at_most (zeros t) (length hs) HeadsShort ∷ []

  by_checks : Refusing (λ (s : IndexCall). s.answer) (λ w. index_refused w hs) (first_refusal checks) (indexed_call t hs) (called r hs')
  unfolding index_call
  by_checks = record { is = c.is; turns = λ w. refl; accepts = λ w e. let z : ◌≡◌ {A = ℕ} 0 1 = cc in omega arith }

  checked : (first_refusal checks ≡ pass) ↔ Acceptable n t hs
  checked = both_pass (accepted_exactly n t) (last_passes (most_passes (zeros t) (length hs) HeadsShort))

  -- demand 1: "Every table .. within the limits of document 01, with room lent for the results, is accepted"; "Every other input is refused"
  pub index_accepts : NotRefused r ↔ Acceptable n t hs
  index_accepts = accepted_when by_checks checked

  indexed : NotRefused r → called r hs' ≡ indexed_call t hs
  indexed h = accepted_is by_checks (checked.1 (index_accepts.0 h))

  -- 17 indexed
  pub index_answers : NotRefused r → indexing_receipt r ≡ receipt 17 0 0
  index_answers h = ap (λ (s : IndexCall). indexing_receipt s.answer) (indexed h)

  -- demand 1: "a refused call changes no lent element"
  pub index_refused_unchanged : (w : Refusal) → r ≡ Err w → hs' ≡ hs
  index_refused_unchanged w e = ap (λ (s : IndexCall). s.heads) (unchanged by_checks w e).2

  -- A2: 5 is for the first unknown placement, with its group; "for all other numbers it is 0"
  pub index_names : Names (UnknownInTable n t) (indexing_receipt r)
  index_names = call_names by_checks indexing_receipt (λ w. refl)
      (first_named _ _ (table_named n t) (λ _. first_named _ _ (most_named (zeros t) (length hs) HeadsShort (λ e. omega arith)) (λ _. passed_named refl)))
      (none_named 17 0 0 (λ e. omega arith))

  -- refused exactly with the first check that refuses
  pub index_refused_lem : (w : Refusal) → (r ≡ Err w) ↔ RefusedFirst checks w
  index_refused_lem w = (λ e. let o = unchanged by_checks w e in let q : o.0 ≡ w = cc (ap (λ (x : IndexCall). x.answer) o.2) in (first_refuses checks w).0 (rw q at o.1), λ f. refused_with by_checks w ((first_refuses checks w).1 f))

  -- 1 to 5 are the table's
  pub index_table_refused : (w : Refusal) → check n t ≡ Err w → r ≡ Err w
  index_table_refused w e = refused_with by_checks w (rw e)

  -- 8: "heads short", under the number of groups, of a table within the limits
  pub index_heads_short : WithinLimits n t → length hs < zeros t → r ≡ Err (refusal HeadsShort 0)
  index_heads_short w h = let a : Accepted n t = (accepted_exactly n t).1 w in refused_with by_checks (refusal HeadsShort 0) (rw (a, lt-ltb (length hs) (zeros t) h))

  -- "Elements not named are never changed.": the heads past the number of groups
  pub index_rest_kept : drop (zeros t) hs' ≡ drop (zeros t) hs
  index_rest_kept = call_cases by_checks (λ s. drop (zeros t) s.heads ≡ drop (zeros t) hs) (λ w e. refl) (λ e. drop_at (heads_of t) (drop (zeros t) hs) (zeros t) (heads_zeros t))

  -- 17: what is stored -------------------------------------------------------------------------------------------
  module _ (q : number_of r ≡ 17) where
    filled : (WithinLimits n t) × (hs' ≡ over (zeros t) (heads_of t) hs)
    filled =
        let h = number_not_refused indexing_receipt (λ w. refl) r 17 refl q in
        ((index_accepts.0 h).0, ap (λ (s : IndexCall). s.heads) (indexed h))

    closed : ends_open false t ≡ false
    closed = accepted_closed n t ((accepted_exactly n t).1 filled.0)

    stored : (i : ℕ) → i < zeros t → head_at hs' i ≡ head_at (heads_of t) i
    stored i l = rw filled.1 (get_or-append (heads_of t) (drop (zeros t) hs) (head 0 0) i (omega (arith, heads_zeros t)))

    -- "The index fills a lent list of heads, one per group": head i is that of group i, and its entries are the entries of its group
    pub index_heads : (i : ℕ) → i < zeros t → HeadOf t (get_or (clauses t) i []) (head_at hs' i)
    index_heads i l = rw (stored i l) (heads_hold t (clauses t) 0 refl i (rw (clauses_zeros t) l))

    -- the heads cut the table into its groups: the first starts with the table, each other one after the 0 of the one before it, and the last ends with the table
    pub index_first_lem : 0 < zeros t → (head_at hs' 0).start ≡ 0
    index_first_lem l = rw (stored 0 l) (first_start t (clauses t) 0 (rw (clauses_zeros t) l))

    pub index_next : (i : ℕ) → suc i < zeros t → (head_at hs' (suc i)).start ≡ (head_at hs' i).start + (head_at hs' i).entries + 1
    index_next i l = rw (stored (suc i) l, stored i (omega arith)) (next_start t (clauses t) 0 i (rw (clauses_zeros t) l))

    pub index_last : (i : ℕ) → suc i ≡ zeros t → (head_at hs' i).start + (head_at hs' i).entries + 1 ≡ length t
    index_last i e = rw (stored i (omega arith)) (last_end t (clauses t) 0 refl closed i (e ∙ sym (clauses_zeros t)))

    -- heads are in order
    pub index_order : (i j : ℕ) → i < j → j < zeros t → (head_at hs' i).start < (head_at hs' j).start
    index_order i j h l = rw (stored i (omega arith), stored j l) (in_order t (clauses t) 0 i j h (rw (clauses_zeros t) l))

    -- A2: the group that 5 names by the heads stored: Index accepts with a larger n the table that was refused with 5, if none of its entries is of a placement above 256
    pub index_encloses : (k i : ℕ) → Encloses t k i ↔ ((0 < k) × (k ≤ zeros t) × ((head_at hs' (k - 1)).start ≤ i) × (i < (head_at hs' (k - 1)).start + (head_at hs' (k - 1)).entries))
    index_encloses k i = (
      λ a.
          let e = stored (k - 1) (omega (arith, a.from_one, a.is_clause, heads_zeros t)) in
          (a.from_one, omega (arith, a.is_clause, heads_zeros t), rw e a.starts, rw e a.ends),
      λ a.
          let e = stored (k - 1) (omega (arith, a.0, a.1)) in
          record { from_one = a.0; is_clause = omega (arith, a.1, heads_zeros t); starts = rw e at a.2; ends = rw e at a.3 },
    )
