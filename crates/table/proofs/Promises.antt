-- What the table check promises, for a list handed over whole or in parts (document 02, A4). All of it follows from the equations that `begin`, `after` and `verdict` of
-- `Pass` ensure.
use mathlib.Core.Path.{◌≡◌, refl, ap, sym, ◌∙◌}
use mathlib.Core.Logic.{◌↔◌}
use mathlib.Core.List.{List, [], ◌∷◌, ◌++◌, flatten, append-nil}
use Prim.Native.Nat.{ℕ}
use native.Mathlib.Omega.{arith}
use lib.IntN.{ℤ, nat_abs}
use lib.ListN.{take, drop, take-append-drop}
use Rattle.receipt.specs.Receipt.{done, receipt, pass}
use Rattle.receipt.specs.Answers.{checked_receipt}
use Rattle.std.specs.Prelude.{Ok, Err}
use Rattle.receipt.specs.Receipt.{Checked}
use Rattle.receipt.specs.declared.Refusal.{Refusal}
use Rattle.receipt.proofs.Numbers.{not_refused}
use Rattle.theory.specs.Refusing.{first_refusal, RefusedFirst, table_checks}
use Rattle.theory.specs.Table.{check, WithinLimits}
use Rattle.theory.specs.Unknown.{UnknownInTable, Names}
use Rattle.theory.proofs.Refusing.{first_refuses, check_first}
use Rattle.theory.proofs.Tables.{accepted_exactly}
use Rattle.theory.proofs.Unknown.{none_named, check_names as definition_names}
use Rattle.table.specs.declared.Pass.{Pass}
use Rattle.table.specs.Pass.{begin, next, after, after_all, verdict}
use Rattle.table.proofs.Passes.{verdict_check}

-- of states -----------------------------------------------------------------------------------------------------------

-- an empty part changes no state
pub after_empty : (s : Pass) → after s [] ≡ s
unfolding after
after_empty s = refl

-- of a list cut in two, the second part goes on from the state that the first left
pub after_append : (s : Pass) (t u : List ℤ) → after s (t ++ u) ≡ after (after s t) u
unfolding after
after_append s [] u = refl
after_append s (e ∷ t) u = after_append (next s (nat_abs e)) t u

-- and so of any number of parts
pub after_parts : (s : Pass) (ts : List (List ℤ)) → after_all s ts ≡ after s (flatten ts)
unfolding after after_all flatten
after_parts s [] = refl
after_parts s (t ∷ ts) = after_parts (after s t) ts ∙ sym (after_append s t (flatten ts))

-- of answers ----------------------------------------------------------------------------------------------------------

-- a check begun for n placements, gone on over the parts ts one after the other, and asked: it answers r
pub record Call (n : ℕ) (ts : List (List ℤ)) (r : Checked) : Type 0 where
  pub is : r ≡ verdict (after_all (begin n) ts)

-- a call of `check_table` is one in a single part
pub check_whole : {n : ℕ} {t : List ℤ} {r : Checked} → r ≡ check n t → Call n (t ∷ []) r
unfolding after_all
check_whole {n} {t} e = record { is = e ∙ sym (verdict_check n t) }

-- however a list is handed over, the answer is that of document 01's refusals 1 to 5, with A2's group, of the whole list
pub check_parts : {n : ℕ} {ts : List (List ℤ)} {r : Checked} → Call n ts r → r ≡ check n (flatten ts)
check_parts {n} {ts} c = c.is ∙ ap verdict (after_parts (begin n) ts) ∙ verdict_check n (flatten ts)

-- two ways to hand over one list are answered alike, in however many parts
pub check_alike : {n : ℕ} {ts us : List (List ℤ)} {r q : Checked} → flatten ts ≡ flatten us → Call n ts r → Call n us q → r ≡ q
check_alike e c d = check_parts c ∙ ap (check _) e ∙ sym (check_parts d)

-- "for a list handed over in two parts, cut anywhere, .. it answers as for the whole list"
pub check_cut : {n : ℕ} (t : List ℤ) (i : ℕ) {r q : Checked} → Call n (take i t ∷ drop i t ∷ []) r → Call n (t ∷ []) q → r ≡ q
unfolding flatten
check_cut t i = check_alike (ap (◌++◌ (take i t)) (append-nil (drop i t)) ∙ take-append-drop i t ∙ sym (append-nil t))

-- an empty part, wherever it stands, changes no answer
pub check_empty_part : {n : ℕ} (ts us : List (List ℤ)) {r q : Checked} → Call n (ts ++ ([] ∷ us)) r → Call n (ts ++ us) q → r ≡ q
unfolding flatten
check_empty_part ts us = check_alike (without ts)
  where
    without : (ts : List (List ℤ)) → flatten (ts ++ ([] ∷ us)) ≡ flatten (ts ++ us)
    without [] = refl
    without (t ∷ ts) = ap (◌++◌ t) (without ts)

module _ {n : ℕ} {ts : List (List ℤ)} {r : Checked} (c : Call n ts r) where
  -- demand 1, of the check by itself
  pub check_accepts : (r ≡ pass) ↔ WithinLimits n (flatten ts)
  check_accepts = (λ e. (accepted_exactly n (flatten ts)).0 (sym (check_parts c) ∙ e), λ w. check_parts c ∙ (accepted_exactly n (flatten ts)).1 w)

  -- 18 done, place and group 0; and 18 at no other time
  pub check_answers : (r ≡ pass → checked_receipt r ≡ receipt done 0 0) × ((checked_receipt r).number ≡ done → r ≡ pass)
  check_answers = (ap checked_receipt, back r)
    where
      back : (k : Checked) → (checked_receipt k).number ≡ done → k ≡ pass
      back (Ok u) e = refl
      back (Err w) e = absurd (not_refused w.fault done refl e)

  -- "Tables: 1, 2, 3, 4, 5": refused exactly with the first check that refuses, of the whole list
  pub check_refused : (w : Refusal) → (r ≡ Err w) ↔ RefusedFirst (table_checks n (flatten ts)) w
  check_refused w =
      let e : r ≡ first_refusal (table_checks n (flatten ts)) = check_parts c ∙ check_first n (flatten ts) in
      let f = first_refuses (table_checks n (flatten ts)) w in
      (λ q. f.0 (sym e ∙ q), λ g. e ∙ f.1 g)

  -- A2: 5 is for the first unknown placement of the whole list, with its group; "for all other numbers it is 0"
  pub check_names : Names (UnknownInTable n (flatten ts)) (checked_receipt r)
  check_names = rw (check_parts c) (definition_names n (flatten ts) checked_receipt (λ w. refl) (none_named done 0 0 (λ e. omega arith)))
