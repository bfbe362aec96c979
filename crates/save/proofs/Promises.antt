-- What a call of Save promises, by its receipt and the strip buffer after it; and that Save and Read bring each other back.
-- All of it follows from the equations that `save` and `read` ensure.
use mathlib.Core.Path.{◌≡◌, refl, ap, sym, ◌∙◌}
use mathlib.Core.Bool.{not}
use mathlib.Core.Logic.{◌↔◌, ◌≢◌}
use mathlib.Core.List.{List, [], ◌∷◌}
use Prim.Native.Nat.{ℕ, ◌≤◌, ◌<◌}
use native.Mathlib.Omega.{arith}
use borrow.Author.Tests.{lt-ltb, le-ltb}
use lib.IntN.{ℤ}
use lib.ListN.{length, take, drop}
use lib.Seq.{take_at, drop_at}
use Rattle.general.specs.Booleans.{false_unless}
use Rattle.receipt.specs.Receipt.{number_of, done, receipt, refusal, pass, Checked}
use Rattle.receipt.specs.Answers.{saving_receipt, reading_receipt, reading}
use Rattle.std.specs.Prelude.{Result, Err}
use Rattle.receipt.specs.declared.Read.{Read}
use Rattle.receipt.specs.declared.Fault.TheVariants.{StripTooLong, StripShort, UnmentionedVariable}
use Rattle.receipt.specs.declared.Refusal.{Refusal}
use Rattle.theory.specs.Calls.{over, SaveCall, save_refused, saved_call, save_check, save_call, read_call}
use Rattle.theory.specs.Encoding.{saved_strip, saved_length, Unchaptered, Bytes}
use Rattle.theory.specs.Mentions.{mentions_all, Mentioned}
use Rattle.theory.specs.Refusing.{refused_if, at_most, first_refusal, NotRefused, RefusedFirst}
use Rattle.theory.specs.Strip.{Decoding, read_strip}
use Rattle.theory.specs.Table.{zeros, nonzeros, check, Accepted, WithinLimits}
use Rattle.theory.specs.Unknown.{UnknownInTable, Names}
use Rattle.theory.proofs.Encodings.{saved_length_lem, saved_short}
use Rattle.theory.proofs.Refusing.{most_passes, first_passed, last_passes, table_named, passed_named, first_named, if_named, most_named, number_not_refused, first_refuses, Refusing, accepted_is, refused_with, accepted_when, unchanged, call_cases, call_names}
use Rattle.theory.proofs.Tables.{accepted_sizes, accepted_exactly}
use Rattle.theory.proofs.Unknown.{none_named}
use Rattle.strip.specs.Decoding.{called as read_called}
use Rattle.strip.proofs.Accepted.{read_accepted}
use Rattle.strip.proofs.Ends.{read_mentioned}
use Rattle.strip.proofs.Promises.{read_used, read_too_long}
use Rattle.save.specs.Save.{called}
use Rattle.save.proofs.Calling.{save_passed, passed_save}
use Rattle.save.proofs.RoundTrip.{saved_reads, read_saves}

-- a call of Save: its answer r, and the strip buffer before and after it
pub record Call (n : ℕ) (t : List ℤ) (s : List ℕ) (r : Result ℕ Refusal) (s' : List ℕ) : Type 0 where
  pub is : called r s' ≡ save_call n t s

-- a table within the limits that names every placement (A3), and room for its strip
abbrev pub Savable : ℕ → List ℤ → List ℕ → Type 0
Savable n t s = WithinLimits n t × Mentioned n t × (saved_length (zeros t) (nonzeros t) ≤ length s)

module _ {n : ℕ} {t : List ℤ} {s : List ℕ} {r : Result ℕ Refusal} {s' : List ℕ} (c : Call n t s r s') where
  -- a call by its checks: "1 to 5 as for any table", 26 "in saving after 5 and before 25"
  abbrev checks : List Checked
  checks = save_check n t ∷ at_most (length (saved_strip n t)) (length s) StripShort ∷ []

  by_checks : Refusing (λ (k : SaveCall). k.answer) (λ w. save_refused w s) (first_refusal checks) (saved_call (saved_strip n t) s) (called r s')
  unfolding save_call
  by_checks = record { is = c.is; turns = λ w. refl; accepts = λ w e. let z : ◌≡◌ {A = ℕ} 0 1 = cc in omega arith }

  passes : (first_refusal checks ≡ pass) ↔ Savable n t s
  passes = (
    λ e.
        let x = (first_passed (save_check n t) _).0 e in
        let p = save_passed n t x.0 in
        (accepted_sizes n t p.0, p.1, omega (arith, (last_passes (most_passes (length (saved_strip n t)) (length s) StripShort)).0 x.1, saved_length_lem n t p.0)),
    λ (l, m, h).
        let a : Accepted n t = (accepted_exactly n t).1 l in
        (first_passed (save_check n t) _).1 (passed_save n t a m, (last_passes (most_passes (length (saved_strip n t)) (length s) StripShort)).1 (omega (arith, saved_length_lem n t a))),
  )

  -- demand 1, of Save: a table within the limits that names every placement, with room lent, is accepted
  pub save_accepts : NotRefused r ↔ Savable n t s
  save_accepts = accepted_when by_checks passes

  saved : Savable n t s → called r s' ≡ saved_call (saved_strip n t) s
  saved h = accepted_is by_checks (passes.1 h)

  -- "Success is 18, done"; "place is its length"
  pub save_answers : NotRefused r → saving_receipt r ≡ receipt done (saved_length (zeros t) (nonzeros t)) 0
  save_answers h =
      let a = save_accepts.0 h in
      ap (λ (k : SaveCall). saving_receipt k.answer) (saved a) ∙ ap (λ (x : ℕ). receipt done x 0) (saved_length_lem n t ((accepted_exactly n t).1 a.0))

  -- "On refusal the strip buffer is untouched"
  pub save_refused_unchanged : (w : Refusal) → r ≡ Err w → s' ≡ s
  save_refused_unchanged w e = ap (λ (k : SaveCall). k.strip) (unchanged by_checks w e).2

  -- A2: 5 is for the first unknown placement, with its group; "for all other numbers it is 0"
  pub save_names : Names (UnknownInTable n t) (saving_receipt r)
  unfolding save_check
  save_names = call_names by_checks saving_receipt (λ w. refl)
      (first_named _ _ (first_named _ _ (table_named n t) (λ _. first_named _ _ (if_named (not (mentions_all n t)) UnmentionedVariable (λ e. omega arith)) (λ _. passed_named refl)))
      (λ _. first_named _ _ (most_named (length (saved_strip n t)) (length s) StripShort (λ e. omega arith)) (λ _. passed_named refl)))
      (none_named done _ 0 (λ e. omega arith))

  -- refused exactly with the first check that refuses
  pub save_refused_lem : (w : Refusal) → (r ≡ Err w) ↔ RefusedFirst checks w
  save_refused_lem w = (λ e. let o = unchanged by_checks w e in let q : o.0 ≡ w = cc (ap (λ (x : SaveCall). x.answer) o.2) in (first_refuses checks w).0 (rw q at o.1), λ f. refused_with by_checks w ((first_refuses checks w).1 f))

  -- and what is asked of the table: 1 to 5, then 26
  pub save_check_refused : (w : Refusal) → (save_check n t ≡ Err w) ↔ RefusedFirst (check n t ∷ refused_if (not (mentions_all n t)) UnmentionedVariable ∷ []) w
  unfolding save_check
  save_check_refused w = first_refuses _ w

  -- "Turned away: 1 to 5 as for any table"
  pub save_table_refused : (w : Refusal) → check n t ≡ Err w → r ≡ Err w
  unfolding save_check
  save_table_refused w e = refused_with by_checks w (rw e)

  -- A3: 26 "in saving after 5 and before 25", place 0
  pub save_unmentioned : WithinLimits n t → ¬ Mentioned n t → r ≡ Err (refusal UnmentionedVariable 0)
  unfolding save_check
  save_unmentioned w h =
      let a : Accepted n t = (accepted_exactly n t).1 w in
      refused_with by_checks (refusal UnmentionedVariable 0) (rw (a, false_unless (mentions_all n t) h))

  -- "then 25, strip room short"
  pub save_strip_short : WithinLimits n t → Mentioned n t → length s < saved_length (zeros t) (nonzeros t) → r ≡ Err (refusal StripShort 0)
  save_strip_short w m h =
      let a : Accepted n t = (accepted_exactly n t).1 w in
      refused_with by_checks (refusal StripShort 0) (rw (passed_save n t a m, lt-ltb (length s) (length (saved_strip n t)) (omega (arith, saved_length_lem n t a))))

  -- "past the written bytes it is untouched always"
  pub save_rest_kept : drop (length (saved_strip n t)) s' ≡ drop (length (saved_strip n t)) s
  save_rest_kept =
      call_cases by_checks (λ k. drop (length (saved_strip n t)) k.strip ≡ drop (length (saved_strip n t)) s) (λ w e. refl) (λ e. drop_at (saved_strip n t) _ _ refl)

  -- 18: what is written ----------------------------------------------------------------------------------------------
  module _ (q : (saving_receipt r).number ≡ done) where
    written : Accepted n t × Mentioned n t × (take (saving_receipt r).place s' ≡ saved_strip n t)
    written =
        let a = save_accepts.0 (number_not_refused saving_receipt (λ w. refl) r done refl q) in (
          (accepted_exactly n t).1 a.0,
          a.1,
          ap (λ (k : SaveCall). take (saving_receipt k.answer).place k.strip) (saved a) ∙ take_at (saved_strip n t) _ _ refl,
        )

    -- the first bytes, as many as place says, are the strip of the table
    pub save_writes : take (saving_receipt r).place s' ≡ saved_strip n t
    save_writes = written.2

    module _ (t₀ : List ℤ) (r₂ : Result Read Refusal) (t₂ : List ℤ) (reads : read_called r₂ t₂ ≡ read_call (take (saving_receipt r).place s') t₀) where
      -- "Reading the saved strip brings back n and the same table", at the start of a table with room for it
      pub save_then_read : length t ≤ length t₀ → (r₂ ≡ reading n (length t)) × (t₂ ≡ over (length t) t t₀)
      unfolding read_call
      save_then_read fits =
          let d : read_strip (take (saving_receipt r).place s') (length t₀) ≡ record { reading = reading n (length t); table = t } =
          rw save_writes (saved_reads n t written.0 written.1 (length t₀) fits) in
          let e = rw d at reads in (ap (λ k. k.answer) e, ap (λ k. k.table) e)

      -- it is never too long to be read, whatever room the table has
      pub save_never_too_long : (reading_receipt r₂).number ≢ number_of StripTooLong
      save_never_too_long e =
          let long = (read_too_long (take (saving_receipt r).place s') t₀ r₂ t₂ reads).0 e in
          omega (arith, rw save_writes at long, saved_short n t written.0)

-- "for a strip without chapter marks, reading and then saving brings back the same bytes"
module _ (s : List ℕ) (t₀ : List ℤ) (r₂ : Result Read Refusal) (t₂ : List ℤ) (reads : read_called r₂ t₂ ≡ read_call s t₀) (n u : ℕ) (read : r₂ ≡ reading n u) where
  abbrev decoded : Decoding
  decoded = read_strip s (length t₀)

  answer : decoded.reading ≡ reading n u
  unfolding read_call
  answer = sym (ap (λ k. k.answer) reads) ∙ read

  -- the used part is the table that was read
  used : take u t₂ ≡ decoded.table
  used = read_used s t₀ r₂ t₂ reads n u read

  pub save_after_read : Bytes s → Unchaptered s → (s₀ : List ℕ) (r : Result ℕ Refusal) (s₁ : List ℕ) → Call n (take u t₂) s₀ r s₁ → length s ≤ length s₀ →
      (saving_receipt r ≡ receipt done (length s) 0) × (s₁ ≡ over (length s) s s₀)
  unfolding save_call save_check
  save_after_read b plain s₀ r s₁ c fits =
      let passed : Accepted n (take u t₂) = rw used (read_accepted s (length t₀) n u answer) in
      let mentioned : Mentioned n (take u t₂) = rw used (read_mentioned s (length t₀) n u answer) in
      let same : saved_strip n (take u t₂) ≡ s = rw used (read_saves s b plain (length t₀) n u answer) in
      let e = rw (passed, mentioned, same, le-ltb (length s₀) (length s) fits) at c.is in
      (ap (λ (k : SaveCall). saving_receipt k.answer) e, ap (λ (k : SaveCall). k.strip) e)
