-- What a call of Read promises (demand 1): `called r t' ≡ read_call s t` is what `read` ensures of its answer r and of the table t' after it.
use mathlib.Core.Path.{◌≡◌, refl, ap, sym, ◌∙◌}
use mathlib.Core.Logic.{◌↔◌, ◌≢◌}
use mathlib.Core.List.{List, []}
use Prim.Native.Nat.{ℕ, ◌≤◌, ◌<◌}
use native.Mathlib.Omega.{arith}
use borrow.Author.Tests.{lt-ltb}
use lib.IntN.{ℤ}
use lib.ListN.{length, take}
use lib.Seq.{take_at}
use Rattle.receipt.specs.declared.Fault.TheVariants.{StripTooLong, UnmentionedVariable}
use Rattle.receipt.specs.declared.Refusal.{Refusal}
use Rattle.std.specs.Prelude.{Result, Err, Ok}
use Rattle.receipt.specs.declared.Read.{Read}
use Rattle.receipt.specs.Receipt.{number_of, refusal, receipt}
use Rattle.receipt.specs.Answers.{reading_receipt, read_variables, read_length, reading}
use Rattle.theory.specs.Formula.{clauses}
use Rattle.theory.specs.Mentions.{Mentioned, AllStand}
use Rattle.theory.specs.Refusing.{NotRefused}
use Rattle.theory.specs.Strip.{nothing_read, Decoding, max_strip, read_by, read_strip, read_freely}
use Rattle.theory.specs.Encoding.{Item, groups, table_of, StripWithin, UnmentionedInStrip, Bytes}
use Rattle.theory.specs.Unknown.{UnknownInStrip, Names}
use Rattle.theory.specs.Calls.{over, ReadCall, read_as, read_call}
use Rattle.theory.proofs.Mentions.{mentioned_exactly}
use Rattle.theory.proofs.Tables.{range_within}
use Rattle.strip.specs.Decoding.{called}
use Rattle.strip.specs.Faults.{RefusedStrip}
use Rattle.strip.proofs.Accepted.{read_accepted}
use Rattle.strip.proofs.Before.{readings_as_before}
use Rattle.strip.proofs.Ends.{Ended, answered, read_mentioned, too_long, sized}
use Rattle.strip.proofs.Faults.{refused_exactly}
use Rattle.strip.proofs.Receipts.{strip_names}
use Rattle.strip.proofs.Unmentioned.{unmentioned_exactly}
use Rattle.strip.proofs.Encoded.{within_reads}

module _ (s : List ℕ) (t : List ℤ) (r : Result Read Refusal) (t' : List ℤ) (is : called r t' ≡ read_call s t) where
  reading_is : r ≡ (read_strip s (length t)).reading
  unfolding read_call
  reading_is = ap (λ (c : ReadCall). c.answer) is

  table_is : t' ≡ over (length (read_strip s (length t)).table) (read_strip s (length t)).table t
  unfolding read_call
  table_is = ap (λ (c : ReadCall). c.table) is

  -- "Every .. strip within the limits of document 01, with room lent for the results, is accepted", "Every other input is refused"
  pub read_accepts : Bytes s → (n u : ℕ) → (r ≡ reading n u) ↔ ((l : List Item) × StripWithin s n l × (u ≡ length (table_of (groups l))) × (u ≤ length t))
  read_accepts b n u = (
    λ e.
        let a : Ended s (length t) 0 nothing_read [] (reading n u) (read_strip s (length t)).table = rw (sym reading_is ∙ e) at (answered s (length t)) in
        let l = a.3 in
        let k = l.allows in (
          l.items,
          record {
            limits = record {
              is = l.strip b;
              short = a.2;
              variables = k.variables;
              clauses = omega (arith, k.clauses);
              literals = omega (arith, k.literals);
              known = range_within n (groups l.items) k.known;
            };
            mentioned = rw l.table at (a.4 refl);
          },
          a.0 ∙ ap length l.table,
          a.1,
        ),
    λ w. reading_is ∙ ap (λ (d : Decoding). d.reading) (within_reads s b (length t) n w.0 w.1 (omega (arith, w.2, w.3))) ∙ ap (reading n) (sym w.2),
  )

  -- 16 strip read; `read_accepts` says of which n and used length
  pub read_answers : NotRefused r → reading_receipt r ≡ receipt 16 0 0
  read_answers = go r
    where
      go : (x : Result Read Refusal) → NotRefused x → reading_receipt x ≡ receipt 16 0 0
      go (Ok d) h = refl
      go (Err f) h = absurd (h f refl)

  -- "a refused call changes no lent element"; n and the used length are "both 0 on refusal"
  pub read_refused_unchanged : (f : Refusal) → r ≡ Err f → (t' ≡ t) × (read_variables r ≡ 0) × (read_length r ≡ 0)
  read_refused_unchanged f e =
      let a : Ended s (length t) 0 nothing_read [] (Err f) (read_strip s (length t)).table = rw (sym reading_is ∙ e) at (answered s (length t)) in
      (table_is ∙ rw a.0, ap read_variables e, ap read_length e)

  -- A2: 5 names the group that is open at its place; "for all other numbers it is 0"
  pub read_names : Bytes s → Names (UnknownInStrip s) (reading_receipt r)
  read_names b = rw reading_is (strip_names s b (length t))

  -- "Strips: 24 first, place 0; then command by command 20, 22, 21, value (1 or 5), limit (2 .., 3 ..), 23": what it is refused with, and for no other strip
  pub read_refused : (w : Refusal) → (r ≡ Err w) ↔ RefusedStrip s (length t) w
  read_refused w = let x = refused_exactly s (length t) w in (λ e. x.0 (sym reading_is ∙ e), λ f. reading_is ∙ x.1 f)

  -- "24 first, place 0": over 16,384 bytes, and at no other time
  pub read_too_long : ((reading_receipt r).number ≡ number_of StripTooLong → max_strip < length s) × (max_strip < length s → r ≡ Err (refusal StripTooLong 0))
  unfolding read_by
  read_too_long = (go r reading_is, λ h. rw (reading_is, lt-ltb max_strip (length s) h))
    where
      go : (x : Result Read Refusal) → x ≡ (read_strip s (length t)).reading → (reading_receipt x).number ≡ number_of StripTooLong → max_strip < length s
      go (Ok d) q e = absurd (omega arith)
      go (Err f) q e = too_long s (length t) f (sym q) e

  -- and its table stands at the start of the one lent
  pub read_accepts_table : Bytes s → (n : ℕ) (l : List Item) → StripWithin s n l → length (table_of (groups l)) ≤ length t →
      t' ≡ over (length (table_of (groups l))) (table_of (groups l)) t
  read_accepts_table b n l w fits = table_is ∙ rw (within_reads s b (length t) n l w fits)

  -- the used part is the table that was read
  pub read_used : (n u : ℕ) → r ≡ reading n u → take u t' ≡ (read_strip s (length t)).table
  read_used n u e =
      let T = (read_strip s (length t)).table in
      ap (take u) table_is ∙ take_at T _ u (sym (sized s (length t)).0 ∙ ap read_length (sym reading_is ∙ e))

  -- A3 -----------------------------------------------------------------------------------------------------------------

  -- what is read is what document 01's reading reads, and names every placement
  pub read_accepts_as_before : (n u : ℕ) → (r ≡ reading n u) ↔ (((read_freely s (length t)).reading ≡ reading n u) × Mentioned n (read_freely s (length t)).table)
  read_accepts_as_before n u = (
    λ e.
        let q = (readings_as_before s (length t)).others (λ z. omega (arith, ap (λ (x : Result Read Refusal). (reading_receipt x).number) (sym reading_is ∙ e))) in
        (ap (λ (d : Decoding). d.reading) (sym q) ∙ sym reading_is ∙ e, rw q at (read_mentioned s (length t) n u (sym reading_is ∙ e))),
    λ w. reading_is ∙ ap (λ (d : Decoding). d.reading) ((readings_as_before s (length t)).passes n u w.0 w.1) ∙ w.0,
  )

  -- every call that isn't answered with 26 answers, and leaves in the table, what it did before
  pub read_as_before : (reading_receipt r).number ≢ 26 → called r t' ≡ read_as (read_freely s (length t)) t
  unfolding read_call
  read_as_before h = is ∙ ap (λ (d : Decoding). read_as d t) ((readings_as_before s (length t)).others (rw reading_is at h))

  -- "26 .. at the end mark .., with the end mark's place": for a strip that doesn't name every placement before it, and for no other
  pub read_unmentioned : Bytes s → (i : ℕ) → (r ≡ Err (refusal UnmentionedVariable i)) ↔ UnmentionedInStrip s (length t) i
  read_unmentioned b i = let x = unmentioned_exactly s b (length t) i in (λ e. x.0 (sym reading_is ∙ e), λ w. reading_is ∙ x.1 w)

  -- no placement is left out for want of a rule: each stands in a group of the table that was read
  pub read_mentions_all : (n u : ℕ) → r ≡ reading n u → AllStand n (clauses (take u t'))
  read_mentions_all n u e =
      let q : (read_strip s (length t)).reading ≡ reading n u = sym reading_is ∙ e in
      rw (read_used n u e) ((mentioned_exactly n _ (read_accepted s (length t) n u q)).0 (read_mentioned s (length t) n u q))
