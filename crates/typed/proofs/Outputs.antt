-- What a text gets, case by case, and how it stands at the front of the bytes lent.
use mathlib.Core.Path.{◌≡◌, refl}
use mathlib.Core.List.{List, [], ◌∷◌}
use Prim.Native.Nat.{ℕ, ◌<◌, ◌≤◌}
use native.Mathlib.Omega.{arith}
use borrow.Author.Tests.{lt-ltb, le-ltb}
use lib.IntN.{ℤ}
use lib.ListN.{length, drop, length-append}
use Rattle.general.specs.Appending.{Appended, appended_length}
use Rattle.std.specs.Prelude.{Result, Ok, Err}
use Rattle.receipt.specs.Receipt.{Checked, pass}
use Rattle.receipt.specs.declared.Refusal.{Refusal}
use Rattle.receipt.specs.declared.Fault.TheVariants.{StripShort}
use Rattle.theory.specs.Encoding.{saved_strip, max_saved}
use Rattle.theory.specs.Refusing.{at_most, first_refusal, unless}
use Rattle.theory.specs.Calls.{SaveCall, save_refused, saved_call, save_check, save_call}
use Rattle.theory.proofs.Encodings.{saved_most}
use Rattle.save.specs.Save.{called as save_called}
use Rattle.save.proofs.Calling.{save_passed}
use Rattle.scan.specs.Scan.{filing_of}
use Rattle.text.specs.Text.{refused_text}
use Rattle.std.specs.Prelude.{Ok, Err}
use Rattle.typed.specs.declared.Message.{Message}
use Rattle.typed.specs.Typed.{max_text, Output, message, too_long_text, table_output, filing_output, output_of, called, output_call}

module _ (s : List ℕ) where
  pub too_long : max_text < length s → message too_long_text ≡ output_of s
  unfolding output_of
  too_long h = rw (lt-ltb max_text (length s) h)

  pub short : length s ≤ max_text → filing_output (filing_of s) ≡ output_of s
  unfolding output_of
  short h = rw (le-ltb max_text (length s) h)

-- bytes appended at the front
pub message_written : {l l' new : List ℕ} {o : Output} (m : Message) → Appended l 0 new l' m.length → message new ≡ o → (called (Err m) l' ≡ output_call o l) × (m.length ≤ length l')
message_written {l} {l'} {new} m a e =
    let q : m.length ≡ length new = omega (arith, a.ends) in
    (rw (← e, a.whole, q), omega (arith, a.room, appended_length a))

-- what the answer of Save says of the output
abbrev pub Writes : List ℕ → Output → Result ℕ Refusal → List ℕ → Type 0
Writes l o (Ok k) l' = (called (Ok k) l' ≡ output_call o l) × (k ≤ length l')
Writes l o (Err f) l' = (message (refused_text f) ≡ o) × (l' ≡ l)

-- a call with bytes for the longest strip
module _ (n : ℕ) (t : List ℤ) (l : List ℕ) (long : max_saved ≤ length l) where
  -- by what the table's check says
  abbrev saved_by : Checked → SaveCall
  saved_by c = unless (first_refusal (c ∷ at_most (length (saved_strip n t)) (length l) StripShort ∷ [])) (λ r. save_refused r l) (saved_call (saved_strip n t) l)

  save_writes : Writes l (table_output (save_check n t) n t) (save_call n t l).answer (save_call n t l).strip
  unfolding save_call
  save_writes = go (save_check n t) refl
    where
      go : (c : Checked) → save_check n t ≡ c → Writes l (table_output c n t) (saved_by c).answer (saved_by c).strip
      go (Err f) e = (refl, refl)
      go (Ok u) e =
          let b = saved_strip n t in
          let h : length b ≤ length l = omega (arith, saved_most n t (save_passed n t e).0) in
          rw (le-ltb (length l) (length b) h) (refl, omega (arith, length-append b (drop (length b) l)))

  pub writes : {r : Result ℕ Refusal} {l' : List ℕ} {o : Output} → save_called r l' ≡ save_call n t l → table_output (save_check n t) n t ≡ o → Writes l o r l'
  writes is e = rw (← is, e) at save_writes
