-- What a call of `strip_of` promises: `called r out ≡ output_call (output_of s) old` is what it ensures of its answer r to the text s, and of the bytes before and after it.
use Rattle.receipt.specs.Answers.{reading}
use mathlib.Core.Path.{◌≡◌, refl, ap, sym, ◌∙◌}
use mathlib.Core.Logic.{◌↔◌}
use mathlib.Core.Bool.{Bool, true, false, cond}
use mathlib.Core.List.{List, [], ◌∷◌}
use Prim.Native.Nat.{ℕ, suc, ◌≤◌}
use native.Mathlib.Decide.{dec_le}
use native.Mathlib.Omega.{arith}
use borrow.Author.Tests.{ltb-false, le-ltb}
use lib.Dec.{ltb}
use lib.IntN.{ℤ}
use lib.ListN.{length, take, drop, length-take}
use lib.Seq.{take_all, take-append_seam, drop-append_seam}
use Rattle.general.specs.Times.{times}
use Rattle.std.specs.Prelude.{Ok, Err}
use Rattle.receipt.specs.Receipt.{Checked}
use Rattle.theory.specs.Calls.{save_check}
use Rattle.theory.specs.Strip.{read_strip}
use Rattle.theory.specs.Encoding.{saved_strip}
use Rattle.save.proofs.Calling.{save_passed}
use Rattle.save.proofs.RoundTrip.{saved_reads}
use Rattle.scan.specs.Scan.{Filing, filing, wrong, filing_of}
use Rattle.text.specs.Text.{codes, refused_text}
use Rattle.typed.specs.Typed.{Typed, max_text, Output, strip, message, too_long_text, wrong_text, table_output, filing_output, output_of, TypedCall, called, output_call, length_of, written, Filed, OneLine}
use Rattle.typed.proofs.Outputs.{too_long}
use Rattle.typed.proofs.Messages.{one_line, refused_line}

filed_output : {s : List ℕ} {n : ℕ} {t : List ℤ} → Filed s n t → output_of s ≡ strip (saved_strip n t)
unfolding output_of
filed_output {s} f = rw (le-ltb max_text (length s) f.short, f.is, f.accepted)

-- what an output says of its text
abbrev Says : List ℕ → Output → Type 0
Says s (strip b) = (n : ℕ) × (t : List ℤ) × Filed s n t × (b ≡ saved_strip n t)
Says s (message b) = OneLine b × ((n : ℕ) (t : List ℤ) → Filed s n t → ⊥)

says : (s : List ℕ) → Says s (output_of s)
unfolding output_of times
says s = go (ltb max_text (length s)) refl (filing_of s) refl
  where
    no : (b : List ℕ) → message b ≡ output_of s → (n : ℕ) (t : List ℤ) → Filed s n t → ⊥
    no b e n t f = let q = e ∙ filed_output f in let z : ◌≡◌ {A = ℕ} 0 1 = cc in omega arith

    table : ltb max_text (length s) ≡ false → (n : ℕ) (t : List ℤ) → filing_of s ≡ filing n t → (c : Checked) → save_check n t ≡ c → Says s (table_output c n t)
    table h n t q (Ok u) e = (n, t, record { short = ltb-false max_text (length s) h; is = q; accepted = e }, refl)
    table h n t q (Err f) e = (refused_line f, no (refused_text f) (rw (h, q, e)))

    go : (b : Bool) → ltb max_text (length s) ≡ b → (f : Filing) → filing_of s ≡ f → Says s (cond b (message too_long_text) (filing_output f))
    go true h f q = (one_line (codes "text too long at byte") (max_text ∷ []) refl, no too_long_text (rw h))
    go false h (filing n t) q = table h n t q (save_check n t) refl
    go false h (wrong at) q = (one_line (codes "no valid number at byte") (at ∷ []) refl, no (wrong_text at) (rw (h, q)))

module _ (s : List ℕ) (r : Typed) (old out : List ℕ) (call : called r out ≡ output_call (output_of s) old) where
  writes : written r out ≡ output_of s
  writes = ap (λ (c : TypedCall). written c.answer c.out) call ∙ go (output_of s)
    where
      go : (o : Output) → written (output_call o old).answer (output_call o old).out ≡ o
      go (strip b) = ap strip (take-append_seam b (drop (length b) old))
      go (message b) = ap message (take-append_seam b (drop (length b) old))

  -- bytes past the output are never changed
  pub typed_rest_kept : drop (length_of r) out ≡ drop (length_of r) old
  typed_rest_kept = rw (ap (λ (c : TypedCall). c.answer) call, ap (λ (c : TypedCall). c.out) call) (go (output_of s))
    where
      go : (o : Output) → drop (length_of (output_call o old).answer) (output_call o old).out ≡ drop (length_of (output_call o old).answer) old
      go (strip b) = drop-append_seam b (drop (length b) old)
      go (message b) = drop-append_seam b (drop (length b) old)

  -- a strip is written exactly where the text is a filing whose table Save accepts, and it is the strip that Save makes of it
  pub typed_strip : (b : List ℕ) → (written r out ≡ strip b) ↔ ((n : ℕ) × (t : List ℤ) × Filed s n t × (b ≡ saved_strip n t))
  typed_strip b = (λ e. rw (sym writes ∙ e) at (says s), λ w. writes ∙ filed_output w.2 ∙ ap strip (sym w.3))

  -- reading it brings back what was typed
  pub typed_reads : (b : List ℕ) → written r out ≡ strip b →
      (n : ℕ) × (t : List ℤ) × (filing_of s ≡ filing n t) × ((room : ℕ) → length t ≤ room → read_strip b room ≡ record { reading = reading n (length t); table = t })
  typed_reads b e =
      let w = (typed_strip b).0 e in
      (w.0, w.1, w.2.is, λ room h. ap (λ (x : List ℕ). read_strip x room) w.3 ∙ let p = save_passed w.0 w.1 w.2.accepted in saved_reads w.0 w.1 p.0 p.1 room h)

  -- every other text gets a message of one line
  pub typed_message : ((n : ℕ) (t : List ℤ) → Filed s n t → ⊥) ↔ ((b : List ℕ) × (written r out ≡ message b) × OneLine b)
  typed_message = (λ h. go h (written r out) refl, λ w n t f. (rw (sym writes ∙ w.1) at (says s)).1 n t f)
    where
      go : ((n : ℕ) (t : List ℤ) → Filed s n t → ⊥) → (o : Output) → written r out ≡ o → (b : List ℕ) × (o ≡ message b) × OneLine b
      go h (strip b) e = let w = (typed_strip b).0 e in absurd (h w.0 w.1 w.2)
      go h (message b) e = (b, refl, (rw (sym writes ∙ e) at (says s)).0)

-- the program reads one byte past the longest text: that gets what the whole input would
pub typed_one_past : (s : List ℕ) → output_of (take (suc max_text) s) ≡ output_of s
typed_one_past s = elim (dec_le (length s) (suc max_text)) [
  | yes h ↦ ap output_of (take_all (suc max_text) s h)
  | no h ↦ sym (too_long (take (suc max_text) s) (omega (arith, length-take (suc max_text) s))) ∙ too_long s (omega arith)
]
