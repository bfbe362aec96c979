-- What a strip's receipt says: with 5 the group is the one that is open at the place, and with every other number it is 0 (A2); with 26 the place is an end mark before
-- which some placement isn't named (A3).
use Rattle.receipt.specs.declared.Fault.{Fault}
use mathlib.Core.Path.{◌≡◌, subst}
use mathlib.Core.Logic.{◌≢◌}
use mathlib.Core.List.{List, [], ◌∷◌, ◌++◌}
use Prim.Native.Nat.{ℕ, zero, suc, ◌+◌, ◌≤◌}
use native.Mathlib.Nat.{add-zero}
use native.Mathlib.Omega.{arith}
use borrow.Author.Tests.{ltb-true, ltb-false}
use lib.Dec.{ltb}
use lib.IntN.{ℤ}
use lib.ListN.{length, length-append}
use Rattle.general.specs.Booleans.{cond_ind}
use Rattle.receipt.specs.Answers.{reading_receipt}
use Rattle.receipt.specs.Receipt.{receipt, refusal}
use Rattle.std.specs.Prelude.{Result, Ok}
use Rattle.receipt.specs.declared.Read.{Read}
use Rattle.receipt.specs.declared.Refusal.{Refusal}
use Rattle.receipt.specs.declared.Receipt.{Receipt}
use Rattle.theory.specs.declared.Turn.{Turn}
use Rattle.theory.specs.declared.Turn.TheVariants.{After}
use Rattle.std.specs.Prelude.{Option, None, Some, Err}
use Rattle.theory.specs.declared.Command.{Command}
use Rattle.theory.specs.declared.Obeyed.{Obeyed}
use Rattle.theory.specs.declared.Progress.{Progress}
use Rattle.theory.specs.Mentions.{mentions_all}
use Rattle.theory.specs.Encoding.{UnmentionedInStrip, Bytes}
use Rattle.theory.specs.Strip.{turn_of, same, nothing_read, obey, Decoding, storing, onward, follow, read_from, command_at, max_strip, read_by, read_strip, obeyed}
use Rattle.theory.specs.Unknown.{UnknownInStrip, Names}
use Rattle.theory.proofs.Unknown.{none_named, refusal_names}
use Rattle.reader.proofs.Commands.{Says, command_says, command_bytes_lem}
use Rattle.strip.proofs.Sound.{Sound, begun_sound, elements, obey_keeps, Keeps}
use Rattle.strip.proofs.Behind.{Behind, begun_behind, Follows, obey_follows}

module _ (s : List ℕ) (bytes : Bytes s) (room : ℕ) where
  record Tells (r : Receipt) : Type 0 where
    pub names : Names (UnknownInStrip s) r
    pub unmentioned : r.number ≡ 26 → UnmentionedInStrip s room r.place

  -- a receipt with another number
  other_tells : (m p : ℕ) → m ≢ 5 → m ≢ 26 → Tells (receipt m p 0)
  other_tells m p h k = record { names = none_named m p 0 h; unmentioned = λ z. absurd (k z) }

  abbrev TellsIn : Result Read Refusal → Type 0
  TellsIn r = Tells (reading_receipt r)

  abbrev TellsAt : Decoding → Type 0
  TellsAt d = TellsIn d.reading

  -- after a command, where the rest of the strip is read from
  module _ (k i next : ℕ) (t : List ℤ)
      (fits : length t ≤ room)
      (ih : (q : Progress) (t' : List ℤ) → Sound q (length t') → length t' ≤ room → Behind s next q.turn q t' → TellsAt (read_from mentions_all s room k next q t')) where
    stored_tells : (q : Progress) (e : Option ℤ) → Sound q (length t + elements e) → Follows s room i next t (obeyed q e) →
        TellsAt (storing room (read_from mentions_all s room k next q) i t e)
    stored_tells q None d b = ih q t (rw add-zero at d) fits b
    stored_tells q (Some x) d b = cond_ind TellsAt _ _ (ltb (length t) room)
        (λ h. ih q (t ++ (x ∷ [])) (rw (length-append t (x ∷ [])) d) (omega (arith, length-append t (x ∷ []), ltb-true (length t) room h)) b) (λ _. other_tells 23 i (λ z. omega arith) (λ z. omega arith))

    obeyed_tells : (p : Progress) (u : Turn) (o : Result Obeyed Fault) → Keeps s i next p t u o → Follows s room i next t o → TellsAt (onward room (read_from mentions_all s room k next) i t o)
    obeyed_tells p u (Ok o) d b = stored_tells o.progress o.stored d.0 b
    obeyed_tells p u (Err why) d f = record { names = refusal_names (refusal why i) f.0; unmentioned = f.1 }

  from_tells : length s ≤ max_strip → (k i : ℕ) (p : Progress) (t : List ℤ) → Sound p (length t) → length t ≤ room → Behind s i p.turn p t → TellsAt (read_from mentions_all s room k i p t)
  unfolding read_from
  from_tells short zero i p t d fits b = other_tells 21 i (λ z. omega arith) (λ z. omega arith)
  from_tells short (suc k) i p t d fits b =
      cond_ind TellsAt _ _ (ltb i (length s))
      (λ _. followed (from_tells short k) (command_at s i p.turn) (command_says s i p.turn))
      (λ _. cond_ind TellsIn _ _ (same p.turn After) (λ _. other_tells 16 0 (λ z. omega arith) (λ z. omega arith)) (λ _. other_tells 21 (length s) (λ z. omega arith) (λ z. omega arith)))
    where
      followed : ((j : ℕ) (q : Progress) (t' : List ℤ) → Sound q (length t') → length t' ≤ room → Behind s j q.turn q t' → TellsAt (read_from mentions_all s room k j q t')) →
          (c : Result Command Refusal) → Says s i p.turn c → TellsAt (follow mentions_all s room (read_from mentions_all s room k) i p t c)
      followed ih (Ok found) c =
          obeyed_tells k i found.next t fits (ih found.next) p (turn_of found.mark) (obey p (mentions_all p.variables t) found.operand found.mark)
          (obey_keeps s i found.next p t d found.mark found.operand c.turn (command_bytes_lem s i c))
          (obey_follows s room short i found.next c.long p t d fits found.mark found.operand c.turn (command_bytes_lem s i c bytes) (subst (λ (u : Turn). Behind s i u p t) c.turn b))
      followed ih (Err f) c = record { names = refusal_names f (λ z. absurd (omega (arith, c.1))); unmentioned = λ z. absurd (omega (arith, c.2)) }

  -- the whole strip
  tells : TellsAt (read_strip s room)
  unfolding read_by
  tells = cond_ind TellsAt _ _ (ltb max_strip (length s)) (λ _. other_tells 24 0 (λ z. omega arith) (λ z. omega arith))
      (λ h. from_tells (ltb-false max_strip (length s) h) (suc (length s)) 0 nothing_read [] begun_sound (omega arith) (begun_behind s))

  pub strip_names : Names (UnknownInStrip s) (reading_receipt (read_strip s room).reading)
  strip_names = tells.names

  pub strip_unmentioned : (reading_receipt (read_strip s room).reading).number ≡ 26 → UnmentionedInStrip s room (reading_receipt (read_strip s room).reading).place
  strip_unmentioned = tells.unmentioned
