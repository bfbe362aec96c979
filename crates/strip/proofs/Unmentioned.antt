-- A3: 26 is for a strip that doesn't name every placement before its end mark, and for no other. What stands after the end mark changes nothing: where the strip up to
-- an index is refused with 26, so is the whole strip.
use mathlib.Core.Path.{◌≡◌, refl, ap, sym, ◌∙◌}
use mathlib.Core.Bool.{Bool, true, false, cond}
use mathlib.Core.Logic.{◌↔◌}
use mathlib.Core.List.{List, []}
use Prim.Native.Nat.{ℕ, zero, suc, ◌+◌, ◌-◌, ◌<◌, ◌≤◌}
use native.Mathlib.Decide.{dec_lt}
use native.Mathlib.Omega.{arith}
use borrow.Author.Tests.{lt-ltb, le-ltb}
use lib.IntN.{ℤ}
use lib.ListN.{length, take, length-take}
use lib.Seq.{get_or-take, length-take-le}
use Rattle.general.specs.Booleans.{false_unless}
use Rattle.general.specs.Lists.{get_or_past}
use Rattle.receipt.specs.declared.Fault.TheVariants.{CutStrip, UnmentionedVariable}
use Rattle.std.specs.Prelude.{Result, Err, Ok}
use Rattle.receipt.specs.declared.Read.{Read}
use Rattle.receipt.specs.declared.Refusal.{Refusal}
use Rattle.receipt.specs.Receipt.{refusal}
use Rattle.receipt.specs.Answers.{reading_receipt, reading}
use Rattle.theory.specs.declared.Mark.{Mark}
use Rattle.theory.specs.declared.Mark.TheVariants.{Placements, Chapter, Opens, Taken, LeftOut, Closes, Ends}
use Rattle.theory.specs.declared.Turn.{Turn}
use Rattle.theory.specs.declared.Turn.TheVariants.{After}
use Rattle.theory.specs.declared.Command.{Command}
use Rattle.theory.specs.declared.Progress.{Progress}
use Rattle.theory.specs.Mentions.{mentions_all}
use Rattle.theory.specs.Strip.{same, operand_bytes, operand_at, nothing_read, obey, Decoding, not_read, follow, finish, read_from, command_at, max_strip, read_by, read_strip, commands}
use Rattle.theory.specs.Encoding.{UnmentionedInStrip, Bytes}
use Rattle.reader.proofs.Commands.{Stands, Says, command_says, stands_command}
use Rattle.strip.proofs.Encoded.{limits_read}
use Rattle.strip.proofs.Receipts.{strip_unmentioned}
use Rattle.strip.proofs.Related.{onward_related}

-- the first m bytes of a strip
module _ (s : List ℕ) (m : ℕ) (long : m ≤ length s) where
  abbrev front : List ℕ
  front = take m s

  front_length : length front ≡ m
  front_length = length-take-le m s long

  word_same : (i : ℕ) → i + 2 < m → operand_at front i 2 ≡ operand_at s i 2
  word_same i h = rw (get_or-take m s (i + 1) 0 (omega arith), get_or-take m s (i + 2) 0 (omega arith))

  operand_same : (i : ℕ) (k : Mark) → i + 1 + operand_bytes k ≤ m → operand_at front i (operand_bytes k) ≡ operand_at s i (operand_bytes k)
  operand_same i Placements h = word_same i (omega arith)
  operand_same i Chapter h = get_or-take m s (i + 1) 0 (omega arith)
  operand_same i Opens h = refl
  operand_same i Taken h = word_same i (omega arith)
  operand_same i LeftOut h = word_same i (omega arith)
  operand_same i Closes h = refl
  operand_same i Ends h = refl

  -- a command of the front is one of the strip
  command_same : (i : ℕ) (u : Turn) (k : Mark) (v next : ℕ) → Stands front i u k v next → command_at s i u ≡ commands k v next
  command_same i u k v next c =
      let inside : next ≤ m = omega (arith, c.long, front_length) in
      stands_command s i (record {
        turn = c.turn;
        byte = sym (get_or-take m s i 0 (omega (arith, c.further))) ∙ c.byte;
        operand = c.operand ∙ operand_same i k (omega (arith, c.further));
        further = c.further;
        long = omega arith;
      })

  -- where the front is refused with 26, so is the strip, with as much fuel or more
  module _ (room : ℕ) where
    abbrev Carried : Decoding → Decoding → Type 0
    Carried part whole = (reading_receipt part.reading).number ≡ 26 → whole ≡ part

    finish_other : (p : Progress) (t : List ℤ) → ¬ ((reading_receipt (finish front p t).reading).number ≡ 26)
    finish_other p t = go (same p.turn After)
      where
        go : (b : Bool) → ¬ ((reading_receipt (cond b (reading p.variables (length t)) (Err (refusal CutStrip (length front))))).number ≡ 26)
        go true z = omega arith
        go false z = omega arith

    from_carried : (k k' i : ℕ) (p : Progress) (t : List ℤ) → k ≤ k' → Carried (read_from mentions_all front room k i p t) (read_from mentions_all s room k' i p t)
    unfolding read_from
    from_carried zero k' i p t h = λ z. absurd (omega arith)
    from_carried (suc k) zero i p t h = absurd (omega arith)
    from_carried (suc k) (suc k') i p t h = elim (dec_lt i m) [
      | yes l ↦ rw (lt-ltb i (length front) (omega (arith, front_length)), lt-ltb i (length s) (omega arith)) (followed (λ j q t'. from_carried k k' j q t' (omega arith))
          (command_at front i p.turn) (command_says front i p.turn))
      | no l ↦ rw (le-ltb i (length front) (omega (arith, front_length))) (λ z. absurd (finish_other p t z))
    ]
      where
        followed : ((j : ℕ) (q : Progress) (t' : List ℤ) → Carried (read_from mentions_all front room k j q t') (read_from mentions_all s room k' j q t')) →
            (c : Result Command Refusal) → Says front i p.turn c →
            Carried (follow mentions_all front room (read_from mentions_all front room k) i p t c) (follow mentions_all s room (read_from mentions_all s room k') i p t (command_at s i p.turn))
        followed ih (Ok found) c =
            rw (command_same i p.turn found.mark found.operand found.next c) (onward_related Carried (λ d z. refl) room i t (read_from mentions_all front room k found.next) (read_from mentions_all s room k' found.next) (ih found.next)
            (obey p (mentions_all p.variables t) found.operand found.mark))
        followed ih (Err f) c = λ z. absurd (omega (arith, c.2))

module _ (s : List ℕ) (b : Bytes s) (room : ℕ) where
  front_bytes : (m : ℕ) → Bytes (take m s)
  front_bytes m i = elim (dec_lt i m) [
    | yes h ↦ rw (get_or-take m s i 0 h) (b i)
    | no h ↦ rw (get_or_past (take m s) i 0 (omega (arith, length-take m s))) (omega arith)
  ]

  module _ (i : ℕ) (w : UnmentionedInStrip s room i) where
    inside : i + 1 ≤ length s
    inside = elim (dec_lt i (length s)) [ yes h ↦ omega arith | no h ↦ absurd (omega (arith, get_or_past s i 0 (omega arith), w.mark)) ]

    front_refused : read_strip (take (i + 1) s) room ≡ not_read (refusal UnmentionedVariable i)
    front_refused =
        let last : length (take (i + 1) s) - 1 ≡ i = omega (arith, length-take-le (i + 1) s inside) in
        rw (false_unless _ w.unmentioned, last) at (limits_read (take (i + 1) s) (front_bytes (i + 1)) room w.variables w.items w.limits w.fits)

    refused : read_strip s room ≡ not_read (refusal UnmentionedVariable i)
    unfolding read_by
    refused =
        let f = take (i + 1) s in
        let long = length-take-le (i + 1) s inside in
        let e = rw (le-ltb max_strip (length f) w.limits.short) at front_refused in
        rw (le-ltb max_strip (length s) w.short)
        (from_carried s (i + 1) inside room (suc (length f)) (suc (length s)) 0 nothing_read [] (omega (arith, long, inside)) (ap (λ (d : Decoding). (reading_receipt d.reading).number) e) ∙ e)

  pub unmentioned_exactly : (i : ℕ) → ((read_strip s room).reading ≡ Err (refusal UnmentionedVariable i)) ↔ UnmentionedInStrip s room i
  unmentioned_exactly i = (
    λ e. rw (ap (λ (r : Result Read Refusal). (reading_receipt r).place) e) at (strip_unmentioned s b room (ap (λ (r : Result Read Refusal). (reading_receipt r).number) e)),
    λ w. ap (λ (d : Decoding). d.reading) (refused i w),
  )
