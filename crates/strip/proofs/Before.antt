-- A3 beside document 01: a strip reads as it did before, but where the end mark stands before a placement was named.
use Rattle.receipt.specs.declared.Fault.{Fault}
use mathlib.Core.Path.{◌≡◌, refl, ap, sym, ◌∙◌}
use mathlib.Core.Bool.{Bool, true, false, cond}
use mathlib.Core.Logic.{◌≢◌}
use mathlib.Core.List.{List, []}
use Prim.Native.Nat.{ℕ, zero, suc}
use native.Mathlib.Omega.{arith}
use lib.Dec.{ltb}
use lib.IntN.{ℤ}
use lib.ListN.{length}
use Rattle.general.specs.Booleans.{true_not_false}
use Rattle.receipt.specs.declared.Fault.TheVariants.{StripTooLong}
use Rattle.std.specs.Prelude.{Result, Ok}
use Rattle.receipt.specs.declared.Read.{Read}
use Rattle.receipt.specs.declared.Refusal.{Refusal}
use Rattle.receipt.specs.Receipt.{refusal}
use Rattle.receipt.specs.Answers.{reading_receipt, read_variables, reading}
use Rattle.theory.specs.declared.Mark.{Mark}
use Rattle.theory.specs.declared.Mark.TheVariants.{Placements, Chapter, Opens, Taken, LeftOut, Closes, Ends}
use Rattle.theory.specs.declared.Turn.TheVariants.{After}
use Rattle.std.specs.Prelude.{Err}
use Rattle.theory.specs.declared.Command.{Command}
use Rattle.theory.specs.declared.Obeyed.{Obeyed}
use Rattle.theory.specs.declared.Progress.{Progress}
use Rattle.theory.specs.Mentions.{mentions_all, Mentioned}
use Rattle.theory.specs.Strip.{turn_of, same, progress, nothing_read, ended, obey, Decoding, not_read, onward, follow, finish, read_from, command_at, max_strip, read_by, read_strip, free, read_freely}
use Rattle.reader.proofs.Commands.{Says, command_says}
use Rattle.strip.proofs.Related.{onward_related}

-- the reading of document 01 and the reading of today
pub record AsBefore (old new : Decoding) : Type 0 where
  -- they are one, but where today's is 26
  pub others : (reading_receipt new.reading).number ≢ 26 → new ≡ old
  -- and where document 01's is read and names every placement
  pub passes : (n u : ℕ) → old.reading ≡ reading n u → Mentioned n old.table → new ≡ old

one_as_before : (d : Decoding) → AsBefore d d
one_as_before d = record { others = λ _. refl; passes = λ n u e w. refl }

none_after : (m : Mark) → same After (turn_of m) ≡ false
none_after Placements = refl
none_after Chapter = refl
none_after Opens = refl
none_after Taken = refl
none_after LeftOut = refl
none_after Closes = refl
none_after Ends = refl

module _ (s : List ℕ) (room : ℕ) where
  -- after the end mark nothing more is read
  abbrev Finished : Progress → List ℤ → Decoding → Type 0
  Finished p t d = (n u : ℕ) → d.reading ≡ reading n u → (n ≡ p.variables) × (d.table ≡ t)

  not_finished : (p : Progress) (t : List ℤ) (d : Decoding) → (reading_receipt d.reading).number ≢ 16 → Finished p t d
  not_finished p t d h n u e = absurd (h (ap (λ (r : Result Read Refusal). (reading_receipt r).number) e))

  after_end : (k i : ℕ) (p : Progress) (t : List ℤ) → p.turn ≡ After → Finished p t (read_from free s room k i p t)
  unfolding read_from
  after_end zero i p t a = not_finished p t _ (λ z. omega arith)
  after_end (suc k) i p t a = go (ltb i (length s))
    where
      followed : (c : Result Command Refusal) → Says s i p.turn c → Finished p t (follow free s room (read_from free s room k) i p t c)
      followed (Ok found) c = absurd (true_not_false (sym (ap (same After) (sym a ∙ c.turn))) (none_after found.mark))
      followed (Err f) c = not_finished p t (not_read f) (λ z. omega (arith, c.1))

      go : (b : Bool) → Finished p t (cond b (follow free s room (read_from free s room k) i p t (command_at s i p.turn)) (finish s p t))
      go true = followed (command_at s i p.turn) (command_says s i p.turn)
      go false = λ n u e. let r = rw a at e in (ap read_variables (sym r), rw a)

  -- command by command
  module _ (k i next : ℕ) (t : List ℤ) (ih : (q : Progress) (t' : List ℤ) → AsBefore (read_from free s room k next q t') (read_from mentions_all s room k next q t')) where
    onward_as_before : (o : Result Obeyed Fault) → AsBefore (onward room (read_from free s room k next) i t o) (onward room (read_from mentions_all s room k next) i t o)
    onward_as_before = onward_related AsBefore one_as_before room i t (read_from free s room k next) (read_from mentions_all s room k next) ih

    -- the end mark: 26 where a placement is not named, and then document 01 reads a table that doesn't name it
    ended_as_before : (p : Progress) → AsBefore (onward room (read_from free s room k next) i t (ended p true))
        (onward room (read_from mentions_all s room k next) i t (ended p (mentions_all p.variables t)))
    ended_as_before p = go (mentions_all p.variables t) refl
      where
        go : (b : Bool) → mentions_all p.variables t ≡ b → AsBefore (onward room (read_from free s room k next) i t (ended p true))
            (onward room (read_from mentions_all s room k next) i t (ended p b))
        go true e = onward_as_before (ended p true)
        go false e = record {
          others = λ h. absurd (h refl);
          passes = λ n u r w. let f = after_end k next (progress After p.variables p.clauses p.literals) t refl n u r in
              absurd (true_not_false (rw (f.0, f.1) at w) e);
        }

    obeyed_as_before : (p : Progress) (v : ℕ) (m : Mark) → AsBefore (onward room (read_from free s room k next) i t (obey p true v m))
        (onward room (read_from mentions_all s room k next) i t (obey p (mentions_all p.variables t) v m))
    unfolding obey
    obeyed_as_before p v Placements = onward_as_before (obey p true v Placements)
    obeyed_as_before p v Chapter = onward_as_before (obey p true v Chapter)
    obeyed_as_before p v Opens = onward_as_before (obey p true v Opens)
    obeyed_as_before p v Taken = onward_as_before (obey p true v Taken)
    obeyed_as_before p v LeftOut = onward_as_before (obey p true v LeftOut)
    obeyed_as_before p v Closes = onward_as_before (obey p true v Closes)
    obeyed_as_before p v Ends = ended_as_before p

  from_as_before : (k i : ℕ) (p : Progress) (t : List ℤ) → AsBefore (read_from free s room k i p t) (read_from mentions_all s room k i p t)
  unfolding read_from
  from_as_before zero i p t = one_as_before _
  from_as_before (suc k) i p t = go (from_as_before k) (ltb i (length s)) (command_at s i p.turn)
    where
      go : ((j : ℕ) (q : Progress) (t' : List ℤ) → AsBefore (read_from free s room k j q t') (read_from mentions_all s room k j q t')) → (b : Bool) (c : Result Command Refusal) →
          AsBefore (cond b (follow free s room (read_from free s room k) i p t c) (finish s p t))
          (cond b (follow mentions_all s room (read_from mentions_all s room k) i p t c) (finish s p t))
      go ih true (Ok found) = obeyed_as_before k i found.next t (ih found.next) p found.operand found.mark
      go ih true (Err f) = one_as_before _
      go ih false c = one_as_before _

  -- the whole strip
  pub readings_as_before : AsBefore (read_freely s room) (read_strip s room)
  unfolding read_by
  readings_as_before = go (ltb max_strip (length s))
    where
      go : (b : Bool) → AsBefore (cond b (not_read (refusal StripTooLong 0)) (read_from free s room (suc (length s)) 0 nothing_read []))
          (cond b (not_read (refusal StripTooLong 0)) (read_from mentions_all s room (suc (length s)) 0 nothing_read []))
      go true = one_as_before _
      go false = from_as_before (suc (length s)) 0 nothing_read []
