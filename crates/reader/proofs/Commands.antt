-- A command of the strip, both ways: what it says that one stands at an index, and that the bytes of one are read as it.
use Rattle.receipt.specs.declared.Refusal.{Refusal}
use mathlib.Core.Path.{◌≡◌, refl, ap, sym, ◌∙◌}
use mathlib.Core.Bool.{true}
use mathlib.Core.Logic.{◌≢◌}
use mathlib.Core.List.{List, ◌∷◌, ◌++◌}
use Rattle.std.specs.Prelude.{Option, None, Some, Ok}
use Prim.Native.Nat.{ℕ, ◌+◌, ◌*◌, ◌/◌, ◌%◌, ◌≤◌, ◌<◌}
use native.Mathlib.Nat.{div-add-mod', add-zero}
use native.Mathlib.Numerals.{add-one}
use native.Mathlib.Omega.{arith}
use borrow.Author.Tests.{eqb-true, le-leb, leb-true}
use lib.Dec.{eqb, leb}
use lib.ListN.{length, get_or, drop, length-append, length-drop}
use lib.Seq.{drop-cons, drop-drop, drop-append_seam, get_or-drop}
use Rattle.general.specs.Booleans.{cond_ind}
use Rattle.general.specs.Search.{find, find_some}
use Rattle.receipt.specs.declared.Fault.{Fault}
use Rattle.receipt.specs.declared.Fault.TheVariants.{TableShort, StripTooLong}
use Rattle.receipt.specs.Receipt.{number_of}
use Rattle.theory.specs.declared.Mark.{Mark}
use Rattle.theory.specs.declared.Mark.TheVariants.{Placements, Chapter, Opens, Taken, LeftOut, Closes, Ends}
use Rattle.theory.specs.declared.Turn.{Turn}
use Rattle.theory.specs.declared.Turn.TheVariants.{Start, Outside, Inside, After}
use Rattle.std.specs.Prelude.{Result, Err}
use Rattle.theory.specs.declared.Command.{Command}
use Rattle.theory.specs.Strip.{byte_of, marks, mark_of, operand_bytes, turn_of, same, operand_at, command_of, command_at, commands}
use Rattle.theory.specs.Encoding.{command_bytes, Bytes}

-- marks and turns ---------------------------------------------------------------------------------------------------

byte_of_lem : (b : ℕ) (m : Mark) → mark_of b ≡ Some m → b ≡ byte_of m
unfolding mark_of
byte_of_lem b m e = eqb-true b (byte_of m) (find_some (λ k. eqb b (byte_of k)) marks m e).1

mark_of_lem : (m : Mark) → mark_of (byte_of m) ≡ Some m
unfolding mark_of find
mark_of_lem Placements = refl
mark_of_lem Chapter = refl
mark_of_lem Opens = refl
mark_of_lem Taken = refl
mark_of_lem LeftOut = refl
mark_of_lem Closes = refl
mark_of_lem Ends = refl

pub same_turn : (t u : Turn) → same t u ≡ true → t ≡ u
same_turn Start Start e = refl
same_turn Start Outside e = cc
same_turn Start Inside e = cc
same_turn Start After e = cc
same_turn Outside Start e = cc
same_turn Outside Outside e = refl
same_turn Outside Inside e = cc
same_turn Outside After e = cc
same_turn Inside Start e = cc
same_turn Inside Outside e = cc
same_turn Inside Inside e = refl
same_turn Inside After e = cc
same_turn After Start e = cc
same_turn After Outside e = cc
same_turn After Inside e = cc
same_turn After After e = refl

same_refl : (t : Turn) → same t t ≡ true
same_refl Start = refl
same_refl Outside = refl
same_refl Inside = refl
same_refl After = refl

-- a command at an index ---------------------------------------------------------------------------------------------

-- a fault of a command, and neither the room's, 23, nor the whole strip's, 24
abbrev pub OfCommand : Fault → Type 0
OfCommand why = (number_of why ≢ number_of TableShort) × (number_of why ≢ number_of StripTooLong)

module _ (s : List ℕ) (i : ℕ) where
  pub record Stands (t : Turn) (m : Mark) (v next : ℕ) : Type 0 where
    pub turn : t ≡ turn_of m
    pub byte : get_or s i 0 ≡ byte_of m
    pub operand : v ≡ operand_at s i (operand_bytes m)
    pub further : next ≡ i + 1 + operand_bytes m
    pub long : next ≤ length s

  abbrev pub Says : Turn → Result Command Refusal → Type 0
  Says t (Ok found) = Stands t found.mark found.operand found.next
  Says t (Err f) = (f.place ≡ i) × (20 ≤ number_of f.fault) × (number_of f.fault ≤ 22)

  pub command_says : (t : Turn) → Says t (command_at s i t)
  unfolding command_at
  command_says t = go (mark_of (get_or s i 0)) refl
    where
      go : (o : Option Mark) → mark_of (get_or s i 0) ≡ o → Says t (command_of s i t o)
      go None q = (refl, omega arith, omega arith)
      go (Some m) q = cond_ind (Says t) _ _ (same t (turn_of m))
          (λ a. cond_ind (Says t) _ _ (leb (i + 1 + operand_bytes m) (length s))
          (λ b. record {
            turn = same_turn t (turn_of m) a;
            byte = byte_of_lem (get_or s i 0) m q;
            operand = refl;
            further = refl;
            long = leb-true (i + 1 + operand_bytes m) (length s) b;
          })
          (λ b. (refl, omega arith, omega arith)))
          (λ a. (refl, omega arith, omega arith))

  pub command_stands : {t : Turn} {m : Mark} {v next : ℕ} → commands m v next ≡ command_at s i t → Stands t m v next
  command_stands {t = t} e = rw (← e) at (command_says t)

  pub stands_command : {t : Turn} {m : Mark} {v next : ℕ} → Stands t m v next → command_at s i t ≡ commands m v next
  unfolding command_at
  stands_command {m = m} c =
      rw (c.turn, c.byte, mark_of_lem m, same_refl (turn_of m), le-leb (i + 1 + operand_bytes m) (length s) (omega (arith, c.further, c.long)), c.operand, c.further)

  next_byte : (j : ℕ) → j < length s → drop j s ≡ get_or s j 0 ∷ drop (j + 1) s
  next_byte j h = rw (add-one, ← drop-cons s j 0)

  none_bytes : (k : ℕ) → get_or s i 0 ≡ k → i + 1 + 0 ≤ length s → drop i s ≡ k ∷ drop (i + 1 + 0) s
  none_bytes k e l = rw (← e, add-zero) (next_byte i (omega arith))

  word_bytes : (k : ℕ) → Bytes s → get_or s i 0 ≡ k → i + 1 + 2 ≤ length s →
      drop i s ≡ k ∷ operand_at s i 2 / 256 ∷ operand_at s i 2 % 256 ∷ drop (i + 1 + 2) s
  word_bytes k b e l =
      let x : ℕ = get_or s (i + 1) 0 in
      let y : ℕ = get_or s (i + 2) 0 in
      let high : (x * 256 + y) / 256 ≡ x = omega (arith, b (i + 2)) in
      let low : (x * 256 + y) % 256 ≡ y = omega (arith, b (i + 2)) in
      let p : i + 1 + 1 ≡ i + 2 = omega arith in
      let q : i + 1 + 2 ≡ i + 2 + 1 = omega arith in
      rw (high, low, q, ← next_byte (i + 2) (omega arith), ← p, ← next_byte (i + 1) (omega arith), ← e) (next_byte i (omega arith))

  -- its bytes
  stands_bytes : (m : Mark) → Bytes s → get_or s i 0 ≡ byte_of m → i + 1 + operand_bytes m ≤ length s →
      drop i s ≡ command_bytes m (operand_at s i (operand_bytes m)) ++ drop (i + 1 + operand_bytes m) s
  stands_bytes Placements b e l = word_bytes _ b e l
  stands_bytes Chapter b e l = rw (← next_byte (i + 1) (omega arith), ← e) (next_byte i (omega arith))
  stands_bytes Opens b e l = none_bytes _ e l
  stands_bytes Taken b e l = word_bytes _ b e l
  stands_bytes LeftOut b e l = word_bytes _ b e l
  stands_bytes Closes b e l = none_bytes _ e l
  stands_bytes Ends b e l = none_bytes _ e l

  pub command_bytes_lem : {t : Turn} {m : Mark} {v next : ℕ} → Stands t m v next → Bytes s → drop i s ≡ command_bytes m v ++ drop next s
  command_bytes_lem {m = m} c b = rw (c.operand, c.further) (stands_bytes m b c.byte (omega (arith, c.further, c.long)))

  -- the bytes of a command, read
  length_command : (m : Mark) (v : ℕ) → length (command_bytes m v) ≡ 1 + operand_bytes m
  length_command Placements v = refl
  length_command Chapter v = refl
  length_command Opens v = refl
  length_command Taken v = refl
  length_command LeftOut v = refl
  length_command Closes v = refl
  length_command Ends v = refl

  byte_at : (l : List ℕ) → drop i s ≡ l → (k : ℕ) → get_or s (i + k) 0 ≡ get_or l k 0
  byte_at l e k = sym (get_or-drop i s k 0) ∙ ap (λ (r : List ℕ). get_or r k 0) e

  pub word_at_lem : (k v : ℕ) (rest : List ℕ) → drop i s ≡ k ∷ v / 256 ∷ v % 256 ∷ rest → operand_at s i 2 ≡ v
  word_at_lem k v rest e = rw (byte_at _ e 1, byte_at _ e 2) (div-add-mod' v 256)

  module _ (m : Mark) (v : ℕ) (rest : List ℕ) (e : drop i s ≡ command_bytes m v ++ rest) where
    pub bytes_long : i + 1 + operand_bytes m ≤ length s
    bytes_long = omega (arith, length-drop i s, ap length e, length-append (command_bytes m v) rest, length_command m v)

    pub bytes_rest : drop (i + 1 + operand_bytes m) s ≡ rest
    bytes_rest =
        let q : i + 1 + operand_bytes m ≡ i + length (command_bytes m v) = omega (arith, length_command m v) in
        rw (q, ← drop-drop (length (command_bytes m v)) i s, e) (drop-append_seam (command_bytes m v) rest)

    pub bytes_command : command_at s i (turn_of m) ≡ commands m (operand_at s i (operand_bytes m)) (i + 1 + operand_bytes m)
    unfolding command_at
    bytes_command =
        let b : get_or s i 0 ≡ byte_of m = rw add-zero at (byte_at _ e 0) in
        rw (b, mark_of_lem m, same_refl (turn_of m), le-leb (i + 1 + operand_bytes m) (length s) bytes_long)
