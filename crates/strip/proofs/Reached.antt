-- The reading loop: reading on from where it stands, with the numbers that it keeps, the table in the first cells and the placements that it names, reads the whole strip.
use mathlib.Core.Path.{◌≡◌, refl, ◌∙◌}
use mathlib.Core.Bool.{Bool, true, false, cond}
use mathlib.Core.List.{List, [], ◌∷◌, ◌++◌}
use Prim.Native.Nat.{ℕ, zero, suc, ◌+◌, ◌<◌, ◌≤◌}
use native.Mathlib.Nat.{add-zero}
use native.Mathlib.Numerals.{add-one}
use native.Mathlib.Omega.{arith}
use borrow.Author.Tests.{lt-ltb, le-ltb}
use lib.IntN.{ℤ}
use lib.ListN.{length, take, set, replicate, length-set}
use lib.Seq.{length-take-le, take-suc-set}
use Rattle.literal.specs.Literal.{max_variables, max_table}
use Rattle.receipt.specs.declared.Fault.{Fault}
use Rattle.receipt.specs.declared.Fault.TheVariants.{CutStrip, TableShort}
use Rattle.receipt.specs.declared.Refusal.{Refusal}
use Rattle.std.specs.Prelude.{Result, Err}
use Rattle.receipt.specs.declared.Read.{Read}
use Rattle.receipt.specs.Receipt.{refusal}
use Rattle.receipt.specs.Answers.{read_length, reading}
use Rattle.theory.specs.declared.Mark.{Mark}
use Rattle.theory.specs.declared.Turn.TheVariants.{After}
use Rattle.std.specs.Prelude.{Option, None, Some}
use Rattle.theory.specs.declared.Obeyed.{Obeyed}
use Rattle.theory.specs.declared.Progress.{Progress}
use Rattle.theory.specs.Mentions.{mentions_all}
use Rattle.theory.specs.Strip.{same, nothing_read, command_at, obey, Decoding, not_read, ending, storing, onward, follow, read_from, max_strip, read_by, read_strip, commands, obeyed}
use Rattle.mentions.specs.Noted.{Noted}
use Rattle.mentions.proofs.Noting.{noted_none}
use Rattle.reader.proofs.Commands.{Stands, command_stands, command_bytes_lem}
use Rattle.strip.proofs.Sound.{Sound, begun_sound, elements, obey_keeps}

module _ (s : List ℕ) (room : ℕ) where
  -- the loop's invariant
  pub record Reached (at used : ℕ) (p : Progress) (cells : List ℤ) (mentioned : List Bool) : Type 0 where
    pub short : length s ≤ max_strip
    pub sound : Sound p used
    pub long : length cells ≡ max_table
    pub noted : Noted mentioned (take used cells)
    pub fuel : ℕ
    pub enough : length s ≤ at + fuel
    pub rest : read_from mentions_all s room (suc fuel) at p (take used cells) ≡ read_strip s room

  pub begun : length s ≤ max_strip → (cells : List ℤ) → length cells ≡ max_table → Reached 0 0 nothing_read cells (replicate (suc max_variables) false)
  unfolding read_by
  begun h cells l = record { short = h; sound = begun_sound; long = l; noted = noted_none; fuel = length s; enough = omega arith; rest = rw (le-ltb max_strip (length s) h) }

module _ {s : List ℕ} {room at used : ℕ} {p : Progress} {cells : List ℤ} {mentioned : List Bool} (a : Reached s room at used p cells mentioned) where
  -- the elements in use fit the cells
  in_cells : used ≤ length cells
  in_cells = omega (arith, a.sound.elements, a.sound.clauses, a.sound.literals, a.long)

  used_length : length (take used cells) ≡ used
  used_length = length-take-le used cells in_cells

  -- the end of the strip
  pub ended : length s ≤ at → (r : Result Read Refusal) → r ≡ ending (length s) p used →
      ◌≡◌ {A = Decoding} (record { reading = r; table = take (read_length r) cells }) (read_strip s room)
  unfolding read_from
  ended l r e = rw (e, in_use (same p.turn After)) (rw (le-ltb at (length s) l, used_length) at a.rest)
    where
      in_use : (b : Bool) → take (read_length (cond b (reading p.variables used) (Err (refusal CutStrip (length s))))) cells ≡ cond b (take used cells) []
      in_use true = refl
      in_use false = refl

  followed : at < length s → follow mentions_all s room (read_from mentions_all s room a.fuel) at p (take used cells) (command_at s at p.turn) ≡ read_strip s room
  unfolding read_from
  followed l = rw (lt-ltb at (length s) l) at a.rest

  pub no_command : at < length s → (f : Refusal) → Err f ≡ command_at s at p.turn → not_read f ≡ read_strip s room
  no_command l f e = rw (← e) at (followed l)

-- a command to be obeyed there
pub record Commanded (s : List ℕ) (room at used : ℕ) (p : Progress) (cells : List ℤ) (mentioned : List Bool) (m : Mark) (v next : ℕ) : Type 0 where
  pub reached : Reached s room at used p cells mentioned
  pub inside : at < length s
  pub command : commands m v next ≡ command_at s at p.turn

module _ {s : List ℕ} {room at used : ℕ} {p : Progress} {cells : List ℤ} {mentioned : List Bool} {m : Mark} {v next : ℕ}
    (c : Commanded s room at used p cells mentioned m v next) where
  abbrev a : Reached s room at used p cells mentioned
  a = c.reached

  stands : Stands s at p.turn m v next
  stands = command_stands s at c.command

  pub further : at < next
  further = omega (arith, stands.further)

  -- what the command does
  abbrev pub effect : Result Obeyed Fault
  effect = obey p (mentions_all p.variables (take used cells)) v m

  obeying : onward room (read_from mentions_all s room a.fuel next) at (take used cells) effect ≡ read_strip s room
  obeying = rw (← c.command) at (followed a c.inside)

  pub not_obeyed : (why : Fault) → Err why ≡ effect → not_read (refusal why at) ≡ read_strip s room
  not_obeyed why e = rw (← e) at obeying

  module _ {q : Progress} {e : Option ℤ} (g : obeyed q e ≡ effect) where
    sound : Sound q (used + elements e)
    sound =
        let d : Sound p (length (take used cells)) = rw (used_length a) a.sound in
        let k = rw (← g) at (obey_keeps s at next p (take used cells) d m v stands.turn (command_bytes_lem s at stands)) in
        rw (used_length a) at k.0

    storing_rest : storing room (read_from mentions_all s room a.fuel next q) at (take used cells) e ≡ read_strip s room
    storing_rest = rw (← g) at obeying

    -- with the cells as they are then
    reached : (cells' : List ℤ) → length cells' ≡ max_table → (mentioned' : List Bool) → Noted mentioned' (take (used + elements e) cells') →
        read_from mentions_all s room a.fuel next q (take (used + elements e) cells') ≡ read_strip s room → Reached s room next (used + elements e) q cells' mentioned'
    reached cells' long mentioned' noted = go a.fuel a.enough
      where
        go : (k : ℕ) → length s ≤ at + k → read_from mentions_all s room k next q (take (used + elements e) cells') ≡ read_strip s room →
            Reached s room next (used + elements e) q cells' mentioned'
        go zero n r = absurd (omega (arith, c.inside))
        go (suc k) n r = record { short = a.short; sound = sound; long = long; noted = noted; fuel = k; enough = omega (arith, further); rest = r }

  pub kept : {q : Progress} → obeyed q None ≡ effect → Reached s room next used q cells mentioned
  kept g = rw add-zero at (reached g cells a.long mentioned (rw add-zero a.noted) (rw add-zero (storing_rest g)))

  module _ {q : Progress} {x : ℤ} (g : obeyed q (Some x) ≡ effect) where
    pub no_room : room ≤ used → not_read (refusal TableShort at) ≡ read_strip s room
    no_room h = rw (le-ltb (length (take used cells)) room (omega (arith, used_length a))) at (storing_rest g)

    pub has_cell : used < max_table
    has_cell = let d = sound g in omega (arith, d.elements, d.clauses, d.literals)

    one_more : take (used + 1) (set cells used x) ≡ take used cells ++ (x ∷ [])
    one_more = rw (add-one, take-suc-set cells used x (omega (arith, has_cell, a.long)))

    pub stored : used < room → (mentioned' : List Bool) → Noted mentioned' (take used cells ++ (x ∷ [])) → Reached s room next (used + 1) q (set cells used x) mentioned'
    stored h mentioned' noted = reached g (set cells used x) (length-set cells used x ∙ a.long) mentioned' (rw one_more noted)
        (rw one_more
        (rw (lt-ltb (length (take used cells)) room (omega (arith, used_length a))) at (storing_rest g)))
