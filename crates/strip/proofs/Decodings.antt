-- What decoding a strip answers: the elements in use fit the cells and the room, and copied to the table they are the call of Read.
use mathlib.Core.Path.{◌≡◌, sym}
use mathlib.Core.List.{List}
use Prim.Native.Nat.{ℕ, ◌≤◌}
use native.Mathlib.Omega.{arith}
use lib.IntN.{ℤ}
use lib.ListN.{length, take, length-take}
use Rattle.std.specs.Prelude.{Ok, Err}
use Rattle.receipt.specs.declared.Refusal.{Refusal}
use Rattle.theory.specs.Strip.{read_strip}
use Rattle.theory.specs.Calls.{over, read_call}
use Rattle.strip.specs.declared.Decoded.{Decoded}
use Rattle.strip.specs.Decoding.{decoding_of, called}
use Rattle.strip.proofs.Ends.{sized}

module _ (s : List ℕ) (room : ℕ) (d : Decoded) (e : decoding_of (Ok d) ≡ read_strip s room) where
  used_length : length (take d.read.used d.cells) ≡ d.read.used
  used_length = let z = rw (← e) at (sized s room).0 in sym z

  pub in_room : d.read.used ≤ room
  in_room = let z = rw (← e) at (sized s room).1 in omega (arith, z, used_length)

  pub in_cells : d.read.used ≤ length d.cells
  in_cells = rw (← used_length, length-take) (omega arith)

pub read_call_lem : (s : List ℕ) (t : List ℤ) (d : Decoded) → decoding_of (Ok d) ≡ read_strip s (length t) →
    called (Ok d.read) (over d.read.used (take d.read.used d.cells) t) ≡ read_call s t
unfolding read_call
read_call_lem s t d e = rw (← e, used_length s (length t) d e)

pub refused_call : (s : List ℕ) (t : List ℤ) (w : Refusal) → decoding_of (Err w) ≡ read_strip s (length t) → called (Err w) t ≡ read_call s t
unfolding read_call
refused_call s t w e = rw (← e)
