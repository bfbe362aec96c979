-- What the lists need room for at the start: at most a note for each occurrence, and a tie for each variable.
use mathlib.Core.Path.{◌≡◌}
use mathlib.Core.Bool.{Bool, true, false, cond}
use mathlib.Core.List.{List}
use Prim.Native.Nat.{ℕ, zero, suc, ◌+◌, ◌*◌, ◌≤◌}
use native.Mathlib.Omega.{arith}
use lib.Dec.{eqb, ltb}
use lib.ListN.{get_or}
use Rattle.general.specs.Bits.{bit_le}
use Rattle.literal.specs.Literal.{max_variables, max_literals, variables}
use Rattle.occurrences.specs.Index.{Indexed, first_at, width}
use Rattle.tally.specs.Counts.{load, room, roots}
use Rattle.occurrences.specs.declared.Index.{Index}

pub roots_few : (v : List ℕ) (n : ℕ) → roots v n ≤ n
unfolding roots
roots_few v zero = omega arith
roots_few v (suc n) = omega (arith, bit_le (eqb (get_or v (suc n) 0) (2 * suc n)), roots_few v n)

module _ {ix : Index} (index : Indexed ix) where
  load_few : (v : List ℕ) (n : ℕ) → n ≤ max_variables + 1 → load (width ix) v n + first_at ix 0 ≤ first_at ix n
  unfolding load
  load_few v zero h = omega arith
  load_few v (suc n) h =
      let e : n + 1 ≡ suc n = omega arith in
      go (ltb 1 (get_or v n 0)) (load_few v n (omega arith)) (rw e at (index.rising n (omega arith)))
    where
      go : (b : Bool) → load (width ix) v n + first_at ix 0 ≤ first_at ix n → first_at ix n ≤ first_at ix (suc n) →
          cond b (width ix n) 0 + load (width ix) v n + first_at ix 0 ≤ first_at ix (suc n)
      go true a r = let e : n + 1 ≡ suc n = omega arith in rw e (omega arith)
      go false a r = omega arith

  pub room_few : (v : List ℕ) → room ix v ≤ max_literals
  room_few v = omega (arith, load_few v variables (omega arith), index.ends variables (omega arith))
