-- The loop over the table's words: scanning on from where it stands, with the table so far in the first cells, scans the whole.
use mathlib.Core.Path.{◌≡◌, refl, ◌∙◌}
use mathlib.Core.List.{List, [], ◌∷◌, ◌++◌}
use Prim.Native.Nat.{ℕ, zero, suc, ◌+◌, ◌<◌, ◌≤◌}
use native.Mathlib.Numerals.{add-one}
use native.Mathlib.Omega.{arith}
use lib.IntN.{ℤ}
use lib.ListN.{length, take, set, length-set}
use lib.Seq.{take-suc-set}
use Rattle.std.specs.Prelude.{Some, None, Ok, Err}
use Rattle.scan.specs.declared.Word.{Word}
use Rattle.scan.specs.declared.WrongWord.{WrongWord}
use Rattle.scan.specs.Scan.{word_at, Filing, filing, wrong, table_from, table_at}
use Rattle.scan.proofs.Words.{number_inside}

module _ (s : List ℕ) (n from : ℕ) (old : List ℤ) where
  abbrev whole : Filing
  whole = table_at s n from

  -- the loop's invariant; each number takes a byte, so there are never more of them than bytes
  pub record Reached (cells : List ℤ) (at used : ℕ) : Type 0 where
    pub long : length cells ≡ length old
    pub room : length s ≤ length cells
    pub behind : used ≤ at
    pub stored : used ≤ length cells
    pub fuel : ℕ
    pub enough : length s ≤ at + fuel
    pub rest : table_from s n (suc fuel) at (take used cells) ≡ whole

  pub begun : length s ≤ length old → Reached old from 0
  begun h = record { long = refl; room = h; behind = omega arith; stored = omega arith; fuel = length s; enough = omega arith; rest = refl }

  module _ {cells : List ℤ} {at used : ℕ} (a : Reached cells at used) where
    pub wrong_there : (w : WrongWord) → Err w ≡ word_at s at → wrong w.place ≡ whole
    unfolding table_from
    wrong_there w e = rw (← e) at a.rest

    pub ended : Ok None ≡ word_at s at → filing n (take used cells) ≡ whole
    unfolding table_from
    ended e = rw (← e) at a.rest

    module _ (w : Word) (e : Ok (Some w) ≡ word_at s at) where
      pub further : (at < w.end) × (w.end ≤ length s)
      further = number_inside s at w e

      pub has_cell : used < length cells
      has_cell = omega (arith, further.0, further.1, a.behind, a.room)

      pub turned : Reached (set cells used w.number) w.end (used + 1)
      unfolding table_from
      turned = go a.fuel a.enough (rw (← e) at a.rest)
        where
          go : (k : ℕ) → length s ≤ at + k → table_from s n k w.end (take used cells ++ (w.number ∷ [])) ≡ whole → Reached (set cells used w.number) w.end (used + 1)
          go zero l r = absurd (omega (arith, further.0, further.1))
          go (suc k) l r = record {
            long = length-set cells used w.number ∙ a.long;
            room = rw length-set a.room;
            behind = omega (arith, further.0, a.behind);
            stored = rw length-set (omega (arith, has_cell));
            fuel = k;
            enough = omega (arith, further.0);
            rest = rw (add-one, take-suc-set cells used w.number has_cell) r;
          }
