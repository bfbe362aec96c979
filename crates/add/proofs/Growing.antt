-- A table with one group more: it is within the limits again, and its groups are the old ones and then the list; and back.
use mathlib.Core.Path.{◌≡◌, refl}
use mathlib.Core.Logic.{⊎_elim}
use mathlib.Core.List.Memᴰ
use mathlib.Core.List.{List, [], ◌∷◌, ◌++◌, map, append_assoc, Memᴰ}
use Prim.Native.Nat.{ℕ, ◌+◌, ◌<◌, ◌≤◌, zero-le}
use native.Mathlib.Omega.{arith}
use lib.IntN.{ℤ, nat_abs, pos as posℤ}
use lib.ListN.{length, take, drop, length-append}
use lib.Seq.{length-take-le, drop_at}
use Rattle.general.specs.Appending.{Appended, appended_length, appended_before, appended_past, take_next}
use Rattle.literal.specs.Literal.{literal_of}
use Rattle.theory.specs.Calls.{added}
use Rattle.theory.specs.Formula.{clauses}
use Rattle.theory.specs.Table.{WithinLimits}
use Rattle.theory.proofs.LastGroup.{Last, zeros_none, last_clauses, last_closed, last_zeros, last_literals}
use Rattle.theory.proofs.Tables.{closed_ends, accepted_exactly, accepted_closed, no_zeros}
use Rattle.add.specs.Addable.{Follows}

-- the list with its closing 0
abbrev pub with_zero : List ℤ → List ℤ
with_zero g = g ++ (posℤ 0 ∷ [])

with_zero_long : (g : List ℤ) → length (with_zero g) ≡ length g + 1
with_zero_long g = length-append g _

module _ {n : ℕ} {t g : List ℤ} (a : Follows n t g) where
  entries : (e : ℤ) → Memᴰ e g → 0 < nat_abs e
  entries e m = (a.known e m).0

  -- the list is the last group of it
  pub grown_last : Last (t ++ with_zero g) t g
  grown_last = record { whole = refl; closed = accepted_closed n t ((accepted_exactly n t).1 a.within); no_zeros = no_zeros g entries }

  pub grown_limits : WithinLimits n (t ++ with_zero g)
  grown_limits = record {
    variables = a.within.variables;
    clauses = omega (arith, last_zeros grown_last, a.clauses);
    literals = omega (arith, last_literals grown_last, a.literals);
    ends = closed_ends (t ++ with_zero g) (last_closed grown_last);
    known = λ e m. ⊎_elim (a.within.known e) (λ k. ⊎_elim
        (λ j. (a.known e j).1)
        (λ j. let q : e ≡ posℤ 0 = Memᴰ.eq_of_singleton j in rw q zero-le)
        (Memᴰ.append_cases g k)) (Memᴰ.append_cases t m);
  }

  pub grown_clauses : clauses (t ++ with_zero g) ≡ clauses t ++ (map literal_of g ∷ [])
  grown_clauses = last_clauses grown_last

-- and back: what stands before the last group of a table may be followed by that group's elements
module _ {n : ℕ} {t s g : List ℤ} (w : WithinLimits n t) (l : Last t s g) where
  known_in : (e : ℤ) → Memᴰ e (s ++ with_zero g) → nat_abs e ≤ n
  known_in e m = w.known e (rw l.whole m)

  pub shrunk_follows : Follows n s g
  shrunk_follows = record {
    within = record {
      variables = w.variables;
      clauses = omega (arith, w.clauses, last_zeros l);
      literals = omega (arith, w.literals, last_literals l);
      ends = closed_ends s l.closed;
      known = λ e m. known_in e (Memᴰ.append_left _ m);
    };
    clauses = omega (arith, w.clauses, last_zeros l);
    literals = omega (arith, w.literals, last_literals l);
    known = λ e m. (zeros_none g l.no_zeros e m, known_in e (Memᴰ.append_right s (Memᴰ.append_left _ m)));
  }

-- a buffer after the list and a 0 were stored behind its first u elements
module _ (u : ℕ) (g b : List ℤ) (room : u + length g + 1 ≤ length b) where
  stored : Appended b u (with_zero g) (added u g b) (u + length g + 1)
  stored = record { ends = omega (arith, with_zero_long g); room = room; whole = rw (append_assoc g) }

  pub added_table : take (u + length g + 1) (added u g b) ≡ take u b ++ with_zero g
  added_table = take_next stored

  pub added_before : take u (added u g b) ≡ take u b
  added_before = appended_before stored

  pub added_list : drop u (take (u + length g + 1) (added u g b)) ≡ with_zero g
  added_list = rw added_table (drop_at (take u b) (with_zero g) u (length-take-le u b (omega (arith, room))))

  pub added_after : drop (u + length g + 1) (added u g b) ≡ drop (u + length g + 1) b
  added_after = appended_past stored (u + length g + 1) (omega arith)

  pub added_length_lem : length (added u g b) ≡ length b
  added_length_lem = appended_length stored
