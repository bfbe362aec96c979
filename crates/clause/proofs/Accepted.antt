-- A table that the check accepts is one that code may read without a further test.
use mathlib.Core.Path.{refl}
use mathlib.Core.List.{List, [], ◌∷◌, Memᴰ}
use Prim.Native.Nat.{ℕ, zero, suc, ◌≤◌}
use native.Mathlib.Omega.{arith}
use lib.IntN.{ℤ, nat_abs, pos as posℤ}
use lib.ListN.{get_or}
use Rattle.theory.specs.Table.{Accepted, WithinLimits}
use Rattle.theory.proofs.Tables.{length_elements, accepted_sizes, accepted_closed}
use Rattle.clause.specs.Reading.{Readable}

known_at : (m : ℕ) (t : List ℤ) → ((e : ℤ) → Memᴰ e t → nat_abs e ≤ m) → (i : ℕ) → nat_abs (get_or t i (posℤ 0)) ≤ m
known_at m [] h i = omega arith
known_at m (e ∷ t) h zero = h e (Memᴰ.head refl)
known_at m (e ∷ t) h (suc i) = known_at m t (λ x k. h x (Memᴰ.tail k)) i

pub accepted_readable : (n : ℕ) (t : List ℤ) → Accepted n t → Readable t
accepted_readable n t a =
    let s : WithinLimits n t = accepted_sizes n t a in
    record {
      known = λ i. omega (arith, s.variables, known_at n t s.known i);
      short = omega (arith, length_elements t, s.clauses, s.literals);
      closed = accepted_closed n t a;
    }
