-- The table of a formula within the limits is accepted by the check of tables; so is the table of every strip that is read.
use Rattle.receipt.specs.Answers.{reading}
use mathlib.Core.Path.{◌≡◌, refl, ap}
use mathlib.Core.Bool.{Bool, false, not}
use Rattle.std.specs.Prelude.{None}
use mathlib.Core.List.{List, [], ◌∷◌, ◌++◌, map, Memᴰ}
use Prim.Native.Nat.{ℕ, zero, suc, ◌+◌, ◌<◌, ◌≤◌}
use native.Mathlib.Omega.{arith}
use borrow.Author.Tests.{ne_eqb, le-ltb}
use lib.IntN.{ℤ, nat_abs, pos}
use lib.ListN.{length}
use Rattle.general.specs.Booleans.{bit}
use Rattle.general.specs.Search.{first_place}
use Rattle.literal.specs.declared.Literal.{Literal}
use Rattle.literal.specs.declared.Literal.TheVariants.{Pos, Neg}
use Rattle.literal.specs.Literal.{var, entry_of, max_variables, max_clauses, max_literals}
use Rattle.theory.specs.Formula.{Clause, Formula}
use Rattle.theory.specs.Table.{closes, zeros, nonzeros, ends_open, is_unknown, table_unknown, check, Accepted}
use Rattle.theory.specs.Strip.{nothing_read, read_strip}
use Rattle.theory.specs.Encoding.{groups, table_of, entries}
use Rattle.theory.proofs.Tables.{InRange}
use Rattle.strip.proofs.Ends.{Ended, answered}

entry_size : (l : Literal) → nat_abs (entry_of l) ≡ var l
entry_size (Pos p) = refl
entry_size (Neg zero) = refl
entry_size (Neg (suc p)) = refl

entry_open : (l : Literal) → 0 < var l → closes (entry_of l) ≡ false
entry_open l h = ne_eqb (nat_abs (entry_of l)) 0 (λ e. omega (arith, entry_size l))

-- a table by its counts of groups and entries, read after an entry (b is true) or not
record Counted (n : ℕ) (b : Bool) (t : List ℤ) (c l : ℕ) : Type 0 where
  pub clauses : zeros t ≡ c
  pub literals : nonzeros t ≡ l
  pub closed : ends_open b t ≡ false
  pub known : (i : ℕ) → first_place (is_unknown n) i t ≡ None

module _ (n : ℕ) where
  row : (t : List ℤ) (k j : ℕ) → Counted n false t k j → (b : Bool) (c : Clause) → ((l : Literal) → Memᴰ l c → (0 < var l) × (var l ≤ n)) →
      Counted n b (map entry_of c ++ (pos 0 ∷ t)) (suc k) (length c + j)
  unfolding zeros nonzeros ends_open first_place
  row t k j a b [] h = record {
    clauses = omega (arith, a.clauses);
    literals = omega (arith, a.literals);
    closed = a.closed;
    known = λ i. rw (le-ltb n 0 (omega arith)) (a.known (suc i));
  }
  row t k j a b (l ∷ c) h =
      let o = h l (Memᴰ.head refl) in
      let e = entry_open l o.0 in
      let r = row t k j a (not (closes (entry_of l))) c (λ x m. h x (Memᴰ.tail m)) in
      record {
        clauses = omega (arith, ap bit e, r.clauses);
        literals = omega (arith, ap (λ (x : Bool). bit (not x)) e, r.literals);
        closed = r.closed;
        known = λ i. rw (le-ltb n (nat_abs (entry_of l)) (omega (arith, entry_size l, o.1))) (r.known (suc i));
      }

  table : (f : Formula) → InRange n f → Counted n false (table_of f) (length f) (entries f)
  unfolding table_of entries zeros nonzeros ends_open first_place
  table [] h = record { clauses = refl; literals = refl; closed = refl; known = λ i. refl }
  table (c ∷ f) h = row (table_of f) (length f) (entries f) (table f (λ d l m. h d l (Memᴰ.tail m))) false c (λ l. h c l (Memᴰ.head refl))

  formula_accepted : (f : Formula) → n ≤ max_variables → length f ≤ max_clauses → entries f ≤ max_literals → InRange n f → Accepted n (table_of f)
  unfolding check
  formula_accepted f v c l h =
      let a = table f h in
      rw (
        le-ltb max_variables n v,
        le-ltb max_clauses (zeros (table_of f)) (omega (arith, a.clauses)),
        le-ltb max_literals (nonzeros (table_of f)) (omega (arith, a.literals)),
        a.closed,
      ) (ap (table_unknown (table_of f)) (a.known 0))

-- every operation accepts the table that was read
pub read_accepted : (s : List ℕ) (room n u : ℕ) → (read_strip s room).reading ≡ reading n u → Accepted n (read_strip s room).table
read_accepted s room n u e =
    let a : Ended s room 0 nothing_read [] (reading n u) (read_strip s room).table = rw e at (answered s room) in
    let l = a.3 in
    let b = l.allows in
    rw l.table (formula_accepted n (groups l.items) b.variables (omega (arith, b.clauses)) (omega (arith, b.literals)) b.known)
