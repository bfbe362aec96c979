-- A loop over the clauses of a table: from the clause at an index to the next one.
use mathlib.Core.Path.{◌≡◌, refl, ap}
use mathlib.Core.Bool.{true, false}
use mathlib.Core.List.{List, [], ◌∷◌, map, Memᴰ}
use Prim.Native.Nat.{ℕ, zero, suc, ◌+◌, ◌<◌, ◌≤◌}
use native.Mathlib.Omega.{arith}
use lib.Dec.{eqb-suc-zero}
use lib.IntN.{ℤ, negsuc, pos as posℤ}
use lib.ListN.{length, drop, length-drop, drop_of_length-le}
use lib.Seq.{drop-drop}
use Rattle.general.specs.Booleans.{true_not_false}
use Rattle.literal.specs.declared.ClauseNumber.{ClauseNumber}
use Rattle.literal.specs.declared.Literal.{Literal}
use Rattle.literal.specs.declared.Literal.TheVariants.{Pos, Neg}
use Rattle.theory.specs.Formula.{Clause, Formula, clauses, push}
use Rattle.theory.specs.State.{standing}
use Rattle.theory.specs.Table.{ends_open}
use Rattle.state.specs.State.{state_of}
use Rattle.clause.specs.declared.Clauses.{Clauses}
use Rattle.clause.specs.Reading.{Readable, group, group_length, clause_at, clauses_from, Begins}
use Rattle.clause.specs.Clauses.{Passed}

-- the first clause of a table, and the table after it
record Front (t rest : List ℤ) : Type 0 where
  first : clauses t ≡ group t ∷ clauses rest
  closed : ends_open false rest ≡ false
  some_elements : 0 < group_length t
  inside : group_length t ≤ length t

-- one more literal in front of the first clause
front_entry : (e : ℤ) (l : Literal) {t rest : List ℤ} → clauses (e ∷ t) ≡ push l (clauses t) → group (e ∷ t) ≡ l ∷ group t →
    group_length (e ∷ t) ≡ suc (group_length t) → Front t rest → Front (e ∷ t) rest
front_entry e l more-clauses more-group longer f = record {
  first = rw (more-clauses, more-group, f.first);
  closed = f.closed;
  some_elements = omega arith;
  inside = omega (arith, f.inside);
}

-- within a clause that is closed
front_in : (t : List ℤ) → ends_open true t ≡ false → Front t (drop (group_length t) t)
unfolding clauses group group_length ends_open
front_in [] e = absurd (true_not_false refl e)
front_in (posℤ zero ∷ t) e = record { first = refl; closed = e; some_elements = omega arith; inside = omega arith }
front_in (posℤ (suc p) ∷ t) e = front_entry (posℤ (suc p)) (Pos (suc p)) refl refl refl (front_in t (rw (eqb-suc-zero p) at e))
front_in (negsuc p ∷ t) e = front_entry (negsuc p) (Neg (suc p)) refl refl refl (front_in t (rw (eqb-suc-zero p) at e))

front : (t : List ℤ) → 0 < length t → ends_open false t ≡ false → Front t (drop (group_length t) t)
unfolding ends_open
front [] h e = absurd (omega arith)
front (x ∷ t) h e = front_in (x ∷ t) e

-- the step from the clause at an index to the next one
pub record Advances (t : List ℤ) (from next : ℕ) : Type 0 where
  pub written : clauses (drop from t) ≡ group (drop from t) ∷ clauses (drop next t)
  pub first : (v : List ℕ) → clauses_from t v from ≡ clause_at t v from ∷ clauses_from t v next
  pub begins : Begins t next
  pub further : from < next

pub advances : {t : List ℤ} {from next : ℕ} → Begins t from → from < length t → next ≡ from + group_length (drop from t) → Advances t from next
advances {t} {from} {next} b h e =
    let f : Front (drop from t) (drop next t) = rw (e, ← drop-drop (group_length (drop from t)) from t) (front (drop from t) (omega (arith, length-drop from t)) b.closed) in
    record {
      written = f.first;
      first = λ v. ap (map (standing (state_of v))) f.first;
      begins = record { inside = omega (arith, f.inside, length-drop from t); closed = f.closed };
      further = omega (arith, f.some_elements);
    }

pub passed_advances : {s t : Clauses} {clause : ClauseNumber} {at : ℕ} → Passed s clause at t → Advances s.of.table.now s.at t.at
passed_advances {s} p = advances s.begins p.inside p.next

-- a clause after the one at an index is a clause of the table
abbrev after_first : Formula → Formula
after_first [] = []
after_first (c ∷ f) = f

module _ {h : Clause} where
  in_first : (f : Formula) → Memᴰ h (after_first f) → Memᴰ h f
  in_first [] m = m
  in_first (c ∷ f) m = Memᴰ.tail m

  in_pushed : (l : Literal) (f : Formula) → Memᴰ h (after_first f) → Memᴰ h (after_first (push l f))
  in_pushed l [] m = m
  in_pushed l (c ∷ f) m = m

  in_rest : (t : List ℤ) → Memᴰ h (clauses (drop (group_length t) t)) → Memᴰ h (after_first (clauses t))
  unfolding clauses group_length
  in_rest [] m = m
  in_rest (posℤ zero ∷ t) m = m
  in_rest (posℤ (suc p) ∷ t) m = in_pushed (Pos (suc p)) (clauses t) (in_rest t m)
  in_rest (negsuc p ∷ t) m = in_pushed (Neg (suc p)) (clauses t) (in_rest t m)

  in_whole : (i : ℕ) (t : List ℤ) → Memᴰ h (after_first (clauses (drop i t))) → Memᴰ h (after_first (clauses t))
  unfolding clauses
  in_whole zero t m = m
  in_whole (suc i) [] m = m
  in_whole (suc i) (posℤ zero ∷ t) m = in_first (clauses t) (in_whole i t m)
  in_whole (suc i) (posℤ (suc p) ∷ t) m = in_pushed (Pos (suc p)) (clauses t) (in_whole i t m)
  in_whole (suc i) (negsuc p ∷ t) m = in_pushed (Neg (suc p)) (clauses t) (in_whole i t m)

  pub later_clause : (t : List ℤ) (i : ℕ) → Memᴰ h (clauses (drop (i + group_length (drop i t)) t)) → Memᴰ h (clauses t)
  later_clause t i m = in_first (clauses t) (in_whole i t (in_rest (drop i t) (rw (← drop-drop (group_length (drop i t)) i t) at m)))

pub begins_first : {t : List ℤ} → Readable t → Begins t 0
begins_first r = record { inside = omega arith; closed = r.closed }

-- past the last clause
pub none_left : (t : List ℤ) (v : List ℕ) (from : ℕ) → length t ≤ from → clauses_from t v from ≡ []
unfolding clauses
none_left t v from h = rw (drop_of_length-le t h)
