-- What the check keeps of a list is what the definition asks of it: the verdict after a table is the check of the table.
use mathlib.Core.Path.{◌≡◌, refl, ap, sym, ◌∙◌}
use mathlib.Core.Bool.{Bool, true, false, not, cond}
use mathlib.Core.List.{List, [], ◌∷◌, ◌++◌, append_assoc}
use Rattle.std.specs.Prelude.{Option, None, Some}
use Prim.Native.Nat.{ℕ, ◌+◌, ◌<◌, ◌≤◌, min}
use native.Mathlib.Decide.{dec_lt}
use native.Mathlib.Numerals.{add-one}
use native.Mathlib.Omega.{arith}
use borrow.Author.Tests.{lt-ltb, le-ltb}
use lib.Dec.{ltb, eqb}
use lib.IntN.{ℤ, pos, nat_abs}
use lib.ListN.{length, get_or, take, drop, drop_of_length-le, length-append}
use lib.Seq.{drop-cons, take-append_seam}
use Rattle.general.specs.Booleans.{bit}
use Rattle.general.specs.Search.{first_place}
use Rattle.literal.specs.Literal.{clause_number, max_clauses, max_literals}
use Rattle.receipt.specs.declared.Fault.TheVariants.{UnknownVariable}
use Rattle.receipt.specs.Receipt.{Checked, pass}
use Rattle.theory.specs.Table.{zeros, nonzeros, ends_open, refused, is_unknown, table_unknown, check, Accepted}
use Rattle.theory.proofs.Tables.{zeros_append, nonzeros_append, length_elements, accepted_sizes}
use Rattle.table.specs.declared.Unknown.{Unknown}
use Rattle.table.specs.declared.Pass.{Pass}
use Rattle.table.specs.Pass.{begin, enough_clauses, enough_literals, count_if, place_next, clause_next, earlier, next, after, refused_at, verdict}

-- a part from index i on: its element there is the next one, and at the end there is none
pub after_next : (s : Pass) (t : List ℤ) (i : ℕ) → i < length t → after (next s (nat_abs (get_or t i (pos 0)))) (drop (i + 1) t) ≡ after s (drop i t)
unfolding after
after_next s t i h = rw (add-one, drop-cons t i (pos 0))

pub after_end : (s : Pass) (t : List ℤ) (i : ℕ) → length t ≤ i → after s (drop i t) ≡ s
unfolding after
after_end s t i h = rw (drop_of_length-le t h)

-- counts ---------------------------------------------------------------------------------------------------------------

count_if_lem : (b : Bool) (c m : ℕ) → c ≤ m → count_if b c m ≡ min (c + bit b) m
count_if_lem false c m h = omega arith
count_if_lem true c m h = elim (dec_lt c m) [
  | yes l ↦ rw (lt-ltb c m l) (omega arith)
  | no l ↦ rw (le-ltb c m (omega arith)) (omega arith)
]

-- a count that stops one past m is above m exactly when the whole count is
enough : (k m : ℕ) → ltb m (min k (m + 1)) ≡ ltb m k
enough k m = elim (dec_lt m k) [
  | yes h ↦ lt-ltb m (min k (m + 1)) (omega arith) ∙ sym (lt-ltb m k h)
  | no h ↦ ap (ltb m) (omega arith)
]

clauses_of : (s : Pass) (t : List ℤ) → s.clauses ≤ enough_clauses → (after s t).clauses ≡ min (s.clauses + zeros t) enough_clauses
unfolding after next zeros
clauses_of s [] h = omega arith
clauses_of s (e ∷ t) h = let k = count_if_lem (eqb (nat_abs e) 0) s.clauses enough_clauses h in omega (arith, k, clauses_of (next s (nat_abs e)) t (omega (arith, k)))

literals_of : (s : Pass) (t : List ℤ) → s.literals ≤ enough_literals → (after s t).literals ≡ min (s.literals + nonzeros t) enough_literals
unfolding after next nonzeros
literals_of s [] h = omega arith
literals_of s (e ∷ t) h = let k = count_if_lem (not (eqb (nat_abs e) 0)) s.literals enough_literals h in omega (arith, k, literals_of (next s (nat_abs e)) t (omega (arith, k)))

-- the rest -------------------------------------------------------------------------------------------------------------

variables_of : (s : Pass) (t : List ℤ) → (after s t).variables ≡ s.variables
unfolding after next
variables_of s [] = refl
variables_of s (e ∷ t) = variables_of (next s (nat_abs e)) t

unclosed_of : (s : Pass) (t : List ℤ) → (after s t).unclosed ≡ ends_open s.unclosed t
unfolding after next ends_open
unclosed_of s [] = refl
unclosed_of s (e ∷ t) = unclosed_of (next s (nat_abs e)) t

-- the refusal of the elements passed, or else of those that are left
abbrev or_later : Option Unknown → Checked → Checked
or_later None c = c
or_later (Some u) c = refused (UnknownVariable u.clause) u.place

-- of the elements p passed and of t to come, while the counts are within the limits
record Before (s : Pass) (p t : List ℤ) : Type 0 where
  clauses : s.clauses ≡ zeros p
  literals : s.literals ≡ nonzeros p
  few_clauses : zeros p + zeros t ≤ max_clauses
  few_literals : nonzeros p + nonzeros t ≤ max_literals

module _ (s : Pass) (p : List ℤ) (e : ℤ) (t : List ℤ) (b : Before s p (e ∷ t)) where
  place_here : place_next s ≡ length p
  place_here = omega (arith, length_elements p, b.clauses, b.literals)

  -- its clause is the one after those closed before it
  clause_here : clause_next s ≡ clause_number (zeros (take (length p) (p ++ (e ∷ t))) + 1)
  clause_here =
      let z : zeros p < enough_clauses = omega (arith, b.few_clauses) in
      rw (take-append_seam p (e ∷ t), b.clauses, lt-ltb (zeros p) enough_clauses z)

  unknown_next_lem : (o : Option ℕ) →
      or_later (next s (nat_abs e)).unknown (table_unknown (p ++ (e ∷ t)) o)
      ≡ or_later s.unknown (table_unknown (p ++ (e ∷ t)) (cond (is_unknown s.variables e) (Some (length p)) o))
  unfolding next
  unknown_next_lem o = go s.unknown (ltb s.variables (nat_abs e))
    where
      go : (u : Option Unknown) (k : Bool) →
          or_later (earlier u (cond k (Some (record { place = place_next s; clause = clause_next s })) None)) (table_unknown (p ++ (e ∷ t)) o)
          ≡ or_later u (table_unknown (p ++ (e ∷ t)) (cond k (Some (length p)) o))
      go None true = rw (place_here, clause_here)
      go None false = refl
      go (Some w) k = refl

  before_next : Before (next s (nat_abs e)) (p ++ (e ∷ [])) t
  unfolding next zeros nonzeros
  before_next =
      let z = zeros_append p (e ∷ []) in
      let y = nonzeros_append p (e ∷ []) in
      record {
        clauses = omega (arith, z, b.clauses, b.few_clauses, count_if_lem (eqb (nat_abs e) 0) s.clauses enough_clauses (omega (arith, b.clauses, b.few_clauses)));
        literals = omega (arith, y, b.literals, b.few_literals, count_if_lem (not (eqb (nat_abs e) 0)) s.literals enough_literals (omega (arith, b.literals, b.few_literals)));
        few_clauses = omega (arith, z, b.few_clauses);
        few_literals = omega (arith, y, b.few_literals);
      }

unknown_of : (s : Pass) (p t : List ℤ) → Before s p t →
    refused_at (after s t).unknown ≡ or_later s.unknown (table_unknown (p ++ t) (first_place (is_unknown s.variables) (length p) t))
unfolding after next first_place
unknown_of s p [] b = go s.unknown
  where
    go : (u : Option Unknown) → refused_at u ≡ or_later u pass
    go None = refl
    go (Some w) = refl
unknown_of s p (e ∷ t) b =
    rw (append_assoc p (e ∷ []) t, length-append p (e ∷ []), add-one (length p)) at (unknown_of (next s (nat_abs e)) (p ++ (e ∷ [])) t (before_next s p e t b))
    ∙ unknown_next_lem s p e t b _

-- the verdict ----------------------------------------------------------------------------------------------------------

module _ (n : ℕ) (t : List ℤ) where
  clauses_after : (after (begin n) t).clauses ≡ min (zeros t) enough_clauses
  clauses_after = omega (arith, clauses_of (begin n) t (omega arith))

  literals_after : (after (begin n) t).literals ≡ min (nonzeros t) enough_literals
  literals_after = omega (arith, literals_of (begin n) t (omega arith))

  -- past the limits the first unknown variable is not asked for
  pub verdict_check : verdict (after (begin n) t) ≡ check n t
  unfolding verdict check zeros nonzeros
  verdict_check =
      rw (variables_of (begin n) t, clauses_after, literals_after, unclosed_of (begin n) t, enough (zeros t) max_clauses, enough (nonzeros t) max_literals)
      (elim (dec_lt max_clauses (zeros t)) [
        | yes h ↦ rw (lt-ltb max_clauses (zeros t) h)
        | no h ↦ elim (dec_lt max_literals (nonzeros t)) [
          | yes l ↦ rw (lt-ltb max_literals (nonzeros t) l)
          | no l ↦ rw (unknown_of (begin n) [] t (record { clauses = refl; literals = refl; few_clauses = omega arith; few_literals = omega arith }))
        ]
      ])

  -- of a table that passes the counts are its own
  module _ (a : Accepted n t) where
    pub clauses_exact : (after (begin n) t).clauses ≡ zeros t
    clauses_exact = omega (arith, clauses_after, (accepted_sizes n t a).clauses)

    pub literals_exact : (after (begin n) t).literals ≡ nonzeros t
    literals_exact = omega (arith, literals_after, (accepted_sizes n t a).literals)
