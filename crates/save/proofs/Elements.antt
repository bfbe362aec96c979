-- The elements of a table, written one by one: what is written and what is left are the whole, and the whole is the items of the strip.
use mathlib.Core.Path.{◌≡◌, refl, ap, ◌∙◌}
use mathlib.Core.Bool.{Bool, true, false}
use mathlib.Core.List.{List, [], ◌∷◌, ◌++◌, map, append_assoc, append-nil}
use Prim.Native.Nat.{ℕ, zero, suc, ◌+◌, ◌≤◌, ◌<◌}
use native.Mathlib.Numerals.{add-one}
use native.Mathlib.Omega.{arith}
use borrow.Author.Tests.{lt-ltb}
use lib.Dec.{eqb-suc-zero}
use lib.IntN.{ℤ, negsuc, pos}
use lib.ListN.{length, get_or, drop, length-append, drop_of_length-le}
use lib.Seq.{drop-cons}
use Rattle.general.specs.Booleans.{true_not_false}
use Rattle.general.specs.Appending.{Appended, append_nothing, append_both, appended_length}
use Rattle.literal.specs.declared.Literal.{Literal}
use Rattle.literal.specs.declared.Literal.TheVariants.{Pos, Neg}
use Rattle.literal.specs.Literal.{var, is_open, literal_of}
use Rattle.theory.specs.declared.Mark.TheVariants.{Placements, Closes, Ends}
use Rattle.theory.specs.Formula.{Clause, Formula, push, clauses}
use Rattle.theory.specs.Table.{ends_open}
use Rattle.theory.specs.Encoding.{group, command_bytes, entry_bytes, item_bytes, saved_strip}
use Rattle.theory.proofs.Tables.{first_clause_lem}
use Rattle.save.specs.Save.{opening_bytes, element_bytes, elements_bytes}

-- what is left of a strip, inside a group or not, when its elements are those of a formula
abbrev ahead : Bool → Formula → List ℕ
ahead false f = item_bytes (map group f)
ahead true [] = []
ahead true (c ∷ f) = entry_bytes c ++ (command_bytes Closes 0 ++ item_bytes (map group f))

-- an entry more, after which the group is open
entry_ahead : (b : Bool) (l : Literal) (t : List ℤ) (c : Clause) (f : Formula) → 0 < var l → clauses t ≡ c ∷ f →
    elements_bytes true t ++ command_bytes Ends 0 ≡ ahead true (clauses t) →
    ((opening_bytes b ++ element_bytes l) ++ elements_bytes (is_open l) t) ++ command_bytes Ends 0 ≡ ahead b (push l (clauses t))
unfolding item_bytes entry_bytes
entry_ahead true (Pos p) t c f o e h = rw (lt-ltb 0 p o, h, e)
entry_ahead true (Neg p) t c f o e h = rw (lt-ltb 0 p o, h, e)
entry_ahead false (Pos p) t c f o e h = rw (lt-ltb 0 p o, h, e)
entry_ahead false (Neg p) t c f o e h = rw (lt-ltb 0 p o, h, e)

elements_ahead : (b : Bool) (t : List ℤ) → ends_open b t ≡ false → elements_bytes b t ++ command_bytes Ends 0 ≡ ahead b (clauses t)
unfolding ends_open clauses elements_bytes item_bytes entry_bytes
elements_ahead true [] h = absurd (true_not_false refl h)
elements_ahead false [] h = refl
elements_ahead true (pos zero ∷ t) h = rw (elements_ahead false t h)
elements_ahead false (pos zero ∷ t) h = rw (elements_ahead false t h)
elements_ahead b (pos (suc p) ∷ t) h =
    let k = rw (eqb-suc-zero p) at h in entry_ahead b (Pos (suc p)) t _ _ (omega arith) (first_clause_lem t k).2 (elements_ahead true t k)
elements_ahead b (negsuc p ∷ t) h =
    let k = rw (eqb-suc-zero p) at h in entry_ahead b (Neg (suc p)) t _ _ (omega arith) (first_clause_lem t k).2 (elements_ahead true t k)

-- the whole strip
pub strip_whole : (n : ℕ) (t : List ℤ) → ends_open false t ≡ false →
    command_bytes Placements n ++ (elements_bytes false t ++ command_bytes Ends 0) ≡ saved_strip n t
unfolding saved_strip
strip_whole n t h = ap (◌++◌ (command_bytes Placements n)) (elements_ahead false t h)

pub strip_parts : (n : ℕ) (t : List ℤ) → ends_open false t ≡ false → length (saved_strip n t) ≡ 3 + (length (elements_bytes false t) + 1)
strip_parts n t h = omega (arith, ap length (strip_whole n t h), length-append (elements_bytes false t) (command_bytes Ends 0))

-- the loop over the table ----------------------------------------------------------------------------------------------

module _ (t : List ℤ) (old : List ℕ) (at : ℕ) where
  -- after the first i elements
  pub record Reached (strip : List ℕ) (next : ℕ) (inside : Bool) (i : ℕ) : Type 0 where
    pub written : List ℕ
    pub appended : Appended old at written strip next
    pub rest : written ++ elements_bytes inside (drop i t) ≡ elements_bytes false t

  pub begun : at ≤ length old → Reached old at false 0
  begun h = record { written = []; appended = append_nothing old at h; rest = refl }

  module _ {strip : List ℕ} {next : ℕ} {inside : Bool} {i : ℕ} (r : Reached strip next inside i) where
    pub ended : length t ≤ i → Appended old at (elements_bytes false t) strip next
    unfolding elements_bytes
    ended h = rw (← r.rest, drop_of_length-le t h, append-nil r.written) r.appended

    module _ (here : i < length t) where
      abbrev element : List ℕ
      element = opening_bytes inside ++ element_bytes (literal_of (get_or t i (pos 0)))

      abbrev left : List ℕ
      left = elements_bytes (is_open (literal_of (get_or t i (pos 0)))) (drop (i + 1) t)

      next_rest : (r.written ++ element) ++ left ≡ elements_bytes false t
      unfolding elements_bytes
      next_rest = append_assoc r.written element left ∙ rw add-one (rw (drop-cons t i (pos 0) here) at r.rest)

      pub room : at + length (elements_bytes false t) ≤ length old → next + length element ≤ length strip
      room h = omega (arith, r.appended.ends, appended_length r.appended, ap length next_rest, length-append (r.written ++ element) left, length-append r.written element)

      pub turned : (strip' : List ℕ) (next' : ℕ) → Appended strip next element strip' next' → Reached strip' next' (is_open (literal_of (get_or t i (pos 0)))) (i + 1)
      turned strip' next' a = record { written = r.written ++ element; appended = append_both r.appended a; rest = next_rest }
