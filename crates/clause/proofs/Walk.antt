-- A loop over the elements of a clause: what stands from an index on is what the element there adds to what stands from the next one on.
use mathlib.Core.Path.{◌≡◌, refl, ap, sym, ◌∙◌}
use mathlib.Core.Bool.{Bool, true, false, cond}
use mathlib.Core.List.Memᴰ
use mathlib.Core.List.{List, [], ◌∷◌, Memᴰ}
use mathlib.Core.Logic.{◌≢◌, ⊎_elim}
use Prim.Native.Nat.{ℕ, zero, suc, ◌+◌, ◌<◌, ◌≤◌}
use native.Mathlib.Numerals.{add-one}
use native.Mathlib.Omega.{arith}
use lib.IntN.{ℤ, negsuc, nat_abs, pos as posℤ}
use lib.ListN.{length, get_or, drop, length-drop, drop_of_length-le}
use lib.Seq.{drop-cons}
use Rattle.std.proofs.lemmas.List.{get_or-drop}
use borrow.Author.Tests.{lt-ltb, le-ltb}
use native.Mathlib.Decide.{dec_lt}
use Rattle.std.specs.Prelude.{Option, option_map}
use Rattle.std.specs.Option.{unwrap_or}
use Rattle.std.specs.Ordering.{int_eq}
use Rattle.std.specs.List.{position, position_or_len}
use Rattle.std.specs.Cmp.{signed_Decides}
use Rattle.literal.specs.declared.Literal.{Literal}
use Rattle.literal.specs.declared.Literal.TheVariants.{Pos, Neg}
use Rattle.literal.specs.Literal.{FALSE, var, same, literal_of, max_variables, max_table}
use Rattle.theory.specs.Formula.{Clause}
use Rattle.theory.specs.State.{State, value, stand, standing}
use Rattle.theory.proofs.Clauses.{standing_mem}
use Rattle.state.specs.State.{state_of, InRange}
use Rattle.state.proofs.Values.{value_var}
use Rattle.clause.specs.Reading.{Readable, group, group_length, clause_at}

drop_next : {A : Type 0} (l : List A) (i : ℕ) (d : A) → i < length l → drop i l ≡ get_or l i d ∷ drop (i + 1) l
drop_next l i d h = rw (add-one, drop-cons l i d)

-- an element in front of a clause: an entry, or the 0 that closes it
front_entry : (e : ℤ) (t : List ℤ) → nat_abs e ≢ 0 → group (e ∷ t) ≡ literal_of e ∷ group t
unfolding group
front_entry (posℤ zero) t h = absurd (h refl)
front_entry (posℤ (suc p)) t h = refl
front_entry (negsuc p) t h = refl

front_zero : (e : ℤ) (t : List ℤ) → nat_abs e ≡ 0 → group (e ∷ t) ≡ []
unfolding group
front_zero (posℤ zero) t h = refl
front_zero (posℤ (suc p)) t h = absurd (omega arith)
front_zero (negsuc p) t h = absurd (omega arith)

-- the elements of a clause by where the first 0 stands -----------------------------------------------------------------

abbrev pub is_zero : ℤ → Bool
is_zero e = int_eq e (posℤ 0)

-- by the place of the 0, or the end
abbrev pub up_to : Option ℕ → ℕ → ℕ
up_to o n = unwrap_or (option_map suc o) n

further : (e : ℤ) (t : List ℤ) → is_zero e ≡ false → up_to (position is_zero (e ∷ t)) (length (e ∷ t)) ≡ suc (up_to (position is_zero t) (length t))
further e t z = rw z (elim (dec_lt (position_or_len is_zero t) (length t)) [
  | yes h ↦ rw (lt-ltb (position_or_len is_zero t) (length t) h, lt-ltb (1 + position_or_len is_zero t) (suc (length t)) (omega arith)) (omega arith)
  | no h ↦ rw (le-ltb (position_or_len is_zero t) (length t) (omega arith), le-ltb (1 + position_or_len is_zero t) (suc (length t)) (omega arith)) (omega arith)
])

not_zero : (e : ℤ) → (e ≡ posℤ 0 → ⊥) → is_zero e ≡ false
not_zero e h = go (is_zero e) (signed_Decides e (posℤ 0)).0
  where
    go : (b : Bool) → (b ≡ true → e ≡ posℤ 0) → b ≡ false
    go true k = absurd (h (k refl))
    go false k = refl

pub length_zero : (t : List ℤ) → group_length t ≡ up_to (position is_zero t) (length t)
unfolding group_length
length_zero [] = refl
length_zero (posℤ zero ∷ t) = rw (lt-ltb 0 (suc (length t)) (omega arith)) refl
length_zero (posℤ (suc p) ∷ t) = ap suc (length_zero t) ∙ sym (further (posℤ (suc p)) t (not_zero (posℤ (suc p)) (λ e. let z : ◌≡◌ {A = ℕ} (suc p) 0 = cc in absurd (omega arith))))
length_zero (negsuc p ∷ t) = ap suc (length_zero t) ∙ sym (further (negsuc p) t (not_zero (negsuc p) (λ e. let z : ◌≡◌ {A = ℕ} 0 1 = cc in absurd (omega arith))))

-- what stands from an index on ------------------------------------------------------------------------------------------

module _ (t : List ℤ) (i : ℕ) where
  module _ (v : List ℕ) where
    -- the 0 that closes the clause
    pub clause_here : i < length t → nat_abs (get_or t i (posℤ 0)) ≡ 0 → clause_at t v i ≡ []
    unfolding standing
    clause_here h e = rw (drop_next t i (posℤ 0) h, front_zero (get_or t i (posℤ 0)) (drop (i + 1) t) e)

    -- one more literal, unless it is false
    clause_next_lem : i < length t → nat_abs (get_or t i (posℤ 0)) ≢ 0 →
        clause_at t v i ≡ stand (value (state_of v) (literal_of (get_or t i (posℤ 0)))) (clause_at t v (i + 1))
    unfolding standing
    clause_next_lem h e = rw (drop_next t i (posℤ 0) h, front_entry (get_or t i (posℤ 0)) (drop (i + 1) t) e)

    pub clause_past : length t ≤ i → clause_at t v i ≡ []
    unfolding standing group
    clause_past h = rw (drop_of_length-le t h)

-- the element at i, which stands for x, where what stands from there on is what stands from an earlier index on
module _ (t : List ℤ) (v : List ℕ) (i : ℕ) (x : Literal) (h : i < length t) (entry : nat_abs (get_or t i (posℤ 0)) ≢ 0)
    (says : x ≡ value (state_of v) (literal_of (get_or t i (posℤ 0)))) where
  here : clause_at t v i ≡ stand x (clause_at t v (i + 1))
  here = clause_next_lem t i v h entry ∙ rw says

  pub entry_false : same x FALSE ≡ true → clause_at t v (i + 1) ≡ clause_at t v i
  entry_false e = sym (here ∙ rw e)

  pub entry_stands : same x FALSE ≡ false → clause_at t v i ≡ x ∷ clause_at t v (i + 1)
  entry_stands e = here ∙ rw e

-- what stands is of a variable of the formula, and there is no more of it than elements --------------------------------

group_known : (m : ℕ) (t : List ℤ) → ((i : ℕ) → nat_abs (get_or t i (posℤ 0)) ≤ m) → (l : Literal) → Memᴰ l (group t) → var l ≤ m
unfolding group
group_known m [] h l k = absurd (Memᴰ.not-nil k)
group_known m (posℤ zero ∷ t) h l k = absurd (Memᴰ.not-nil k)
group_known m (posℤ (suc p) ∷ t) h l k = ⊎_elim (λ (e : l ≡ Pos (suc p)). rw e (h 0)) (group_known m t (λ i. h (suc i)) l) (Memᴰ.cases_cons k)
group_known m (negsuc p ∷ t) h l k = ⊎_elim (λ (e : l ≡ Neg (suc p)). rw e (h 0)) (group_known m t (λ i. h (suc i)) l) (Memᴰ.cases_cons k)

group_short : (t : List ℤ) → length (group t) ≤ length t
unfolding group
group_short [] = omega arith
group_short (posℤ zero ∷ t) = omega arith
group_short (posℤ (suc p) ∷ t) = omega (arith, group_short t)
group_short (negsuc p ∷ t) = omega (arith, group_short t)

standing_short : (s : State) (c : Clause) → length (standing s c) ≤ length c
unfolding standing
standing_short s [] = omega arith
standing_short s (l ∷ c) = go (same (value s l) FALSE) (standing s c) (standing_short s c)
  where
    go : (b : Bool) (d : Clause) → length d ≤ length c → length (cond b d (value s l ∷ d)) ≤ suc (length c)
    go true d h = omega arith
    go false d h = omega arith

module _ (t : List ℤ) (v : List ℕ) (i : ℕ) (r : Readable t) where
  pub clause_known : InRange v → (l : Literal) → Memᴰ l (clause_at t v i) → var l ≤ max_variables
  clause_known b l m =
      let k = standing_mem (state_of v) (group (drop i t)) l m in
      let w : var k.written ≤ max_variables = group_known max_variables (drop i t) (λ j. rw get_or-drop (r.known (i + j))) k.written k.member in
      rw (← k.valued) (value_var b k.written w)

  pub clause_short : length (clause_at t v i) ≤ max_table
  clause_short = omega (arith, standing_short (state_of v) (group (drop i t)), group_short (drop i t), length-drop i t, r.short)
