-- A table is accepted exactly when it is within the limits, and then all its literals are of placements from 1 to n.
use mathlib.Core.Path.{◌≡◌, refl, ap, sym, ◌∙◌}
use mathlib.Core.Bool.{Bool, true, false, not, ◌||◌, cond}
use mathlib.Core.Logic.{⊎_elim, ◌↔◌, ◌≢◌}
use mathlib.Core.List.Memᴰ
use mathlib.Core.List.{List, [], ◌∷◌, ◌++◌, map, Memᴰ}
use Rattle.std.specs.Prelude.{Option, None, Some}
use Prim.Native.Nat.{ℕ, zero, suc, ◌+◌, ◌<◌, ◌≤◌}
use native.Mathlib.Omega.{arith}
use lib.Dec.{ltb, eqb, eqb-suc-zero}
use lib.IntN.{ℤ, negsuc, nat_abs, pos as posℤ}
use lib.ListN.{length, get_or, take}
use borrow.Author.Tests.{ltb-false, le-ltb, eqb-true, eqb-false, ne_eqb, not-false}
use Rattle.general.specs.Booleans.{bit, true_not_false, bit_not, cond_ind}
use Rattle.general.specs.Search.{first_place, place_none, none_placed}
use Rattle.literal.specs.declared.Literal.{Literal}
use Rattle.literal.specs.declared.Literal.TheVariants.{Pos, Neg}
use Rattle.literal.specs.Literal.{var, literal_of, max_variables, max_clauses, max_literals}
use Rattle.receipt.specs.Receipt.{number_of, unknown_variable, refusal, pass}
use Rattle.receipt.specs.declared.Fault.{Fault}
use Rattle.receipt.specs.declared.Fault.TheVariants.{TooManyVariables, TooManyClauses, TooManyLiterals, OpenClause}
use Rattle.std.specs.Prelude.{Ok, Err}
use Rattle.receipt.specs.Receipt.{Checked}
use Rattle.receipt.specs.declared.Refusal.{Refusal}
use Rattle.theory.specs.Formula.{Clause, Formula, clauses, push, Within}
use Rattle.theory.specs.Table.{closes, zeros, nonzeros, ends_open, refused, is_unknown, table_unknown, check, Accepted, WithinLimits}

-- a check that passes passed its first test, and the rest
past : (b : Bool) (r : Refusal) (s : Checked) → cond b (Err r) s ≡ pass → (b ≡ false) × (s ≡ pass)
past true r s e = absurd (let z : ◌≡◌ {A = ℕ} 0 1 = cc in omega arith)
past false r s e = (refl, e)

-- counting ------------------------------------------------------------------------------------------------------------

pub zeros_append : (t u : List ℤ) → zeros (t ++ u) ≡ zeros t + zeros u
unfolding zeros
zeros_append [] u = omega arith
zeros_append (e ∷ t) u = omega (arith, zeros_append t u)

pub nonzeros_append : (t u : List ℤ) → nonzeros (t ++ u) ≡ nonzeros t + nonzeros u
unfolding nonzeros
nonzeros_append [] u = omega arith
nonzeros_append (e ∷ t) u = omega (arith, nonzeros_append t u)

-- each element closes a group or is an entry
pub length_elements : (t : List ℤ) → length t ≡ zeros t + nonzeros t
unfolding zeros nonzeros
length_elements [] = refl
length_elements (e ∷ t) = omega (arith, length_elements t, bit_not (closes e))

-- the last element ------------------------------------------------------------------------------------------------

closing : (e : ℤ) → closes e ≡ true → e ≡ posℤ 0
closing (posℤ k) h = ap posℤ (eqb-true k 0 h)
closing (negsuc k) h = absurd (true_not_false h (eqb-suc-zero k))

pub ends_open_append : (b : Bool) (t u : List ℤ) → ends_open b (t ++ u) ≡ ends_open (ends_open b t) u
unfolding ends_open
ends_open_append b [] u = refl
ends_open_append b (e ∷ t) u = ends_open_append (not (closes e)) t u

pub closed_ends : (t : List ℤ) → ends_open false t ≡ false → (b : List ℤ) (e : ℤ) → t ≡ b ++ (e ∷ []) → e ≡ posℤ 0
unfolding ends_open
closed_ends t h b e q = closing e (not-false (closes e) (sym (ends_open_append false b (e ∷ [])) ∙ rw q at h))

ends_closed : (c : Bool) (t : List ℤ) → (t ≡ [] → c ≡ false) → ((b : List ℤ) (e : ℤ) → t ≡ b ++ (e ∷ []) → e ≡ posℤ 0) → ends_open c t ≡ false
unfolding ends_open
ends_closed c [] h k = h refl
ends_closed c (x ∷ t) h k =
    ends_closed (not (closes x)) t (λ q. let z : x ≡ posℤ 0 = k [] x (ap (◌∷◌ x) q) in rw z) (λ b e q. k (x ∷ b) e (ap (◌∷◌ x) q))

-- no entry's size is above n ------------------------------------------------------------------------------------------

unknown_none : (t : List ℤ) (o : Option ℕ) → table_unknown t o ≡ pass → o ≡ None
unknown_none t None e = refl
unknown_none t (Some i) e = absurd (let z : ◌≡◌ {A = ℕ} 0 1 = cc in omega arith)

unknown_bound : (n : ℕ) (t : List ℤ) → table_unknown t (first_place (is_unknown n) 0 t) ≡ pass → (e : ℤ) → Memᴰ e t → nat_abs e ≤ n
unknown_bound n t h e m = ltb-false n (nat_abs e) (place_none (is_unknown n) 0 t (unknown_none t _ h) e m)

bound_known : (n : ℕ) (t : List ℤ) → ((e : ℤ) → Memᴰ e t → nat_abs e ≤ n) → table_unknown t (first_place (is_unknown n) 0 t) ≡ pass
bound_known n t h = ap (table_unknown t) (none_placed (is_unknown n) 0 t (λ e m. le-ltb n (nat_abs e) (h e m)))

-- the test of an operand of a strip and of an added list: a variable from 1 to n
pub known_variable : (n p : ℕ) → (eqb p 0 || ltb n p) ≡ false → (0 < p) × (p ≤ n)
known_variable n p = go (eqb p 0) refl (ltb n p) refl
  where
    go : (a : Bool) → eqb p 0 ≡ a → (b : Bool) → ltb n p ≡ b → (a || b) ≡ false → (0 < p) × (p ≤ n)
    go true ea b eb e = absurd (true_not_false refl e)
    go false ea true eb e = absurd (true_not_false refl e)
    go false ea false eb e = let h : p ≢ 0 = eqb-false p 0 ea in (omega arith, ltb-false n p eb)

-- the check and the limits --------------------------------------------------------------------------------------------

module _ (n : ℕ) (t : List ℤ) where
  passes : Accepted n t → (ends_open false t ≡ false) × WithinLimits n t
  unfolding check
  passes e =
      let a = past (ltb max_variables n) _ _ e in
      let b = past (ltb max_clauses (zeros t)) _ _ a.1 in
      let c = past (ltb max_literals (nonzeros t)) _ _ b.1 in
      let d = past (ends_open false t) _ _ c.1 in (
        d.0,
        record {
          variables = ltb-false max_variables n a.0;
          clauses = ltb-false max_clauses (zeros t) b.0;
          literals = ltb-false max_literals (nonzeros t) c.0;
          ends = closed_ends t d.0;
          known = unknown_bound n t d.1;
        },
      )

  pub accepted_closed : Accepted n t → ends_open false t ≡ false
  accepted_closed e = (passes e).0

  pub accepted_sizes : Accepted n t → WithinLimits n t
  accepted_sizes e = (passes e).1

  -- demand 1: "Every table .. within the limits of document 01 .. is accepted"; "Every other input is refused"
  pub accepted_exactly : Accepted n t ↔ WithinLimits n t
  unfolding check
  accepted_exactly = (
    accepted_sizes,
    λ w. rw (
      le-ltb max_variables n w.variables,
      le-ltb max_clauses (zeros t) w.clauses,
      le-ltb max_literals (nonzeros t) w.literals,
      ends_closed false t (λ q. refl) w.ends,
    ) (bound_known n t w.known),
  )

-- what is refused is refused with a number of at most k
abbrev pub NumberAtMost : ℕ → Checked → Type 0
NumberAtMost k c = (w : Refusal) → c ≡ Err w → number_of w.fault ≤ k

pub passed_at_most : (k : ℕ) → NumberAtMost k pass
passed_at_most k w e = absurd (let z : ◌≡◌ {A = ℕ} 0 1 = cc in omega arith)

pub refused_at_most : (k : ℕ) (why : Fault) (i : ℕ) → number_of why ≤ k → NumberAtMost k (refused why i)
refused_at_most k why i h w e = let q : refusal why i ≡ w = cc in rw (← q) h

pub check_refuses : (n : ℕ) (t : List ℤ) → NumberAtMost 5 (check n t)
unfolding check
check_refuses n t =
    cond_ind (NumberAtMost 5) _ _ (ltb max_variables n) (λ _. refused_at_most 5 TooManyVariables 0 (omega arith))
    (λ _. cond_ind (NumberAtMost 5) _ _ (ltb max_clauses (zeros t)) (λ _. refused_at_most 5 TooManyClauses 0 (omega arith))
    (λ _. cond_ind (NumberAtMost 5) _ _ (ltb max_literals (nonzeros t)) (λ _. refused_at_most 5 TooManyLiterals 0 (omega arith))
    (λ _. cond_ind (NumberAtMost 5) _ _ (ends_open false t) (λ _. refused_at_most 5 OpenClause 0 (omega arith))
    (λ _. unknown (first_place (is_unknown n) 0 t)))))
  where
    unknown : (o : Option ℕ) → NumberAtMost 5 (table_unknown t o)
    unknown None = passed_at_most 5
    unknown (Some i) = refused_at_most 5 (unknown_variable (zeros (take i t) + 1)) i (omega arith)

-- literals ---------------------------------------------------------------------------------------------------------

abbrev pub InRange : ℕ → Formula → Type 0
InRange n f = (c : Clause) (l : Literal) → Memᴰ c f → Memᴰ l c → (0 < var l) × (var l ≤ n)

pub push_range : (n : ℕ) (k : Literal) → 0 < var k → var k ≤ n → (f : Formula) → InRange n f → InRange n (push k f)
push_range n k o b [] h c l mc ml = absurd (Memᴰ.not-nil mc)
push_range n k o b (d ∷ f) h c l mc ml = ⊎_elim
    (λ (q : c ≡ k ∷ d). ⊎_elim (λ (e : l ≡ k). rw e (o, b)) (h d l (Memᴰ.head refl)) (Memᴰ.cases_cons (rw q at ml)))
    (λ m. h c l (Memᴰ.tail m) ml)
    (Memᴰ.cases_cons mc)

-- a clause, one literal more at its end, and one clause more at the end of a formula
abbrev pub ClauseInRange : ℕ → Clause → Type 0
ClauseInRange n c = (l : Literal) → Memᴰ l c → (0 < var l) × (var l ≤ n)

pub empty_in_range : (n : ℕ) → ClauseInRange n []
empty_in_range n l m = absurd (Memᴰ.not-nil m)

pub literal_last : (n : ℕ) (c : Clause) (x : Literal) → ClauseInRange n c → (0 < var x) × (var x ≤ n) → ClauseInRange n (c ++ (x ∷ []))
literal_last n c x h o l m = ⊎_elim (h l) (λ k. let q : l ≡ x = Memᴰ.eq_of_singleton k in rw q o) (Memᴰ.append_cases c m)

pub clause_last : (n : ℕ) (f : Formula) (d : Clause) → InRange n f → ClauseInRange n d → InRange n (f ++ (d ∷ []))
clause_last n f d h o c l mc ml = ⊎_elim (λ k. h c l k ml) (λ k. let q : c ≡ d = Memᴰ.eq_of_singleton k in o l (rw q at ml)) (Memᴰ.append_cases f mc)

pub range_within : (n : ℕ) (f : Formula) → InRange n f → Within n f
range_within n f h = record { low = λ c l mc ml. (h c l mc ml).0; high = λ c l mc ml. (h c l mc ml).1 }

clauses_range : (n : ℕ) (t : List ℤ) → ((e : ℤ) → Memᴰ e t → nat_abs e ≤ n) → InRange n (clauses t)
unfolding clauses
clauses_range n [] h c l mc ml = absurd (Memᴰ.not-nil mc)
clauses_range n (posℤ zero ∷ t) h c l mc ml = ⊎_elim
    (λ (q : c ≡ []). absurd (Memᴰ.not-nil (rw q at ml)))
    (λ k. clauses_range n t (λ e m. h e (Memᴰ.tail m)) c l k ml)
    (Memᴰ.cases_cons mc)
clauses_range n (posℤ (suc p) ∷ t) h c l mc ml =
    push_range n (Pos (suc p)) (omega arith) (h (posℤ (suc p)) (Memᴰ.head refl)) (clauses t) (clauses_range n t (λ e m. h e (Memᴰ.tail m))) c l mc ml
clauses_range n (negsuc p ∷ t) h c l mc ml =
    push_range n (Neg (suc p)) (omega arith) (h (negsuc p) (Memᴰ.head refl)) (clauses t) (clauses_range n t (λ e m. h e (Memᴰ.tail m))) c l mc ml

pub accepted_within : (n : ℕ) (t : List ℤ) → Accepted n t → Within n (clauses t)
accepted_within n t e = range_within n (clauses t) (clauses_range n t (accepted_sizes n t e).known)

-- a table after a table ----------------------------------------------------------------------------------------------

-- after an entry that is closed there is a group
pub first_clause_lem : (t : List ℤ) → ends_open true t ≡ false → (c : Clause) × (f : Formula) × (clauses t ≡ c ∷ f)
unfolding ends_open clauses
first_clause_lem [] h = absurd (true_not_false refl h)
first_clause_lem (posℤ zero ∷ t) h = ([], clauses t, refl)
first_clause_lem (posℤ (suc p) ∷ t) h = let w = first_clause_lem t (rw (eqb-suc-zero p) at h) in (Pos (suc p) ∷ w.0, w.1, ap (push (Pos (suc p))) w.2)
first_clause_lem (negsuc p ∷ t) h = let w = first_clause_lem t (rw (eqb-suc-zero p) at h) in (Neg (suc p) ∷ w.0, w.1, ap (push (Neg (suc p))) w.2)

pub clauses_append : (b : Bool) (t u : List ℤ) → ends_open b t ≡ false → clauses (t ++ u) ≡ clauses t ++ clauses u
unfolding ends_open clauses
clauses_append b [] u h = refl
clauses_append b (posℤ zero ∷ t) u h = ap (◌∷◌ []) (clauses_append false t u h)
clauses_append b (posℤ (suc p) ∷ t) u h = let k = rw (eqb-suc-zero p) at h in rw (clauses_append true t u k, (first_clause_lem t k).2)
clauses_append b (negsuc p ∷ t) u h = let k = rw (eqb-suc-zero p) at h in rw (clauses_append true t u k, (first_clause_lem t k).2)

-- entries and a closing 0
pub clauses_one : (g : List ℤ) → ((e : ℤ) → Memᴰ e g → 0 < nat_abs e) → clauses (g ++ (posℤ 0 ∷ [])) ≡ map literal_of g ∷ []
unfolding clauses
clauses_one [] h = refl
clauses_one (posℤ zero ∷ g) h = absurd (omega (arith, h (posℤ 0) (Memᴰ.head refl)))
clauses_one (posℤ (suc p) ∷ g) h = rw (clauses_one g (λ e m. h e (Memᴰ.tail m)))
clauses_one (negsuc p ∷ g) h = rw (clauses_one g (λ e m. h e (Memᴰ.tail m)))

pub no_zeros : (g : List ℤ) → ((e : ℤ) → Memᴰ e g → 0 < nat_abs e) → zeros g ≡ 0
unfolding zeros
no_zeros [] h = refl
no_zeros (e ∷ g) h =
    let z : nat_abs e ≢ 0 = λ q. omega (arith, h e (Memᴰ.head refl)) in
    rw (ne_eqb (nat_abs e) 0 z, no_zeros g (λ x m. h x (Memᴰ.tail m)))

-- where the first j elements are entries, no zero is among them
pub no_zeros_before : (g : List ℤ) (j : ℕ) → j ≤ length g → ((i : ℕ) → i < j → closes (get_or g i (posℤ 0)) ≡ false) → zeros (take j g) ≡ 0
unfolding zeros
no_zeros_before g zero l h = refl
no_zeros_before [] (suc j) l h = refl
no_zeros_before (e ∷ g) (suc j) l h = omega (arith, ap bit (h 0 (omega arith)), no_zeros_before g j (omega arith) (λ i k. h (suc i) (omega arith)))
