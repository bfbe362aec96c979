-- What Add asks before it writes: the first wrong element of the list, and the checks in their order.
use Rattle.std.specs.Prelude.{Option, None, Some}
use Prim.Native.Nat.{ℕ, zero, suc, ◌+◌, ◌≤◌, ◌<◌}
use mathlib.Core.Path.{◌≡◌, refl, ap, sym, ◌∙◌}
use mathlib.Core.Bool.{true, false, not, ◌||◌}
use mathlib.Core.Logic.{◌↔◌}
use mathlib.Core.List.{List, [], ◌∷◌, Memᴰ}
use native.Mathlib.Decide.{dec_lt}
use native.Mathlib.Nat.{add-suc}
use native.Mathlib.Numerals.{add-one}
use native.Mathlib.Omega.{arith}
use borrow.Author.Tests.{lt-ltb, le-ltb, le-leb, lt-leb, ne_eqb}
use lib.Dec.{ltb, eqb, eqb-suc-zero}
use lib.IntN.{ℤ, pos, nat_abs}
use lib.ListN.{length, get_or, take, drop, drop_of_length-le}
use lib.Seq.{length-take-le, drop-cons}
use Rattle.general.specs.Booleans.{true_not_false, cond_ind}
use Rattle.general.specs.Lists.{mem_get_or}
use Rattle.general.specs.Search.{First, first_place, place_none, place_some, none_placed}
use Rattle.literal.specs.Literal.{max_clauses, max_literals, max_table}
use Rattle.receipt.specs.Receipt.{number_of, unknown_variable, pass}
use Rattle.receipt.specs.declared.Fault.{Fault}
use Rattle.receipt.specs.declared.Fault.TheVariants.{TooManyClauses, TooManyLiterals, UsedLengthWrong, TableShort}
use Rattle.std.specs.Prelude.{Ok, Err}
use Rattle.receipt.specs.Receipt.{Checked}
use Rattle.theory.specs.Table.{zeros, nonzeros, refused, check}
use Rattle.theory.specs.Refusing.{at_most, first_of, first_refusal}
use Rattle.theory.specs.Calls.{is_wrong, list_unknown, unknown_in, check_group, check_added}
use Rattle.theory.proofs.Refusing.{not_passed, most_passes, both_pass, last_passes, first_assoc, first_last}
use Rattle.theory.proofs.Tables.{known_variable, length_elements, accepted_sizes, accepted_exactly, NumberAtMost, passed_at_most, refused_at_most, check_refuses}
use Rattle.table.specs.declared.Pass.{Pass}
use Rattle.table.specs.Pass.{begin, enough_clauses, clause_next, after, verdict}
use Rattle.table.proofs.Passes.{verdict_check, clauses_exact, literals_exact}
use Rattle.add.specs.Addable.{Follows}
use Rattle.add.specs.Add.{known}

-- the test of the definition is the opposite of the code's
wrong_known : (n k : ℕ) → (eqb k 0 || ltb n k) ≡ not (known n k)
wrong_known n zero = refl
wrong_known n (suc k) = elim (dec_lt n (suc k)) [
  | yes h ↦ simp (lt-ltb n (suc k) h, lt-leb (suc k) n h, eqb-suc-zero, lt-ltb 0 (suc k) (omega arith))
  | no h ↦ simp (le-ltb n (suc k) (omega arith), le-leb (suc k) n (omega arith), eqb-suc-zero, lt-ltb 0 (suc k) (omega arith))
]

-- u is the place of the list's first element, and k the number that it would have as a group
module _ (u k n : ℕ) (g : List ℤ) (i : ℕ) where
  pub unknown_end : length g ≤ i → unknown_in (u + i) k n (drop i g) ≡ pass
  unfolding unknown_in first_place
  unknown_end h = rw (drop_of_length-le g h)

  module _ (h : i < length g) where
    pub unknown_here : known n (nat_abs (get_or g i (pos 0))) ≡ false → unknown_in (u + i) k n (drop i g) ≡ refused (unknown_variable k) (u + i)
    unfolding unknown_in first_place
    unknown_here e = rw (drop-cons g i (pos 0) h, wrong_known n (nat_abs (get_or g i (pos 0))), e)

    pub unknown_next_lem : known n (nat_abs (get_or g i (pos 0))) ≡ true → unknown_in (u + (i + 1)) k n (drop (i + 1) g) ≡ unknown_in (u + i) k n (drop i g)
    unfolding unknown_in first_place
    unknown_next_lem e = rw (add-one i, add-suc u i, drop-cons g i (pos 0) h, wrong_known n (nat_abs (get_or g i (pos 0))), e)

-- the counts of the state after the used part t
pub record Counted (t : List ℤ) (s : Pass) : Type 0 where
  pub clauses : s.clauses ≡ zeros t
  pub literals : s.literals ≡ nonzeros t
  pub clause : (clause_next s).0 ≡ zeros t + 1

pub counted_after : (n : ℕ) (t : List ℤ) (s : Pass) → s ≡ after (begin n) t → verdict s ≡ pass → Counted t s
counted_after n t s gone q =
    let e : check n t ≡ pass = sym (ap verdict gone ∙ verdict_check n t) ∙ q in
    let z : zeros t < enough_clauses = omega (arith, (accepted_sizes n t e).clauses) in
    let k : (after (begin n) t).clauses ≡ zeros t = clauses_exact n t e in
    record { clauses = rw (gone, k); literals = rw (gone, literals_exact n t e); clause = rw (gone, k, lt-ltb (zeros t) enough_clauses z) }

-- the checks after that of the used part t, which ask only where it passes, by the counts of the state after it
module _ (u n : ℕ) (g t : List ℤ) where
  -- two and one, and as the definition has them
  abbrev by_counts : ℕ → ℕ → ℕ → Checked
  by_counts z y k = first_of (first_of (at_most (z + 1) max_clauses TooManyClauses) (at_most (y + length g) max_literals TooManyLiterals)) (unknown_in u k n g)

  abbrev in_order : ℕ → ℕ → ℕ → Checked
  in_order z y k = first_refusal (at_most (z + 1) max_clauses TooManyClauses ∷ at_most (y + length g) max_literals TooManyLiterals ∷ unknown_in u k n g ∷ [])

  ordered : (z y k : ℕ) → by_counts z y k ≡ in_order z y k
  ordered z y k =
      let a = at_most (z + 1) max_clauses TooManyClauses in
      let c = at_most (y + length g) max_literals TooManyLiterals in
      first_assoc a c (unknown_in u k n g) ∙ ap (λ d. first_of a (first_of c d)) (sym (first_last (unknown_in u k n g)))

  pub counts_exact : let s = after (begin n) t in
      first_of (check n t) (by_counts s.clauses s.literals (clause_next s).0) ≡ first_of (check n t) (in_order (zeros t) (nonzeros t) (zeros t + 1))
  counts_exact = go (check n t) refl
    where
      go : (k : Checked) → check n t ≡ k →
          let s = after (begin n) t in
          first_of k (by_counts s.clauses s.literals (clause_next s).0) ≡ first_of k (in_order (zeros t) (nonzeros t) (zeros t + 1))
      go (Err r) e = refl
      go (Ok _) e =
          let c = counted_after n t (after (begin n) t) refl (verdict_check n t ∙ e) in
          rw (c.clause, c.clauses, c.literals) (ordered (zeros t) (nonzeros t) (zeros t + 1))

-- all checks pass exactly when the list may follow the used part --------------------------------------------------

list_none : (k : ℕ) (o : Option ℕ) → list_unknown k o ≡ pass → o ≡ None
list_none k None e = refl
list_none k (Some i) e = absurd (not_passed e)

list_passes : (u k n : ℕ) (g : List ℤ) → (unknown_in u k n g ≡ pass) ↔ ((e : ℤ) → Memᴰ e g → (0 < nat_abs e) × (nat_abs e ≤ n))
unfolding unknown_in
list_passes u k n g = (
  λ h e m. known_variable n (nat_abs e) (place_none (is_wrong n) u g (list_none k _ h) e m),
  λ h. ap (list_unknown k) (none_placed (is_wrong n) u g (λ e m. let o = h e m in rw (ne_eqb (nat_abs e) 0 (λ q. omega (arith, o.0)), le-ltb n (nat_abs e) o.1))),
)

-- where it isn't, the first wrong element is named
pub list_unknown_refused : (u k n : ℕ) (g : List ℤ) (i : ℕ) → First (is_wrong n) g i → unknown_in u k n g ≡ refused (unknown_variable k) (u + i)
unfolding unknown_in
list_unknown_refused u k n g i f = go (first_place (is_wrong n) u g) refl
  where
    -- an element that is wrong is not before the first
    late : (j : ℕ) → First (is_wrong n) g j → ¬ (i < j)
    late j h l = true_not_false (f.here (pos 0)) (h.earlier i l (pos 0))

    early : (j : ℕ) → First (is_wrong n) g j → ¬ (j < i)
    early j h l = true_not_false (h.here (pos 0)) (f.earlier j l (pos 0))

    go : (o : Option ℕ) → first_place (is_wrong n) u g ≡ o → list_unknown k o ≡ refused (unknown_variable k) (u + i)
    go None e = absurd (true_not_false (f.here (pos 0)) (place_none (is_wrong n) u g e (get_or g i (pos 0)) (mem_get_or g i (pos 0) f.inside)))
    go (Some p) e =
        let w = place_some (is_wrong n) u g p e in
        ap (refused (unknown_variable k)) (elim (dec_lt i w.0) [
          | yes l ↦ absurd (late w.0 w.2 l)
          | no l ↦ elim (dec_lt w.0 i) [ yes m ↦ absurd (early w.0 w.2 m) | no m ↦ omega (arith, w.1) ]
        ])

module _ (u n : ℕ) (g b : List ℤ) where
  abbrev t : List ℤ
  t = take u b

  pub checked_exactly : (check_group u n g b ≡ pass) ↔ ((u ≤ length b) × Follows n t g)
  unfolding check_group
  checked_exactly =
      let k = both_pass (most_passes u (length b) UsedLengthWrong)
      (both_pass (accepted_exactly n t)
      (both_pass (most_passes (zeros t + 1) max_clauses TooManyClauses)
      (both_pass (most_passes (nonzeros t + length g) max_literals TooManyLiterals)
      (last_passes (list_passes u (zeros t + 1) n g))))) in (
        λ e. let x = k.0 e in let y = x.1 in let z = y.1 in (x.0, record { within = y.0; clauses = z.0; literals = z.1.0; known = z.1.1 }),
        λ (h, a). k.1 (h, (a.within, (a.clauses, (a.literals, a.known)))),
      )

  -- and those of Add, where there is room too
  pub added_exactly : (room : ℕ) → (check_added u n g b room ≡ pass) ↔ (((u ≤ length b) × Follows n t g) × (u + length g + 1 ≤ room))
  added_exactly room = both_pass checked_exactly (last_passes (most_passes (u + length g + 1) room TableShort))

-- the checks look at the used part alone, whatever room is after it
pub checked_alike : (u n : ℕ) (g b c : List ℤ) → u ≤ length b → u ≤ length c → take u b ≡ take u c → check_group u n g b ≡ check_group u n g c
unfolding check_group
checked_alike u n g b c h k e = rw (le-ltb (length b) u h, le-ltb (length c) u k, e)

-- and the numbers that they refuse with are at most 12
pub group_refuses : (u n : ℕ) (g b : List ℤ) → NumberAtMost 12 (check_group u n g b)
unfolding check_group unknown_in
group_refuses u n g b =
    first _ _ (most u (length b) UsedLengthWrong (omega arith))
    (first (check n (take u b)) _ (λ w e. omega (arith, check_refuses n (take u b) w e))
    (first _ _ (most (zeros (take u b) + 1) max_clauses TooManyClauses (omega arith))
    (first _ _ (most (nonzeros (take u b) + length g) max_literals TooManyLiterals (omega arith))
    (first _ _ (unknown (first_place (is_wrong n) u g)) (passed_at_most 12)))))
  where
    first : (c d : Checked) → NumberAtMost 12 c → NumberAtMost 12 d → NumberAtMost 12 (first_of c d)
    first (Err r) d h k = h
    first (Ok _) d h k = k

    most : (count limit : ℕ) (why : Fault) → number_of why ≤ 12 → NumberAtMost 12 (at_most count limit why)
    most count limit why h = cond_ind (NumberAtMost 12) _ _ (ltb limit count) (λ _. refused_at_most 12 why 0 h) (λ _. passed_at_most 12)

    unknown : (o : Option ℕ) → NumberAtMost 12 (list_unknown (zeros (take u b) + 1) o)
    unknown None = passed_at_most 12
    unknown (Some i) = refused_at_most 12 (unknown_variable (zeros (take u b) + 1)) i (omega arith)

pub added_fits : (u n : ℕ) (g b : List ℤ) (room : ℕ) → check_added u n g b room ≡ pass → u + length g + 1 ≤ room
added_fits u n g b room e = ((added_exactly u n g b room).0 e).1

-- the longest table has room for every list that may follow: with so much room the checks never say 23
pub group_fits : (u n : ℕ) (g b : List ℤ) → check_group u n g b ≡ pass → u + length g + 1 ≤ max_table
group_fits u n g b e =
    let a = (checked_exactly u n g b).0 e in
    omega (arith, length-take-le u b a.0, length_elements (take u b), a.1.clauses, a.1.literals)

pub room_enough : (u n : ℕ) (g b : List ℤ) → check_added u n g b max_table ≡ check_group u n g b
room_enough u n g b = go (check_group u n g b) refl
  where
    go : (k : Checked) → check_group u n g b ≡ k → first_refusal (k ∷ at_most (u + length g + 1) max_table TableShort ∷ []) ≡ k
    go (Err r) e = refl
    go (Ok _) e = rw (le-ltb max_table (u + length g + 1) (group_fits u n g b e))
