-- What a call of Take back promises, by its receipt, the new used length and the buffer after it. All of it follows from the equation that `take_back` ensures.
use mathlib.Core.Path.{◌≡◌, refl, ap, sym, subst, ◌∙◌}
use mathlib.Core.Bool.{Bool, true, false}
use mathlib.Core.Logic.{◌↔◌}
use mathlib.Core.List.{List, [], ◌∷◌, ◌++◌, append_assoc}
use Prim.Native.Nat.{ℕ, ◌+◌, ◌-◌, ◌<◌, ◌≤◌}
use native.Mathlib.Decide.{dec_lt}
use native.Mathlib.Omega.{arith}
use borrow.Author.Tests.{ltb-false, lt-ltb, le-ltb, eqb-true, eqb-false, eq-eqb, ne_eqb}
use lib.Dec.{ltb, eqb}
use lib.IntN.{ℤ, pos as posℤ}
use lib.ListN.{length, take, drop, replicate, length-append, length-replicate, take-append-drop}
use lib.Seq.{length-take-le, take-take}
use Rattle.general.specs.Appending.{Appended, appended_length, appended_before, appended_new, appended_past}
use Rattle.general.specs.Search.{first_place}
use Rattle.literal.specs.Literal.{max_variables}
use Rattle.receipt.specs.Receipt.{done, receipt, refusal, pass, Checked}
use Rattle.receipt.specs.Receipt as faults
use Rattle.receipt.specs.Answers.{taking_back_receipt, length_left, adding_receipt, added_length}
use Rattle.std.specs.Prelude.{Result, Ok, Err}
use Rattle.receipt.specs.declared.Fault.TheVariants.{UsedLengthWrong, NoClause}
use Rattle.receipt.specs.declared.Receipt.{Receipt}
use Rattle.receipt.specs.declared.Refusal.{Refusal}
use Rattle.theory.specs.Calls.{AddCall, added, TakeBackCall, take_back_refused, cleared, taken_back_call, take_back_call}
use Rattle.theory.specs.Heads.{last_start, last_group}
use Rattle.theory.specs.Refusing.{refused_if, at_most, first_of, first_refusal, NotRefused, RefusedFirst}
use Rattle.theory.specs.Table.{zeros, nonzeros, ends_open, check, WithinLimits}
use Rattle.theory.specs.Unknown.{UnknownInTable, Names}
use Rattle.theory.proofs.LastGroup.{Last, last_found, last_clauses, last_zeros, last_start_lem, start_inside}
use Rattle.theory.proofs.Refusing.{not_passed, if_passes, most_passes, both_pass, last_passes, table_named, passed_named, first_named, if_named, most_named, number_not_refused, first_refuses, Refusing, accepted_is, refused_with, accepted_when, unchanged, call_names}
use Rattle.theory.proofs.Tables.{length_elements, accepted_exactly, accepted_closed, accepted_sizes, check_refuses}
use Rattle.theory.proofs.Unknown.{none_named}
use Rattle.add.specs.Addable.{Addable}
use Rattle.add.proofs.Growing.{with_zero, shrunk_follows, grown_limits, grown_last, added_table, added_before, added_after, added_length_lem}
use Rattle.add.proofs.Promises as adds
use Rattle.take_back.specs.TakeBack.{called}
use Rattle.take_back.specs.Taken.{Takeable, Taken, Restored, AddedBack}

abbrev pub number_of : Result ℕ Refusal → ℕ
number_of r = (taking_back_receipt r).number

-- a call of Take back on the first u elements of buffer b: its answer r, and the buffer after it
pub record Call (u n : ℕ) (b : List ℤ) (r : Result ℕ Refusal) (b' : List ℤ) : Type 0 where
  pub is : called r b' ≡ take_back_call u n b

-- the used part and its last group -----------------------------------------------------------------------------------

module _ {u n : ℕ} {b : List ℤ} (a : Takeable u n b) where
  abbrev t : List ℤ
  t = take u b

  abbrev v : ℕ
  v = last_start t

  abbrev b' : List ℤ
  b' = cleared v u b

  used_long : length t ≡ u
  used_long = length-take-le u b a.used

  some : 0 < length t
  some = omega (arith, length_elements t, a.some)

  is_last : Last t (take v t) (last_group t)
  is_last = last_found t (accepted_closed n t ((accepted_exactly n t).1 a.within)) some

  inside : v < u
  inside = omega (arith, start_inside t (accepted_closed n t ((accepted_exactly n t).1 a.within)) some, used_long)

  front : take v t ≡ take v b
  front = take-take v u b (omega (arith, inside))

  front_long : length (take v b) ≡ v
  front_long = length-take-le v b (omega (arith, inside, a.used))

  appended : Appended b v (replicate (u - v) (posℤ 0)) b' u
  appended = record { ends = omega (arith, inside, length-replicate (u - v) (posℤ 0)); room = a.used; whole = refl }

  run_cleared : take (u - v) (drop v b') ≡ replicate (u - v) (posℤ 0)
  run_cleared = rw (length-replicate (u - v) (posℤ 0)) at (appended_new appended)

  front_kept : take v b' ≡ take v b
  front_kept = appended_before appended

  rest_kept : drop u b' ≡ drop u b
  rest_kept = appended_past appended u (omega arith)

-- no group is a used part of no elements, which is refused for n alone ------------------------------------------------

empty_used : (u n : ℕ) (b : List ℤ) → u ≤ length b → WithinLimits n (take u b) → zeros (take u b) ≡ 0 → u ≡ 0
empty_used u n b h l z = elim (dec_lt 0 (length (take u b))) [
  | yes p ↦ absurd (omega (arith, z, last_zeros (last_found (take u b) (accepted_closed n (take u b) ((accepted_exactly n (take u b)).1 l)) p)))
  | no p ↦ omega (arith, length-take-le u b h)
]

empty_accepted : (n : ℕ) → n ≤ max_variables → check n [] ≡ pass
unfolding check zeros nonzeros ends_open first_place
empty_accepted n l = rw (le-ltb max_variables n l)

-- the promises -------------------------------------------------------------------------------------------------------

module _ {u n : ℕ} {b : List ℤ} {r : Result ℕ Refusal} {b' : List ℤ} (c : Call u n b r b') where
  -- a call by its checks: "taking back has 12, 1 to 5, then 28, nothing to take back, when there is no group"
  abbrev none : Checked
  none = refused_if (eqb (zeros (take u b)) 0) NoClause

  abbrev checks : List Checked
  checks = at_most u (length b) UsedLengthWrong ∷ check n (take u b) ∷ none ∷ []

  by_checks : Refusing (λ (s : TakeBackCall). s.answer) (λ w. take_back_refused w b) (first_refusal checks) (taken_back_call u b) (called r b')
  unfolding take_back_call
  by_checks = record { is = c.is; turns = λ w. refl; accepts = λ w e. let z : ◌≡◌ {A = ℕ} 0 1 = cc in omega arith }

  checked : (first_refusal checks ≡ pass) ↔ Takeable u n b
  checked =
      let k = both_pass (most_passes u (length b) UsedLengthWrong) (both_pass (accepted_exactly n (take u b)) (last_passes (if_passes (eqb (zeros (take u b)) 0) NoClause))) in (
        λ e. let h = k.0 e in let not_none = eqb-false (zeros (take u b)) 0 h.1.1 in record { used = h.0; within = h.1.0; some = omega (arith, not_none) },
        λ a. k.1 (a.used, (a.within, ne_eqb (zeros (take u b)) 0 (λ e. omega (arith, e, a.some)))),
      )

  -- demand 1, of Take back: accepted exactly when there is a group to take back
  pub take_back_accepts : NotRefused r ↔ Takeable u n b
  take_back_accepts = accepted_when by_checks checked

  take_back_taken : Takeable u n b → called r b' ≡ taken_back_call u b
  take_back_taken a = accepted_is by_checks (checked.1 a)

  -- 18 done, place 0; "the new used length is the answer": where the last group started
  pub take_back_answers : NotRefused r → (taking_back_receipt r ≡ receipt done 0 0) × (length_left r ≡ last_start (take u b))
  take_back_answers h =
      let e = take_back_taken (take_back_accepts.0 h) in
      (ap (λ (s : TakeBackCall). taking_back_receipt s.answer) e, ap (λ (s : TakeBackCall). length_left s.answer) e)

  -- demand 1: "a refused call changes no lent element"; "0 on refusal"
  pub take_back_refused_unchanged : (w : Refusal) → r ≡ Err w → (b' ≡ b) × (length_left r ≡ 0)
  take_back_refused_unchanged w e = (ap (λ (s : TakeBackCall). s.buffer) (unchanged by_checks w e).2, ap length_left e)

  -- A2: 5 is for the first unknown placement of the used part, with its group; "for all other numbers it is 0"
  pub take_back_names : Names (UnknownInTable n (take u b)) (taking_back_receipt r)
  take_back_names = call_names by_checks taking_back_receipt (λ w. refl)
      (first_named _ _ (most_named u (length b) UsedLengthWrong (λ e. omega arith)) (λ _. first_named _ _ (table_named n (take u b)) (λ _. first_named _ _ (if_named (eqb (zeros (take u b)) 0) NoClause (λ e. omega arith)) (λ _. passed_named refl))))
      (none_named done 0 0 (λ e. omega arith))

  -- refused exactly with the first check that refuses
  pub take_back_refused_lem : (w : Refusal) → (r ≡ Err w) ↔ RefusedFirst checks w
  take_back_refused_lem w = (λ e. let o = unchanged by_checks w e in let q : o.0 ≡ w = cc (ap (λ (x : TakeBackCall). x.answer) o.2) in (first_refuses checks w).0 (rw q at o.1), λ f. refused_with by_checks w ((first_refuses checks w).1 f))

  -- "taking back has 12,
  pub take_back_used_wrong : length b < u → r ≡ Err (refusal UsedLengthWrong 0)
  take_back_used_wrong l = refused_with by_checks (refusal UsedLengthWrong 0) (rw (lt-ltb (length b) u l))

  -- 1 to 5"
  pub take_back_table_refused : u ≤ length b → (w : Refusal) → check n (take u b) ≡ Err w → r ≡ Err w
  take_back_table_refused h w e = refused_with by_checks w (rw (le-ltb (length b) u h, e))

  -- "then 28, nothing to take back, when there is no group"
  pub take_back_nothing : (r ≡ Err (refusal NoClause 0)) ↔ ((u ≡ 0) × (n ≤ max_variables))
  unfolding zeros
  take_back_nothing = (
    λ q. let x = unchanged by_checks (refusal NoClause 0) q in let e : x.0 ≡ refusal NoClause 0 = cc (ap (λ (s : TakeBackCall). s.answer) x.2) in found (rw e at x.1),
    λ (z, l).
        let a : check n (take u b) ≡ pass = rw z (empty_accepted n l) in
        let k : zeros (take u b) ≡ 0 = rw z in
        refused_with by_checks (refusal NoClause 0) (rw (le-ltb (length b) u (omega arith), a, eq-eqb (zeros (take u b)) 0 k)),
  )
    where
      -- no check before it refuses with 28
      none_found : (d : Checked) → check n (take u b) ≡ d → u ≤ length b → first_of d (first_of none pass) ≡ Err (refusal NoClause 0) → (u ≡ 0) × (n ≤ max_variables)
      none_found (Err w) e h q = let k : w ≡ refusal NoClause 0 = cc in absurd (omega (arith, check_refuses n (take u b) w e, ap (λ (x : Refusal). faults.number_of x.fault) k))
      none_found (Ok x) e h q =
          let l = accepted_sizes n (take u b) e in
          (empty_used u n b h l (by_test (eqb (zeros (take u b)) 0) refl q), l.variables)
        where
          by_test : (p : Bool) → eqb (zeros (take u b)) 0 ≡ p → first_of (refused_if p NoClause) pass ≡ Err (refusal NoClause 0) → zeros (take u b) ≡ 0
          by_test true e q = eqb-true (zeros (take u b)) 0 e
          by_test false e q = absurd (not_passed (sym q))

      found : first_refusal checks ≡ Err (refusal NoClause 0) → (u ≡ 0) × (n ≤ max_variables)
      found = by_length (ltb (length b) u) refl
        where
          by_length : (p : Bool) → ltb (length b) u ≡ p → first_of (refused_if p UsedLengthWrong) (first_of (check n (take u b)) (first_of none pass)) ≡ Err (refusal NoClause 0) → (u ≡ 0) × (n ≤ max_variables)
          by_length true e q = let k : refusal UsedLengthWrong 0 ≡ refusal NoClause 0 = cc in absurd (omega (arith, ap (λ (x : Refusal). faults.number_of x.fault) k))
          by_length false e q = none_found (check n (take u b)) refl (ltb-false (length b) u e) q

  take_back_takeable : number_of r ≡ done → Takeable u n b
  take_back_takeable q = take_back_accepts.0 (number_not_refused taking_back_receipt (λ w. refl) r done refl q)

  -- 18: the last group is gone, and its elements and its 0 are 0
  pub take_back_takes : number_of r ≡ done → Taken u n (last_group (take u b)) b b' (length_left r)
  take_back_takes q =
      let a = take_back_takeable q in
      subst (λ (s : TakeBackCall). Taken u n (last_group (take u b)) b s.buffer (length_left s.answer)) (sym (take_back_taken a)) (record {
        last = (is_last a).whole ∙ ap (λ x. x ++ (last_group (take u b) ++ (posℤ 0 ∷ []))) (front a);
        one = (is_last a).no_zeros;
        cleared = run_cleared a;
        before = front_kept a;
        after = rest_kept a;
        limits = rw (front_kept a, ← front a) (shrunk_follows a.within (is_last a)).within;
        groups = rw (front_kept a, ← front a) (last_clauses (is_last a));
      })

-- "Adding and then taking back restores the length and all elements before it; those the group had filled are 0, later ones untouched."
module _ {u n : ℕ} {g b : List ℤ} (a : Addable u n g b) where
  abbrev after_adding : List ℤ
  after_adding = added u g b

  abbrev longer : ℕ
  longer = u + length g + 1

  table_is : take longer after_adding ≡ take u b ++ with_zero g
  table_is = added_table u g b a.room

  added_takeable : Takeable longer n after_adding
  added_takeable = record {
    used = omega (arith, a.room, added_length_lem u g b a.room);
    within = rw table_is (grown_limits a.follows);
    some = rw table_is (omega (arith, last_zeros (grown_last a.follows)));
  }

  starts_at : last_start (take longer after_adding) ≡ u
  starts_at = rw table_is (last_start_lem (grown_last a.follows) ∙ length-take-le u b a.used)

  undone : {r : Result ℕ Refusal} {b'' : List ℤ} → Call longer n after_adding r b'' → Restored u longer b r b''
  undone c =
      let w = take_back_answers c ((take_back_accepts c).1 added_takeable) in
      let k = w.1 ∙ starts_at in
      let s = take_back_takes c (ap (λ (x : Receipt). x.number) w.0) in
      record {
        answer = w.0;
        length_is = k;
        before = rw k at s.before ∙ added_before u g b a.room;
        filled = rw k at s.cleared;
        after = s.after ∙ added_after u g b a.room;
      }

pub take_back_after_add : {u n : ℕ} {g b : List ℤ} {a : Result ℕ Refusal} {b' : List ℤ} → adds.Call u n g b a b' → adds.number_of a ≡ 15 →
    {r : Result ℕ Refusal} {b'' : List ℤ} → Call (added_length a) n b' r b'' → Restored u (added_length a) b r b''
take_back_after_add {u} {n} {g} {b} c q {r} {b''} =
    let h = adds.add_addable c q in
    subst (λ (s : AddCall). Call (added_length s.answer) n s.buffer r b'' → Restored u (added_length s.answer) b r b'') (sym (adds.add_adds c h)) (undone h)

-- and taking back and then adding the same group restores the table, and the rest of the buffer too
module _ {u n : ℕ} {b : List ℤ} (a : Takeable u n b) where
  abbrev gone : List ℤ
  gone = last_group (take u b)

  abbrev shorter : ℕ
  shorter = last_start (take u b)

  abbrev after_taking : List ℤ
  after_taking = cleared shorter u b

  ends_at : shorter + length gone + 1 ≡ u
  ends_at = omega (
    arith,
    used_long a,
    ap length (is_last a).whole,
    length-append (take shorter (take u b)) (gone ++ (posℤ 0 ∷ [])),
    length-append gone (posℤ 0 ∷ []),
    ap length (front a),
    front_long a,
  )

  taken_addable : Addable shorter n gone after_taking
  taken_addable = record {
    used = omega (arith, inside a, a.used, appended_length (appended a));
    follows = rw (front_kept a, ← front a) (shrunk_follows a.within (is_last a));
    room = omega (arith, ends_at, a.used, appended_length (appended a));
  }

  buffer_back : added shorter gone after_taking ≡ b
  buffer_back =
      rw (front_kept a, ends_at, rest_kept a, ← front a)
      (sym (append_assoc (take shorter (take u b)) (gone ++ (posℤ 0 ∷ [])) (drop u b) ∙ ap (◌++◌ (take shorter (take u b))) (append_assoc gone (posℤ 0 ∷ []) (drop u b))) ∙ ap (λ x. x ++ drop u b) (sym (is_last a).whole) ∙ take-append-drop u b)

  redone : {s : Result ℕ Refusal} {b'' : List ℤ} → adds.Call shorter n gone after_taking s b'' → AddedBack u b s b''
  redone c =
      let e = adds.add_adds c taken_addable in
      record {
        answer = ap (λ (x : AddCall). adding_receipt x.answer) e;
        length_is = ap (λ (x : AddCall). added_length x.answer) e ∙ ends_at;
        buffer = ap (λ (x : AddCall). x.buffer) e ∙ buffer_back;
      }

pub take_back_then_add : {u n : ℕ} {b : List ℤ} {r : Result ℕ Refusal} {b' : List ℤ} → Call u n b r b' → number_of r ≡ done →
    {s : Result ℕ Refusal} {b'' : List ℤ} → adds.Call (length_left r) n (last_group (take u b)) b' s b'' → AddedBack u b s b''
take_back_then_add {u} {n} {b} c q {s} {b''} =
    let h = take_back_takeable c q in
    subst (λ (x : TakeBackCall). adds.Call (length_left x.answer) n (last_group (take u b)) x.buffer s b'' → AddedBack u b s b'') (sym (take_back_taken c h)) (redone h)
