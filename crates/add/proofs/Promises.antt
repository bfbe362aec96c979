-- What a call of Add promises, by its receipt, the new used length and the buffer after it. All of it follows from the equation that `add` ensures.
use mathlib.Core.Path.{◌≡◌, refl, ap, sym, subst}
use mathlib.Core.Logic.{◌↔◌}
use mathlib.Core.List.{List, [], ◌∷◌, ◌++◌, map}
use Prim.Native.Nat.{ℕ, ◌+◌, ◌<◌, ◌≤◌}
use native.Mathlib.Omega.{arith}
use borrow.Author.Tests.{lt-ltb, le-ltb}
use lib.IntN.{ℤ, pos as posℤ}
use lib.ListN.{length, take, drop}
use Rattle.general.specs.Search.{First}
use Rattle.literal.specs.Literal.{literal_of, max_clauses, max_literals}
use Rattle.receipt.specs.Receipt.{unknown_variable, refusal, receipt, pass}
use Rattle.receipt.specs.Answers.{adding_receipt, added_length}
use Rattle.std.specs.Prelude.{Result, Err}
use Rattle.receipt.specs.declared.Fault.TheVariants.{TooManyClauses, TooManyLiterals, UsedLengthWrong, TableShort}
use Rattle.receipt.specs.declared.Refusal.{Refusal}
use Rattle.theory.specs.Calls.{AddCall, add_refused, is_wrong, unknown_in, added_call, check_group, check_added, add_call}
use Rattle.theory.specs.Formula.{clauses}
use Rattle.theory.specs.Refusing.{at_most, NotRefused, RefusedFirst}
use Rattle.theory.specs.Table.{zeros, nonzeros, check, Accepted, WithinLimits}
use Rattle.theory.specs.Unknown.{UnknownInAdd, Names}
use Rattle.theory.proofs.Refusing.{passed_named, first_named, most_named, number_not_refused, first_refuses, Refusing, accepted_is, refused_with, accepted_when, unchanged, call_names}
use Rattle.theory.proofs.Tables.{accepted_exactly}
use Rattle.theory.proofs.Unknown.{none_named}
use Rattle.add.specs.Add.{called}
use Rattle.add.specs.Addable.{Follows, Addable}
use Rattle.add.proofs.Growing.{grown_limits, grown_clauses, added_table, added_before, added_list, added_after}
use Rattle.add.proofs.Refusals.{checked_exactly, added_exactly, list_unknown_refused}
use Rattle.add.proofs.Unknown.{group_named}

abbrev pub number_of : Result ℕ Refusal → ℕ
number_of r = (adding_receipt r).number

-- a call of Add on list g, after the first u elements of buffer b: its answer r, and the buffer after it
pub record Call (u n : ℕ) (g b : List ℤ) (r : Result ℕ Refusal) (b' : List ℤ) : Type 0 where
  pub is : called r b' ≡ add_call u n g b

-- the buffer b' after list g was added, with v the new used length
pub record Stored (u n : ℕ) (g b b' : List ℤ) (v : ℕ) : Type 0 where
  -- "The list and a closing 0 are stored at u"
  pub list : drop u (take v b') ≡ g ++ (posℤ 0 ∷ [])
  -- "Elements not named are never changed."
  pub before : take u b' ≡ take u b
  pub after : drop v b' ≡ drop v b
  -- the used part is again a table within the limits, whose groups are the old ones and then the list
  pub limits : WithinLimits n (take v b')
  pub groups : clauses (take v b') ≡ clauses (take u b) ++ (map literal_of g ∷ [])

-- the promises ---------------------------------------------------------------------------------------------------------

module _ {u n : ℕ} {g b : List ℤ} {r : Result ℕ Refusal} {b' : List ℤ} (c : Call u n g b r b') where
  -- a call by its checks: "Add: 12, then 1 to 5 on the used part, 2 and 3 with the group added .., 5 on the list .., 23"
  pub by_checks : Refusing (λ (s : AddCall). s.answer) (λ w. add_refused w b) (check_added u n g b (length b)) (added_call u g b) (called r b')
  unfolding add_call
  by_checks = record { is = c.is; turns = λ w. refl; accepts = λ w e. let z : ◌≡◌ {A = ℕ} 0 1 = cc in omega arith }

  checked : (check_added u n g b (length b) ≡ pass) ↔ Addable u n g b
  checked =
      let k = added_exactly u n g b (length b) in (
        λ e. let h = k.0 e in record { used = h.0.0; follows = h.0.1; room = h.1 },
        λ a. k.1 ((a.used, a.follows), a.room),
      )

  -- demand 1, of Add: accepted exactly when the list may be added
  pub add_accepts : NotRefused r ↔ Addable u n g b
  add_accepts = accepted_when by_checks checked

  -- and then the call is this
  pub add_adds : Addable u n g b → called r b' ≡ added_call u g b
  add_adds a = accepted_is by_checks (checked.1 a)

  -- 15 group added; "the answer is the new used length"
  pub add_answers : NotRefused r → (adding_receipt r ≡ receipt 15 0 0) × (added_length r ≡ u + length g + 1)
  add_answers h = let e = add_adds (add_accepts.0 h) in (ap (λ (s : AddCall). adding_receipt s.answer) e, ap (λ (s : AddCall). added_length s.answer) e)

  -- demand 1: "a refused call changes no lent element"; "0 on refusal"
  pub add_refused_unchanged : (w : Refusal) → r ≡ Err w → (b' ≡ b) × (added_length r ≡ 0)
  add_refused_unchanged w e = (ap (λ (s : AddCall). s.buffer) (unchanged by_checks w e).2, ap added_length e)

  -- A2: 5 is for the first unknown placement of the used part, or for the first wrong element of the list, with its group; "for all other numbers it is 0"
  pub add_names : Names (UnknownInAdd n (take u b) g) (adding_receipt r)
  add_names = call_names by_checks adding_receipt (λ w. refl)
      (first_named _ _ (group_named u n g b) (λ _. first_named _ _ (most_named (u + length g + 1) (length b) TableShort (λ e. omega arith)) (λ _. passed_named refl)))
      (none_named 15 0 0 (λ e. omega arith))

  -- refused exactly with the first check that refuses: those of the group, and then the room
  pub add_refused_lem : (w : Refusal) → (r ≡ Err w) ↔ RefusedFirst (check_group u n g b ∷ at_most (u + length g + 1) (length b) TableShort ∷ []) w
  add_refused_lem w = (λ e. let o = unchanged by_checks w e in let q : o.0 ≡ w = cc (ap (λ (x : AddCall). x.answer) o.2) in (first_refuses (check_group u n g b ∷ at_most (u + length g + 1) (length b) TableShort ∷ []) w).0 (rw q at o.1), λ f. refused_with by_checks w ((first_refuses (check_group u n g b ∷ at_most (u + length g + 1) (length b) TableShort ∷ []) w).1 f))

  -- and those of the group: "12, then 1 to 5 on the used part, 2 and 3 with the group added .., 5 on the list"
  pub add_group_refused : (w : Refusal) → (check_group u n g b ≡ Err w) ↔ RefusedFirst (
      at_most u (length b) UsedLengthWrong ∷
      check n (take u b) ∷
      at_most (zeros (take u b) + 1) max_clauses TooManyClauses ∷
      at_most (nonzeros (take u b) + length g) max_literals TooManyLiterals ∷
      unknown_in u (zeros (take u b) + 1) n g ∷
      []
      ) w
  unfolding check_group
  add_group_refused w = first_refuses _ w

  -- each refusal in its order --------------------------------------------------------------------------------------------

  -- "Add: 12," a used length above the buffer's
  pub add_used_wrong : length b < u → r ≡ Err (refusal UsedLengthWrong 0)
  unfolding check_group
  add_used_wrong h = refused_with by_checks (refusal UsedLengthWrong 0) (rw (lt-ltb (length b) u h))

  module _ (used : u ≤ length b) where
    -- "then 1 to 5 on the used part,"
    pub add_table_refused : (w : Refusal) → check n (take u b) ≡ Err w → r ≡ Err w
    unfolding check_group
    add_table_refused w e = refused_with by_checks w (rw (le-ltb (length b) u used, e))

    module _ (within : WithinLimits n (take u b)) where
      accepted : Accepted n (take u b)
      accepted = (accepted_exactly n (take u b)).1 within

      -- "2 and 3 with the group added (each element of the list counts as an entry),"
      pub add_clauses_over : max_clauses < zeros (take u b) + 1 → r ≡ Err (refusal TooManyClauses 0)
      unfolding check_group
      add_clauses_over h = refused_with by_checks (refusal TooManyClauses 0) (rw (le-ltb (length b) u used, accepted, lt-ltb max_clauses (zeros (take u b) + 1) h))

      module _ (few : zeros (take u b) + 1 ≤ max_clauses) where
        pub add_literals_over : max_literals < nonzeros (take u b) + length g → r ≡ Err (refusal TooManyLiterals 0)
        unfolding check_group
        add_literals_over h = refused_with by_checks (refusal TooManyLiterals 0)
            (rw (le-ltb (length b) u used, accepted, le-ltb max_clauses (zeros (take u b) + 1) few, lt-ltb max_literals (nonzeros (take u b) + length g) h))

        -- "5 on the list (place u plus its index there)": the first element that is a zero or of an unknown placement
        pub add_list_unknown : nonzeros (take u b) + length g ≤ max_literals → (i : ℕ) → First (is_wrong n) g i →
            r ≡ Err (refusal (unknown_variable (zeros (take u b) + 1)) (u + i))
        unfolding check_group
        add_list_unknown h i f = refused_with by_checks (refusal (unknown_variable (zeros (take u b) + 1)) (u + i)) (rw (
          le-ltb (length b) u used,
          accepted,
          le-ltb max_clauses (zeros (take u b) + 1) few,
          le-ltb max_literals (nonzeros (take u b) + length g) h,
          list_unknown_refused u (zeros (take u b) + 1) n g i f,
        ))

    -- "23": a list that may follow, without room for it and its 0
    pub add_table_short : Follows n (take u b) g → length b < u + length g + 1 → r ≡ Err (refusal TableShort 0)
    add_table_short f h =
        let p : check_group u n g b ≡ pass = (checked_exactly u n g b).1 (used, f) in
        refused_with by_checks (refusal TableShort 0) (rw (p, lt-ltb (length b) (u + length g + 1) h))

  -- what is added --------------------------------------------------------------------------------------------------------

  -- 15 says that the list may be added
  pub add_addable : number_of r ≡ 15 → Addable u n g b
  add_addable q = add_accepts.0 (number_not_refused adding_receipt (λ w. refl) r 15 refl q)

  -- 15: the list is stored, and the used part is a table again
  pub add_stores : number_of r ≡ 15 → Stored u n g b b' (added_length r)
  add_stores q =
      let a = add_addable q in
      subst (λ (s : AddCall). Stored u n g b s.buffer (added_length s.answer)) (sym (add_adds a)) (record {
        before = added_before u g b a.room;
        list = added_list u g b a.room;
        after = added_after u g b a.room;
        limits = rw (added_table u g b a.room) (grown_limits a.follows);
        groups = rw (added_table u g b a.room) (grown_clauses a.follows);
      })
