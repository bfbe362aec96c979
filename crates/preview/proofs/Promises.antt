-- What a call of Preview promises, by its number on the receipt and both lists after it. All of it follows from the equation that `preview` ensures.
use mathlib.Core.Path.{◌≡◌, refl, ap, sym, ◌∙◌}
use mathlib.Core.Logic.{◌⊎◌, inl, inr, ⊎_elim, ◌↔◌, ◌≢◌}
use mathlib.Core.List.{List, [], ◌∷◌, ◌++◌, map}
use Prim.Native.Nat.{ℕ, suc, ◌+◌, ◌<◌, ◌≤◌}
use native.Mathlib.Decide.{dec_lt}
use native.Mathlib.Omega.{arith}
use lib.IntN.{ℤ, pos as posℤ}
use lib.ListN.{length, get_or, take, drop}
use Rattle.literal.specs.Literal.{literal_of}
use Rattle.std.specs.Prelude.{Result, Ok, Err}
use Rattle.receipt.specs.declared.Settling.{Settling}
use Rattle.receipt.specs.declared.Settling.TheVariants as settling
use Rattle.receipt.specs.declared.Fault.TheVariants.{StateShort, ReasonsShort, TableShort}
use Rattle.receipt.specs.declared.Refusal.{Refusal}
use Rattle.receipt.specs.Receipt.{Checked, pass, refusal, receipt}
use Rattle.receipt.specs.Receipt as faults
use Rattle.receipt.specs.Answers.{settling_receipt}
use Rattle.theory.specs.Calls.{SettleCall, settled_call, settle_refused, settle_call, AddCall, check_group, add_call, settle_after, preview_call}
use Rattle.theory.specs.Formula.{clauses}
use Rattle.theory.specs.Propagation.{settle}
use Rattle.theory.specs.Reasons.{SettledBy}
use Rattle.theory.specs.Refusing.{at_most, first_refusal, unless, NotRefused, RefusedFirst}
use Rattle.theory.specs.State.{initial}
use Rattle.theory.specs.Table.{zeros, Accepted}
use Rattle.theory.specs.Unknown.{UnknownInAdd, Names}
use Rattle.theory.proofs.LastGroup.{last_zeros}
use Rattle.theory.proofs.Refusing.{most_passes, both_pass, last_passes, passed_named, first_named, most_named, number_not_refused, first_refuses, Refusing, refused_is, refused_with, accepted_when, unchanged, call_names}
use Rattle.settle.specs.Settle.{called}
use Rattle.settle.proofs.Promises as settles
use Rattle.add.specs.Addable.{Follows}
use Rattle.add.proofs.Growing.{with_zero, grown_limits, grown_last, grown_clauses}
use Rattle.add.proofs.Refusals.{checked_exactly, checked_alike, group_refuses}
use Rattle.add.proofs.Unknown.{group_named}
use Rattle.add.proofs.Promises as adds
use Rattle.preview.specs.Preview.{Call, Previewable}
use Rattle.preview.proofs.Calling.{previewed, copy_settled, preview_checked, grown_accepted}

abbrev pub number_of : Result Settling Refusal → ℕ
number_of r = (settling_receipt r).number

-- the table that Add would make
abbrev pub grown : ℕ → List ℤ → List ℤ → List ℤ
grown u g b = take u b ++ with_zero g

-- Of the definitions: a preview is Settle of the used part that Add leaves in any copy with room enough. ------------------

module _ (u n : ℕ) (g b c l : List ℤ) (m : List ℕ) (in_buffer : u ≤ length b) (in_copy : u ≤ length c) (alike : take u c ≡ take u b) where
  -- whatever room the buffer has, and whatever stands after its used part
  pub preview_alike : preview_call u n g c l m ≡ preview_call u n g b l m
  preview_alike =
      preview_checked u n g c l m
      ∙ ap (previewed u n g c l m) (checked_alike u n g c b in_copy in_buffer alike)
      ∙ ap (λ t. unless (check_group u n g b) (λ r. settle_refused r l m) (settle_call n (t ++ with_zero g) l m)) alike
      ∙ sym (preview_checked u n g b l m)

  pub preview_any_copy : u + length g + 1 ≤ length c → let a = add_call u n g c in preview_call u n g b l m ≡ settle_after a.answer n a.buffer l m
  preview_any_copy room = preview_checked u n g b l m ∙ sym (copy_settled u n g b l m in_buffer c alike room)

-- a call by its checks: "the preview has add's refusals without 23, then 14, 19" --------------------------------------

abbrev checks : ℕ → ℕ → List ℤ → List ℤ → List ℤ → List ℕ → List Checked
checks u n g b l m = check_group u n g b ∷ at_most n (length l) StateShort ∷ at_most n (length m) ReasonsShort ∷ []

-- where Add's checks pass, the table that Add would make passes Settle's
preview_is : (u n : ℕ) (g b l : List ℤ) (m : List ℕ) → preview_call u n g b l m ≡ unless (first_refusal (checks u n g b l m)) (λ w. settle_refused w l m) (settled_call n (clauses (grown u g b)) l m)
unfolding settle_call
preview_is u n g b l m = preview_checked u n g b l m ∙ go (check_group u n g b) refl
  where
    go : (k : Checked) → check_group u n g b ≡ k →
        previewed u n g b l m k ≡ unless (first_refusal (k ∷ at_most n (length l) StateShort ∷ at_most n (length m) ReasonsShort ∷ [])) (λ w. settle_refused w l m) (settled_call n (clauses (grown u g b)) l m)
    go (Err w) e = refl
    go (Ok _) e = let a : Accepted n (grown u g b) = grown_accepted u n g b e in rw a

checked : (u n : ℕ) (g b l : List ℤ) (m : List ℕ) → (first_refusal (checks u n g b l m) ≡ pass) ↔ Previewable u n g b l m
checked u n g b l m =
    let k = both_pass (checked_exactly u n g b) (both_pass (most_passes n (length l) StateShort) (last_passes (most_passes n (length m) ReasonsShort))) in (
      λ e. let h = k.0 e in record { used = h.0.0; follows = h.0.1; list_room = h.1.0; reasons_room = h.1.1 },
      λ p. k.1 ((p.used, p.follows), (p.list_room, p.reasons_room)),
    )

-- the promises -----------------------------------------------------------------------------------------------------------

module _ {u n : ℕ} {g b l : List ℤ} {m : List ℕ} {r : Result Settling Refusal} {l' : List ℤ} {m' : List ℕ} {b' : List ℤ} (c : Call u n g b l m r l' m' b') where
  by_checks : Refusing (λ (s : SettleCall). s.answer) (λ w. settle_refused w l m) (first_refusal (checks u n g b l m)) (settled_call n (clauses (grown u g b)) l m) (called r l' m')
  by_checks = record { is = c.is ∙ preview_is u n g b l m; turns = λ w. refl; accepts = settles.settling_answers (settle n (clauses (grown u g b)) initial) }

  -- demand 1, of Preview: accepted exactly when the list may follow the used part and both lists have room, whatever room the buffer has
  pub preview_accepts : NotRefused r ↔ Previewable u n g b l m
  preview_accepts = accepted_when by_checks (checked u n g b l m)

  -- it is a call of Settle, of which every promise of Settle speaks, on the used part with the list and its 0
  pub preview_settles : u ≤ length b → Follows n (take u b) g → settles.Call n (grown u g b) l m r l' m'
  preview_settles h f = record { is = c.is ∙ preview_checked u n g b l m ∙ ap (previewed u n g b l m) ((checked_exactly u n g b).1 (h, f)) }

  -- 13 settled, 10 no layout; place and count are 0
  pub preview_answers : NotRefused r → (settling_receipt r ≡ receipt 13 0 0) ⊎ (settling_receipt r ≡ receipt 10 0 0)
  preview_answers k = let p = preview_accepts.0 k in settles.settle_answers (preview_settles p.used p.follows) k

  -- demand 1: "a refused call changes no lent element"
  pub preview_refused_unchanged : (w : Refusal) → r ≡ Err w → (l' ≡ l) × (m' ≡ m)
  preview_refused_unchanged w e = let q = (unchanged by_checks w e).2 in (ap (λ (s : SettleCall). s.list) q, ap (λ (s : SettleCall). s.reasons) q)

  -- A2: 5 is for the first unknown placement of the used part, or for the first wrong element of the list, with its group; "for all other numbers it is 0"
  pub preview_names : Names (UnknownInAdd n (take u b) g) (settling_receipt r)
  preview_names = call_names by_checks settling_receipt (λ w. refl)
      (first_named _ _ (group_named u n g b) (λ _. first_named _ _ (most_named n (length l) StateShort (λ e. omega arith)) (λ _. first_named _ _ (most_named n (length m) ReasonsShort (λ e. omega arith)) (λ _. passed_named refl))))
      (settles.settling_names (settle n (clauses (grown u g b)) initial))

  -- "write the state list and reasons, and answer the number, that settling would after adding it to a copy with room enough": beside any call of Add on such a copy d
  pub preview_settles_added : (d : List ℤ) {a : Result ℕ Refusal} {d' : List ℤ} → adds.Call u n g d a d' → u ≤ length b → take u d ≡ take u b → u + length g + 1 ≤ length d →
      called r l' m' ≡ settle_after a n d' l m
  preview_settles_added d {a} {d'} e h k room =
      c.is ∙ preview_any_copy u n g b d l m h (omega arith) k room ∙ ap (λ (s : AddCall). settle_after s.answer n s.buffer l m) (sym e.is)

  -- "The table itself is untouched."
  pub preview_buffer_kept : b' ≡ b
  preview_buffer_kept = c.kept

  -- "Elements not named are never changed."
  pub preview_rest_kept : (drop n l' ≡ drop n l) × (drop n m' ≡ drop n m)
  preview_rest_kept = go (first_refusal (checks u n g b l m)) refl
    where
      go : (k : Checked) → first_refusal (checks u n g b l m) ≡ k → (drop n l' ≡ drop n l) × (drop n m' ≡ drop n m)
      go (Err w) e = let q = refused_is by_checks w e in (ap (λ (s : SettleCall). drop n s.list) q, ap (λ (s : SettleCall). drop n s.reasons) q)
      go (Ok _) e = let p = (checked u n g b l m).0 e in settles.settle_rest_kept (preview_settles p.used p.follows)

  -- refused exactly with the first check that refuses
  pub preview_refused : (w : Refusal) → (r ≡ Err w) ↔ RefusedFirst (checks u n g b l m) w
  preview_refused w = (λ e. let o = unchanged by_checks w e in let q : o.0 ≡ w = cc (ap (λ (x : SettleCall). x.answer) o.2) in (first_refuses (checks u n g b l m) w).0 (rw q at o.1), λ f. refused_with by_checks w ((first_refuses (checks u n g b l m) w).1 f))

  -- "the preview has add's refusals without 23": what Add's checks refuse, the preview refuses
  pub preview_add_refused : (w : Refusal) → check_group u n g b ≡ Err w → r ≡ Err w
  preview_add_refused w e = refused_with by_checks w (rw e)

  -- "then 14, 19"
  pub preview_state_short : u ≤ length b → Follows n (take u b) g → length l < n → r ≡ Err (refusal StateShort 0)
  preview_state_short h f = settles.settle_state_short (preview_settles h f) (grown_limits f)

  pub preview_reasons_short : u ≤ length b → Follows n (take u b) g → n ≤ length l → length m < n → r ≡ Err (refusal ReasonsShort 0)
  preview_reasons_short h f = settles.settle_reasons_short (preview_settles h f) (grown_limits f)

  -- a refusal past Add's checks is one of these two
  short_lists : u ≤ length b → Follows n (take u b) g → (w : Refusal) → r ≡ Err w → (faults.number_of w.fault ≡ 14) ⊎ (faults.number_of w.fault ≡ 19)
  short_lists h f w q = elim (dec_lt (length l) n) [
    | yes k ↦ let e : w ≡ refusal StateShort 0 = cc (preview_state_short h f k) in rw e (inl refl)
    | no k ↦ elim (dec_lt (length m) n) [
      | yes j ↦ let e : w ≡ refusal ReasonsShort 0 = cc (preview_reasons_short h f (omega arith) j) in rw e (inr refl)
      | no j ↦ absurd (preview_accepts.1 (record { used = h; follows = f; list_room = omega arith; reasons_room = omega arith }) w q)
    ]
  ]

  -- what refuses: Add's checks, or one of the lists after them
  refused_by : (w : Refusal) → r ≡ Err w → (check_group u n g b ≡ Err w) ⊎ ((faults.number_of w.fault ≡ 14) ⊎ (faults.number_of w.fault ≡ 19))
  refused_by w q = go (check_group u n g b) refl
    where
      go : (k : Checked) → check_group u n g b ≡ k → (check_group u n g b ≡ Err w) ⊎ ((faults.number_of w.fault ≡ 14) ⊎ (faults.number_of w.fault ≡ 19))
      go (Err v) e = let k : v ≡ w = cc (preview_add_refused v e) in inl (rw k at e)
      go (Ok _) e = let a = (checked_exactly u n g b).0 e in inr (short_lists a.0 a.1 w q)

  -- "the preview has add's refusals without 23": never 23
  pub preview_never_23 : number_of r ≢ 23
  preview_never_23 = go r refl
    where
      go : (x : Result Settling Refusal) → r ≡ x → number_of x ≢ 23
      go (Ok settling.NoLayout) e q = omega arith
      go (Ok settling.Settled) e q = omega arith
      go (Err w) e q = ⊎_elim
          (λ k. omega (arith, q, group_refuses u n g b w k))
          (λ k. ⊎_elim (λ (j : faults.number_of w.fault ≡ 14). omega (arith, q)) (λ (j : faults.number_of w.fault ≡ 19). omega (arith, q)) k)
          (refused_by w e)

  -- beside a call of Add on the same buffer
  module _ {a : Result ℕ Refusal} {d : List ℤ} (e : adds.Call u n g b a d) (w : Refusal) where
    -- what Add refuses is refused alike, 23 apart
    pub preview_as_add : faults.number_of w.fault ≢ 23 → a ≡ Err w → r ≡ Err w
    preview_as_add z q = go (check_group u n g b) refl
      where
        go : (k : Checked) → check_group u n g b ≡ k → r ≡ Err w
        go (Err v) k = let j : v ≡ w = cc (refused_with (adds.by_checks e) v (rw k)) in preview_add_refused w (rw j at k)
        go (Ok _) k =
            let x = (checked_exactly u n g b).0 k in
            elim (dec_lt (length b) (u + length g + 1)) [
              | yes s ↦ let j : refusal TableShort 0 ≡ w = cc (adds.add_table_short e x.0 x.1 s) in absurd (z (rw (← j)))
              | no s ↦ absurd ((adds.add_accepts e).1 (record { used = x.0; follows = x.1; room = omega arith }) w q)
            ]

    -- and what a preview refuses, but for the two lists that Add isn't lent, Add refuses alike
    pub preview_only_as_add : faults.number_of w.fault ≢ 14 → faults.number_of w.fault ≢ 19 → r ≡ Err w → a ≡ Err w
    preview_only_as_add x y q = ⊎_elim (λ k. refused_with (adds.by_checks e) w (rw k)) (λ k. absurd (⊎_elim x y k)) (refused_by w q)

  -- 13: where a placement isn't open its reason is the group that settled or tied it, the list being the last of the groups, with the number after those of the used part
  module _ (settled_is : number_of r ≡ 13) (i : ℕ) (h : i < n) (not_open : get_or l' i (posℤ 0) ≢ posℤ (suc i)) where
    accepted : Previewable u n g b l m
    accepted = preview_accepts.0 (number_not_refused settling_receipt (λ w. refl) r 13 refl settled_is)

    as_settle : settles.Call n (grown u g b) l m r l' m'
    as_settle = preview_settles accepted.used accepted.follows

    pub preview_reason_named : SettledBy (clauses (take u b) ++ (map literal_of g ∷ [])) (suc i) (get_or m' i 0)
    preview_reason_named = rw (← grown_clauses accepted.follows) (settles.settle_reason_named as_settle settled_is i h not_open)

    pub preview_reason_between : (1 ≤ get_or m' i 0) × (get_or m' i 0 ≤ zeros (take u b) + 1)
    preview_reason_between =
        let w = settles.settle_reason_between as_settle settled_is i h not_open in
        (w.0, omega (arith, w.1, last_zeros (grown_last accepted.follows)))
