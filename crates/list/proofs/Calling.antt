-- The whole call: the walk from the initial state writes the rows, and what it leaves of the room asked for becomes 0.
use mathlib.Core.Path.{◌≡◌, refl, ap, sym, ◌∙◌}
use mathlib.Core.Bool.{Bool, true, false, cond}
use mathlib.Core.List.{List, [], ◌∷◌, ◌++◌, append_assoc}
use Prim.Native.Nat.{ℕ, suc, ◌+◌, ◌*◌, ◌-◌, ◌≤◌, min}
use native.Mathlib.Nat.{add-mul, zero-mul, zero-add, mul-le-mul_right}
use native.Mathlib.Omega.{arith}
use borrow.Author.Tests.{lt-ltb, le-ltb, ne_eqb}
use lib.Dec.{eqb, ltb}
use lib.IntN.{ℤ}
use lib.ListN.{length, take, drop, replicate}
use lib.Seq.{take_all, take-nil}
use Rattle.general.specs.Appending.{take_next, appended_past}
use Rattle.std.specs.Prelude.{Ok}
use Rattle.receipt.specs.declared.Outcome.{Outcome}
use Rattle.receipt.specs.declared.Outcome.TheVariants.{LaidOut, NoLayout, Stopped}
use Rattle.receipt.specs.Answers.{listing}
use Rattle.theory.specs.Calls.{over, listed_call, list_call}
use Rattle.theory.specs.Formula.{Choice}
use Rattle.theory.specs.Listing.{list_tree, list, row_bytes, rows_of}
use Rattle.theory.specs.Table.{Accepted}
use Rattle.theory.specs.Tree.{Found, Run, choices_found, Limited, finished, finish, stop, limited}
use Rattle.theory.proofs.Budget.{limited_enough, limited_short}
use Rattle.theory.proofs.Tree.{choices_length}
use Rattle.list.specs.declared.Ending.{Ending}
use Rattle.list.specs.declared.Ending.TheVariants as ending
use Rattle.list.specs.declared.Walk.{Walk}
use Rattle.list.specs.Call.{called}
use Rattle.list.specs.Walk.{Wrote, EndsIn, Walked, top, kept, kept_rows, ended_as, answer_of}
use Rattle.list.proofs.Rows.{walked_rows}

-- the rows that count -----------------------------------------------------------------------------------------------

-- rows that were written, and zeros up to the room asked for
module _ (n k m : ℕ) (h : m ≤ k) where
  pub rows_sum : m * n + (k - m) * n ≡ k * n
  rows_sum = let e : m + (k - m) ≡ k = omega arith in sym (add-mul m (k - m) n) ∙ ap (λ (j : ℕ). j * n) e

  cleared : (old mid : List ℕ) → drop (k * n) mid ≡ drop (k * n) old → (b : List ℕ) → take (m * n) mid ≡ b → (new : List ℕ) → new ≡ take (m * n) mid ++ (replicate ((k - m) * n) 0 ++ drop (m * n + (k - m) * n) mid) →
      new ≡ over (k * n) (b ++ replicate ((k - m) * n) 0) old
  cleared old mid beyond b e new is = is ∙ rw (e, rows_sum, beyond) (sym (append_assoc b (replicate ((k - m) * n) 0) (drop (k * n) old)))

-- what the walk finds, as the definition has it ----------------------------------------------------------------------

finished_as : (l : List (Found Choice)) → cond (eqb (length l) 0) NoLayout LaidOut ≡ finished l
finished_as [] = refl
finished_as (a ∷ l) = rw (ne_eqb (suc (length l)) 0 (λ e. omega arith))

-- no more rows count than were asked for
module _ (n k b : ℕ) (r : Run Choice) (old mid : List ℕ) (w : Walk) where
  pub kept_most : Walked (top n k b) r old mid w → kept_rows w ≤ k
  kept_most h = go w.ending (omega (arith, walked_rows (top n k b) r old mid w h))
    where
      go : (e : Ending) → w.written ≤ k → kept e w.written ≤ k
      go ending.All h = h
      go ending.More h = h
      go ending.Stopped h = omega arith

-- the walk, and the zeros after it
module _ (n k b : ℕ) (r : Run Choice) (old mid : List ℕ) (w : Walk) (new : List ℕ) where
  abbrev Clears : ℕ → Type 0
  Clears m = new ≡ take (m * n) mid ++ (replicate ((k - m) * n) 0 ++ drop (m * n + (k - m) * n) mid)

  wrote_call : (m : ℕ) → m ≤ k → Wrote (top n k b) r old mid w m → Clears m → new ≡ over (k * n) (row_bytes (take m (choices_found r.found)) ++ replicate ((k - m) * n) 0) old
  wrote_call m h g is =
      let here : (0 + m) * n ≡ m * n = ap (λ (j : ℕ). j * n) (zero-add m) in
      let front : take 0 old ≡ [] = refl in
      let a = rw (here, zero-mul n) at g.bytes in
      cleared n k m h old mid (appended_past a (k * n) (mul-le-mul_right {m = m} {n = k} n h)) _ (take_next a) new is

  -- an answer with its numbers, and the rows that go with it
  same_call : (res : Limited Choice) (o : Outcome) (m : ℕ) (more : Bool) (c : ℕ) → o ≡ res.outcome → m ≡ min k (length res.found) → more ≡ ltb k (length res.found) → c ≡ res.count →
      new ≡ over (k * n) (rows_of n k (choices_found res.found)) old → called (listing o m more c) new ≡ listed_call n k res old
  same_call res o m more c eo em es ec en = rw (eo, em, es, ec, en)

  rows_as : (m : ℕ) → take m (choices_found r.found) ≡ take k (choices_found r.found) → k - m ≡ k - length (choices_found r.found) →
      row_bytes (take m (choices_found r.found)) ++ replicate ((k - m) * n) 0 ≡ rows_of n k (choices_found r.found)
  rows_as m e q = rw (e, q)

  found : length (choices_found r.found) ≡ length r.found
  found = choices_length r.found

  walked_call : Walked (top n k b) r old mid w → Clears (kept_rows w) → called (Ok (answer_of w (kept_rows w))) new ≡ listed_call n k (limited b r) old
  unfolding row_bytes
  walked_call h is = go w.ending h is
    where
      go : (e : Ending) → EndsIn e (top n k b) r old mid w → Clears (kept e w.written) → called (Ok (ended_as e (kept e w.written) w.count)) new ≡ listed_call n k (limited b r) old
      go ending.All h is =
          let few : length r.found ≤ k = omega (arith, h.0) in
          let cs : List Choice = choices_found r.found in
          rw (limited_enough b r h.1.enough)
          (same_call (finish r) _ w.written false w.count (rw h.1.rows_is (finished_as r.found)) (omega (arith, h.1.rows_is)) (sym (le-ltb k (length r.found) few)) h.1.count
          (wrote_call (length r.found) few h.1 (rw h.1.rows_is at is) ∙
          ap (λ l. over (k * n) l old) (rows_as (length r.found) (take_all (length r.found) cs (omega (arith, found)) ∙ sym (take_all k cs (omega (arith, found)))) (omega (arith, found)))))
      go ending.More h is =
          let all : k - 0 ≡ k = omega arith in
          let g : Wrote (top n k b) r old mid w k = rw all at h.1 in
          let some_found : ¬ (length r.found ≡ 0) = λ e. omega (arith, h.0) in
          rw (limited_enough b r g.enough)
          (same_call (finish r) LaidOut w.written true w.count (rw (ne_eqb (length r.found) 0 some_found) at (finished_as r.found)) (omega (arith, g.rows_is, h.0))
          (sym (lt-ltb k (length r.found) (omega (arith, h.0)))) g.count
          (wrote_call k (omega arith) g (rw g.rows_is at is) ∙ ap (λ l. over (k * n) l old) (rows_as k refl (omega (arith, found, h.0)))))
      go ending.Stopped h is =
          let none : take (0 * n) mid ≡ [] = rw (zero-mul n) in
          rw (limited_short b r h.short)
          (same_call (stop b) Stopped 0 false w.count refl (omega arith) (sym (le-ltb k 0 (omega arith))) h.count
          (cleared n k 0 (omega arith) old mid h.beyond [] none new is ∙ ap (λ (l : List Choice). over (k * n) (row_bytes l ++ replicate ((k - 0) * n) 0) old) (sym (take-nil k))))

-- the call, where the table and the room pass: the walk from the initial state, and the zeros after it ----------------

pub call_walked : (n : ℕ) (t : List ℤ) (k b : ℕ) (rows : List ℕ) → Accepted n t → k * n ≤ length rows →
    (mid new : List ℕ) (w : Walk) → Walked (top n k b) (list_tree n t k) rows mid w →
    (m : ℕ) → m ≡ kept_rows w → new ≡ take (m * n) mid ++ (replicate ((k - m) * n) 0 ++ drop (m * n + (k - m) * n) mid) →
    called (Ok (answer_of w m)) new ≡ list_call n t k b rows
unfolding list_call list
call_walked n t k b rows accepted h mid new w walked m e is =
    rw (accepted, le-ltb (length rows) (k * n) h, e) (walked_call n k b (list_tree n t k) rows mid w new walked (rw e at is))
