-- The heads of a table, made one group after the other, are the heads of its clauses.
use mathlib.Core.Path.{◌≡◌, refl, ap, ◌∙◌}
use mathlib.Core.Logic.{◌≢◌}
use mathlib.Core.List.{List, [], ◌∷◌, ◌++◌, append_assoc}
use Prim.Native.Nat.{ℕ, zero, suc, ◌+◌, ◌-◌, ◌<◌, ◌≤◌}
use native.Mathlib.Nat.{zero-add}
use native.Mathlib.Numerals.{add-one}
use native.Mathlib.Omega.{arith}
use lib.Dec.{eqb-suc-zero}
use lib.IntN.{ℤ, negsuc, nat_abs, pos as posℤ}
use lib.ListN.{length, get_or, set, take, drop, drop_of_length-le}
use lib.Seq.{drop-cons}
use Rattle.std.proofs.lemmas.List.{append-nil, take_all, take_more_set}
use borrow.Author.Tests.{eq-eqb, ne_eqb}
use Rattle.literal.specs.declared.Literal.{Literal}
use Rattle.literal.specs.declared.Literal.TheVariants.{Pos, Neg}
use Rattle.receipt.specs.declared.Fault.TheVariants.{HeadsShort}
use Rattle.std.specs.Prelude.{Result, Ok, Err}
use Rattle.receipt.specs.declared.Refusal.{Refusal}
use Rattle.receipt.specs.Receipt.{Checked, pass}
use Rattle.receipt.specs.declared.Head.{Head}
use Rattle.theory.specs.Formula.{Clause, Formula, clauses, push}
use Rattle.theory.specs.Table.{zeros, check}
use Rattle.theory.specs.Refusing.{at_most, first_refusal, unless}
use Rattle.theory.specs.Calls.{over, index_call}
use Rattle.theory.specs.Heads.{head, heads_from, heads_of}
use Rattle.theory.proofs.Heads.{clauses_zeros, rest_at}
use Rattle.theory.proofs.Refusing.{most_passes, first_passed, last_passes}
use Rattle.index.specs.declared.Next.{Next}
use Rattle.index.specs.Index.{next_from, next_head, heads_at, due_of, called}

abbrev next : ℕ → ℕ → ℕ → Next
next s k i = record { head = head s k; next = i }

-- a group that begins at s and has k entries
abbrev ended : ℕ → ℕ → Next
ended s k = next s k (s + k + 1)

-- the loop over the elements of a group that begins at s: element i closes it, is an entry of it, or is past the end of the table
module _ (t : List ℤ) (s i : ℕ) (begun : s ≤ i) where
  pub next_closed : i < length t → nat_abs (get_or t i (posℤ 0)) ≡ 0 → next s (i - s) (i + 1) ≡ next_from s (i - s) (drop i t)
  unfolding next_from
  next_closed h e = rw (drop-cons t i (posℤ 0), eq-eqb _ 0 e) (ap (next s (i - s)) (omega arith))

  pub next_entry : i < length t → nat_abs (get_or t i (posℤ 0)) ≢ 0 → next_from s (i + 1 - s) (drop (i + 1) t) ≡ next_from s (i - s) (drop i t)
  unfolding next_from
  next_entry h e =
      let k : i + 1 - s ≡ suc (i - s) = omega arith in
      rw (k, add-one, drop-cons t i (posℤ 0), ne_eqb _ 0 e)

  pub next_ended : length t ≤ i → next s (i - s) i ≡ next_from s (i - s) (drop i t)
  unfolding next_from
  next_ended h = rw (drop_of_length-le t h) (ap (next s (i - s)) (omega arith))

-- the next head is that of the first clause
module _ (s : ℕ) where
  next_push : (l : Literal) (t : List ℤ) (c : Clause) (f : Formula) (k : ℕ) → ((d : Clause) → clauses t ≡ d ∷ f → next_from s (suc k) t ≡ ended s (suc k + length d)) →
      (g : Formula) → clauses t ≡ g → push l g ≡ c ∷ f → next_from s (suc k) t ≡ ended s (k + length c)
  next_push l t c f k ih [] q h = absurd (let z : ◌≡◌ {A = ℕ} 0 1 = cc in omega arith)
  next_push l t c f k ih (d ∷ g) q h =
      let a : c ≡ l ∷ d = cc in
      ih d (cc) ∙ rw a (ap (ended s) (omega arith))

  next_clause : (t : List ℤ) (c : Clause) (f : Formula) → clauses t ≡ c ∷ f → (k : ℕ) → next_from s k t ≡ ended s (k + length c)
  unfolding clauses next_from
  next_clause [] c f h k = absurd (let z : ◌≡◌ {A = ℕ} 0 1 = cc in omega arith)
  next_clause (posℤ zero ∷ t) c f h k = let a : c ≡ [] = cc in rw a (ap (ended s) (omega arith))
  next_clause (posℤ (suc p) ∷ t) c f h k = rw (eqb-suc-zero p) (next_push (Pos (suc p)) t c f k (λ d e. next_clause t d f e (suc k)) (clauses t) refl h)
  next_clause (negsuc p ∷ t) c f h k = rw (eqb-suc-zero p) (next_push (Neg (suc p)) t c f k (λ d e. next_clause t d f e (suc k)) (clauses t) refl h)

pub heads_length : (r : ℕ) (t : List ℤ) (at : ℕ) → length (heads_at r t at) ≡ r
unfolding heads_at
heads_length zero t at = refl
heads_length (suc r) t at = ap suc (heads_length r t (next_head t at).next)

heads_are : (t : List ℤ) (f : Formula) (s : ℕ) → clauses (drop s t) ≡ f → heads_at (length f) t s ≡ heads_from s f
unfolding heads_at heads_from
heads_are t [] s e = refl
heads_are t (c ∷ f) s e =
    let n : next_head t s ≡ ended s (0 + length c) = next_clause s (drop s t) c f e 0 in
    rw (n, zero-add) (ap (λ (hs : List Head). head s (length c) ∷ hs) (heads_are t f (s + length c + 1) (rest_at t s c f e)))

pub heads_made : (t : List ℤ) → heads_at (zeros t) t 0 ≡ heads_of t
heads_made t = rw (← clauses_zeros t) (heads_are t (clauses t) 0 refl)

-- the loop over the heads that are due: the first k stand, and those from `at` on are still to be stored
module _ (t : List ℤ) (due : ℕ) (hs : List Head) (room : length hs ≡ due) (at k : ℕ) where
  pub stored_turned : (x : Next) → x ≡ next_head t at → k < length hs →
      take (k + 1) (set hs k x.head) ++ heads_at (due - (k + 1)) t x.next ≡ take k hs ++ heads_at (due - k) t at
  unfolding heads_at
  stored_turned x e h =
      let z : due - k ≡ suc (due - (k + 1)) = omega (arith, room) in
      rw (z, take_more_set hs k x.head h, append_assoc, e)

  pub stored_ended : length hs ≤ k → take k hs ++ heads_at (due - k) t at ≡ hs
  unfolding heads_at
  stored_ended h = let z : due - k ≡ 0 = omega (arith, room) in rw (z, take_all k hs h) (append-nil hs)

-- a call: so many heads as are due, for which there is room, stored from the first on; or its refusal
module _ (n : ℕ) (t : List ℤ) (hs : List Head) where
  abbrev pub Stored : Result ℕ Refusal → Type 0
  Stored (Ok due) = (due ≤ length hs) × (called pass (over due (heads_at due t 0) hs) ≡ index_call n t hs)
  Stored (Err r) = called (Err r) hs ≡ index_call n t hs

  abbrev checks : Checked
  checks = first_refusal (check n t ∷ at_most (zeros t) (length hs) HeadsShort ∷ [])

  has_room : checks ≡ pass → zeros t ≤ length hs
  has_room e = (most_passes (zeros t) (length hs) HeadsShort).0 ((last_passes (λ k. k, λ k. k)).0 ((first_passed (check n t) _).0 e).1)

  pub index_stored : Stored (due_of n t (length hs))
  unfolding due_of index_call
  index_stored = go checks refl
    where
      go : (k : Checked) → checks ≡ k → Stored (unless k Err (Ok (zeros t)))
      go (Err r) e = rw e
      go (Ok u) e = (has_room e, rw (heads_made t, e))
