-- The last group of a table: what stands before it is a table, and it is found by going back from the end.
use mathlib.Core.Path.{◌≡◌, refl, ap, sym, ◌∙◌}
use mathlib.Core.Bool.{Bool, true, false}
use mathlib.Core.Logic.{⊎_elim}
use mathlib.Core.List.Memᴰ
use mathlib.Core.List.{List, [], ◌∷◌, ◌++◌, map, append_assoc, Memᴰ}
use Prim.Native.Nat.{ℕ, zero, suc, ◌+◌, ◌-◌, ◌<◌, ◌≤◌}
use native.Mathlib.Decide.{dec_lt}
use native.Mathlib.Omega.{arith}
use borrow.Author.Tests.{eq-eqb}
use lib.IntN.{ℤ, nat_abs, pos as posℤ}
use lib.ListN.{length, get_or, take, length-append, length-map, take-append-drop}
use lib.Seq.{length-take-le, take-length, take-suc, take-take, take_at, drop_at, get_or-append_seam, slice, slice_empty, slice-cons}
use Rattle.general.specs.Booleans.{bit}
use Rattle.literal.specs.Literal.{literal_of}
use Rattle.theory.specs.Formula.{clauses}
use Rattle.theory.specs.Table.{closes, zeros, nonzeros, ends_open}
use Rattle.theory.specs.Heads.{heads_of, last_head, last_start, last_group}
use Rattle.theory.proofs.Tables.{zeros_append, nonzeros_append, length_elements, ends_open_append, closed_ends, clauses_append, clauses_one}
use Rattle.theory.proofs.Heads.{clauses_zeros, heads_zeros, heads_hold, last_end}

-- t is the closed table s, and after it the entries g and a 0
pub record Last (t s g : List ℤ) : Type 0 where
  pub whole : t ≡ s ++ (g ++ (posℤ 0 ∷ []))
  pub closed : ends_open false s ≡ false
  pub no_zeros : zeros g ≡ 0

pub zeros_none : (g : List ℤ) → zeros g ≡ 0 → (e : ℤ) → Memᴰ e g → 0 < nat_abs e
unfolding zeros
zeros_none [] h e m = absurd (Memᴰ.not-nil m)
zeros_none (x ∷ g) h e m = ⊎_elim
    (λ (q : e ≡ x). rw q (elim (dec_lt 0 (nat_abs x)) [
      | yes p ↦ p
      | no p ↦ absurd (omega (arith, ap bit (eq-eqb (nat_abs x) 0 (omega arith))))
    ]))
    (zeros_none g (omega arith) e)
    (Memᴰ.cases_cons m)

-- what its head says, as Index stores it
module _ {t s g : List ℤ} (l : Last t s g) where
  pub last_clauses : clauses t ≡ clauses s ++ (map literal_of g ∷ [])
  last_clauses = rw l.whole (clauses_append false s (g ++ (posℤ 0 ∷ [])) l.closed ∙ ap (◌++◌ (clauses s)) (clauses_one g (zeros_none g l.no_zeros)))

  pub last_closed : ends_open false t ≡ false
  unfolding ends_open
  last_closed = rw l.whole (ends_open_append false s (g ++ (posℤ 0 ∷ [])) ∙ ends_open_append (ends_open false s) g (posℤ 0 ∷ []))

  pub last_zeros : zeros t ≡ zeros s + 1
  unfolding zeros
  last_zeros = rw l.whole (omega (arith, zeros_append s (g ++ (posℤ 0 ∷ [])), zeros_append g (posℤ 0 ∷ []), l.no_zeros))

  pub last_literals : nonzeros t ≡ nonzeros s + length g
  unfolding nonzeros
  last_literals = rw l.whole (omega (arith, nonzeros_append s (g ++ (posℤ 0 ∷ [])), nonzeros_append g (posℤ 0 ∷ []), length_elements g, l.no_zeros))

  clauses_length : length (clauses t) ≡ suc (length (clauses s))
  clauses_length = omega (arith, ap length last_clauses, length-append (clauses s) (map literal_of g ∷ []))

  head_index : length (heads_of t) - 1 ≡ length (clauses s)
  head_index = omega (arith, heads_zeros t, clauses_zeros t, clauses_length)

  last_entries : (last_head t).entries ≡ length g
  last_entries =
      let c : get_or (clauses t) (length (clauses s)) [] ≡ map literal_of g = rw last_clauses (get_or-append_seam (clauses s) (map literal_of g) [] []) in
      rw head_index ((heads_hold t (clauses t) 0 refl (length (clauses s)) (omega (arith, clauses_length))).entries ∙ ap length c ∙ length-map g literal_of)

  pub last_start_lem : last_start t ≡ length s
  last_start_lem =
      let e = rw (← head_index) at (last_end t (clauses t) 0 refl last_closed (length (clauses s)) (sym clauses_length)) in
      omega (arith, e, last_entries, ap length l.whole, length-append s (g ++ (posℤ 0 ∷ [])), length-append g (posℤ 0 ∷ []))

  last_group_lem : last_group t ≡ g
  last_group_lem = rw (last_start_lem, last_entries) (rw (l.whole, drop_at s (g ++ (posℤ 0 ∷ [])) (length s) refl) (take_at g (posℤ 0 ∷ []) (length g) refl))

-- going back from the last 0 of a closed table: no other 0 stands from i on
abbrev end : List ℤ → ℕ
end t = length t - 1

pub record Back (t : List ℤ) (i : ℕ) : Type 0 where
  pub inside : i ≤ end t
  pub entries : zeros (slice i (end t) t) ≡ 0

module _ (t : List ℤ) (closed : ends_open false t ≡ false) (some : 0 < length t) where
  pub back_begun : Back t (end t)
  unfolding zeros
  back_begun = record { inside = omega arith; entries = rw (slice_empty (end t) t) }

  pub back_turned : (k : ℕ) → Back t (suc k) → closes (get_or t k (posℤ 0)) ≡ false → Back t k
  unfolding zeros
  back_turned k b e = record { inside = omega (arith, b.inside); entries = rw (slice-cons k (end t) t (posℤ 0) b.inside (omega arith), e) (omega (arith, b.entries)) }

  all_but_last : t ≡ take (end t) t ++ (posℤ 0 ∷ [])
  all_but_last =
      let k : suc (end t) ≡ length t = omega arith in
      let cut : t ≡ take (end t) t ++ (get_or t (end t) (posℤ 0) ∷ []) = sym (take-length t) ∙ ap (λ m. take m t) (sym k) ∙ take-suc t (end t) (posℤ 0) (omega arith) in
      cut ∙ ap (λ e. take (end t) t ++ (e ∷ [])) (closed_ends t closed (take (end t) t) (get_or t (end t) (posℤ 0)) cut)

  back_last : (i : ℕ) → Back t i → ends_open false (take i t) ≡ false → Last t (take i t) (slice i (end t) t)
  back_last i b e =
      let front : take (end t) t ≡ take i t ++ slice i (end t) t = sym (take-append-drop i (take (end t) t)) ∙ ap (λ x. x ++ slice i (end t) t) (take-take i (end t) t b.inside) in
      record { whole = all_but_last ∙ ap (λ x. x ++ (posℤ 0 ∷ [])) front ∙ append_assoc (take i t) (slice i (end t) t) (posℤ 0 ∷ []); closed = e; no_zeros = b.entries }

  -- at the front, or after a 0
  back_front : Back t 0 → Last t (take 0 t) (slice 0 (end t) t)
  unfolding ends_open
  back_front b = back_last 0 b refl

  back_zero : (k : ℕ) → Back t (suc k) → closes (get_or t k (posℤ 0)) ≡ true → Last t (take (suc k) t) (slice (suc k) (end t) t)
  unfolding ends_open
  back_zero k b e = back_last (suc k) b (rw (take-suc t k (posℤ 0) (omega (arith, b.inside)), ends_open_append false (take k t) (get_or t k (posℤ 0) ∷ []), e))

  start_at_lem : (i : ℕ) → Last t (take i t) (slice i (end t) t) → Back t i → last_start t ≡ i
  start_at_lem i l b = last_start_lem l ∙ length-take-le i t (omega (arith, b.inside))

  pub start_front : Back t 0 → last_start t ≡ 0
  start_front b = start_at_lem 0 (back_front b) b

  pub start_zero : (k : ℕ) → Back t (suc k) → closes (get_or t k (posℤ 0)) ≡ true → last_start t ≡ suc k
  start_zero k b e = start_at_lem (suc k) (back_zero k b e) b

  record Found : Type 0 where
    start : ℕ
    back : Back t start
    is : Last t (take start t) (slice start (end t) t)

  found : (i : ℕ) → Back t i → Found
  found zero b = record { start = 0; back = b; is = back_front b }
  found (suc k) b = go (closes (get_or t k (posℤ 0))) refl (λ e. found k (back_turned k b e))
    where
      go : (c : Bool) → closes (get_or t k (posℤ 0)) ≡ c → (closes (get_or t k (posℤ 0)) ≡ false → Found) → Found
      go true e f = record { start = suc k; back = b; is = back_zero k b e }
      go false e f = f e

  -- it is the one that the last head tells
  pub last_found : Last t (take (last_start t) t) (last_group t)
  last_found =
      let f = found (end t) back_begun in
      rw (last_group_lem f.is, start_at_lem f.start f.is f.back) f.is

  pub start_inside : last_start t < length t
  start_inside = let f = found (end t) back_begun in omega (arith, start_at_lem f.start f.is f.back, f.back.inside)
