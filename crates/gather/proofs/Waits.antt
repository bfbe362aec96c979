-- A walk over the occurrences of a variable: what holds at the loop's head, at the start, after a turn and at the end.
use mathlib.Core.Path.{◌≡◌, sym}
use mathlib.Core.Logic.{◌⊎◌, inl, inr, ⊎_elim}
use mathlib.Core.List.{List, [], ◌∷◌}
use Prim.Native.Nat.{ℕ, zero, suc, ◌+◌, ◌*◌, ◌/◌, ◌%◌, ◌≤◌, ◌<◌}
use native.Mathlib.Decide.{ℕ_discrete as dec_eq}
use native.Mathlib.Omega.{arith}
use lib.ListN.{get_or, drop, length, drop_of_length-le}
use Rattle.std.proofs.lemmas.List.{drop_more}
use Rattle.general.specs.Times.{times}
use Rattle.general.specs.Repeats.{times_nil, times_cons}
use Rattle.general.specs.Sums.{times_here, times_other}
use Rattle.occurrences.specs.Index.{occurrences}
use Rattle.gather.specs.Gathering.{WideIn, Written}
use Rattle.occurrences.specs.declared.Index.{Index}
use Rattle.tally.specs.declared.Tally.{Tally}

times_cases : (q p : ℕ) (l : List ℕ) → 0 < times q (p ∷ l) → (q ≡ p) ⊎ (0 < times q l)
times_cases q p l h = elim (dec_eq q p) [ yes e ↦ inl e | no e ↦ inr (omega (arith, times_other q p l (λ y. e (sym y)))) ]

-- an element stands in its list
times_get_or : (l : List ℕ) (i : ℕ) → i < length l → 0 < times (get_or l i 0) l
times_get_or [] i h = absurd (omega arith)
times_get_or (x ∷ l) zero h = omega (arith, times_here x l)
times_get_or (x ∷ l) (suc i) h = omega (arith, times_get_or l i (omega arith), times_cons (get_or l i 0) x l)

-- the clause of an occurrence
pub here_stands : (ix : Index) (p : ℕ) (os : List ℕ) → os ≡ occurrences ix p → (j : ℕ) → j < length os → Written ix p (get_or os j 0 / 2)
here_stands ix p os are j h =
    let e : 2 * (get_or os j 0 / 2) + get_or os j 0 % 2 ≡ get_or os j 0 = omega arith in
    (get_or os j 0 % 2, omega arith, rw (e, ← are) (times_get_or os j h))

-- the first j of the occurrences os are visited: their wide clauses, of signs that count, are done
pub record Waits (ix : Index) (st : Tally) (Of Done : ℕ → Type 0) (os : List ℕ) (j : ℕ) : Type 0 where
  pub done : (g : ℕ) → WideIn ix st g → (k : ℕ) → k < 2 → Of k → 0 < times (2 * g + k) os → Done g ⊎ (0 < times (2 * g + k) (drop j os))

pub waits_begins : {ix : Index} {st : Tally} {Of Done : ℕ → Type 0} {os : List ℕ} → Waits ix st Of Done os 0
waits_begins = record { done = λ g w k h s i. inr i }

module _ {ix : Index} {st : Tally} {Of Done : ℕ → Type 0} {os : List ℕ} {j : ℕ} (o : Waits ix st Of Done os j) where
  pub waits_goes : j < length os → {Now : ℕ → Type 0} → ((g : ℕ) → Done g → Now g) → (WideIn ix st (get_or os j 0 / 2) → Of (get_or os j 0 % 2) → Now (get_or os j 0 / 2)) →
      Waits ix st Of Now os (j + 1)
  waits_goes more keeps fresh = record {
    done = λ g w k h s i. ⊎_elim (λ d. inl (keeps g d)) (λ y. ⊎_elim
        (λ (q : 2 * g + k ≡ get_or os j 0).
        let z : get_or os j 0 / 2 ≡ g = omega arith in
        let e : get_or os j 0 % 2 ≡ k = omega arith in
        inl (rw z at (fresh (rw z w) (rw e s))))
        inr
        (times_cases (2 * g + k) (get_or os j 0) (drop (j + 1) os) (rw (drop_more os j 0 more) at y)))
        (o.done g w k h s i);
  }

  pub waits_ends : length os ≤ j → (g : ℕ) → WideIn ix st g → (k : ℕ) → k < 2 → Of k → 0 < times (2 * g + k) os → Done g
  waits_ends h g w k b s i = ⊎_elim (λ d. d) (λ y. absurd (omega (arith, rw (drop_of_length-le os h) at y, times_nil (2 * g + k)))) (o.done g w k b s i)
