-- Where a variable's occurrences stand in the index, and how many there are of several.
use mathlib.Core.Path.{◌≡◌, ap}
use mathlib.Core.List.{List, Memᴰ}
use Prim.Native.Nat.{ℕ, zero, suc, ◌+◌, ◌*◌, ◌/◌, ◌≤◌, ◌<◌}
use native.Mathlib.Decide.{ℕ_discrete as dec_eq}
use native.Mathlib.Numerals.{add-one}
use native.Mathlib.Omega.{arith}
use borrow.Author.Tests.{ne_eqb}
use Rattle.general.specs.Booleans.{bit}
use Rattle.general.specs.Lists.{from}
use Rattle.general.specs.Times.{times}
use Rattle.general.specs.Sums.{sum, sum_distinct}
use Rattle.literal.specs.Literal.{literal_at, max_variables, max_literals, variables}
use Rattle.theory.proofs.Clauses.{mem_occurs}
use Rattle.theory.proofs.Counts.{Holds}
use Rattle.occurrences.specs.Index.{Indexed, clause_count, clause_of, first_at, occurrence_at, occurrences, width}
use Rattle.gather.proofs.Written.{known, mem_written}
use Rattle.occurrences.specs.declared.Index.{Index}

-- an element that stands in a list made from a function of the index
times_from : (f : ℕ → ℕ) (x k n : ℕ) → 0 < times x (from f k n) → (j : ℕ) × (k ≤ j) × (j < k + n) × (f j ≡ x)
unfolding times from
times_from f x k zero h = absurd (omega arith)
times_from f x k (suc n) h = elim (dec_eq (f k) x) [
  | yes e ↦ (k, omega arith, omega arith, e)
  | no e ↦ let r = times_from f x (suc k) n (omega (arith, ap bit (ne_eqb (f k) x e))) in (r.0, omega (arith, r.1), omega (arith, r.2), r.3)
]

module _ {ix : Index} (index : Indexed ix) where
  placed : (p o : ℕ) → p ≤ max_variables → 0 < times o (occurrences ix p) → (j : ℕ) × (first_at ix p ≤ j) × (j < first_at ix (p + 1)) × (occurrence_at ix j ≡ o)
  placed p o h t = let j = times_from (occurrence_at ix) o (first_at ix p) (width ix p) t in (j.0, j.1, omega (arith, j.2, index.rising p h), j.3)

  -- a literal that is written occurs with its sign
  pub literal_placed : (p g k : ℕ) → p ≤ max_variables → g < clause_count ix → k < 2 → Memᴰ (literal_at (2 * p + k)) (clause_of ix g) →
      (j : ℕ) × (first_at ix p ≤ j) × (j < first_at ix (p + 1)) × (occurrence_at ix j ≡ 2 * g + k)
  literal_placed p g k h i b m = placed p (2 * g + k) h (omega (arith, index.each p g k h i b, mem_occurs (clause_of ix g) (literal_at (2 * p + k)) m))

  -- and its variable with either
  pub holds_placed : (p g : ℕ) → g < clause_count ix → Holds p (clause_of ix g) → (j : ℕ) × (first_at ix p ≤ j) × (j < first_at ix (p + 1)) × (occurrence_at ix j / 2 ≡ g)
  holds_placed p g i (l, m, e) =
      let w = rw e at (mem_written index g i l m) in
      let j = placed p (2 * g + w.0) (rw e at (known index g i l m)) w.2 in
      (j.0, j.1, j.2, omega (arith, j.3, w.1))

  -- different variables have no more occurrences than there are
  pub distinct_width : (l : List ℕ) → ((q : ℕ) → times q l ≤ 1) → ((q : ℕ) → 0 < times q l → q ≤ max_variables) → sum (width ix) l ≤ max_literals
  distinct_width l once inside = omega (
    arith,
    sum_distinct (width ix) (first_at ix) l variables (λ k h. rw (← add-one k) (omega (arith, index.rising k (omega arith)))) once (λ q h. omega (arith, inside q h)),
    index.ends variables (omega arith),
  )
