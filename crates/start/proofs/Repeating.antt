-- Occurrences of which each is in a later clause than the one before: a variable that stands twice in no clause.
use mathlib.Core.Path.{◌≡◌, refl, ap, sym, ◌∙◌}
use mathlib.Core.Bool.{true}
use mathlib.Core.List.{List}
use Prim.Native.Nat.{ℕ, zero, suc, ◌+◌, ◌-◌, ◌*◌, ◌/◌, ◌≤◌, ◌<◌}
use native.Mathlib.Decide.{ℕ_discrete as dec_eq}
use native.Mathlib.Omega.{arith}
use borrow.Author.Tests.{eq-eqb, ne_eqb, eqb-true}
use lib.Dec.{eqb}
use Rattle.std.specs.Prelude.{Option, None, Some, IfSome}
use Rattle.std.specs.Option.{option_eq}
use Rattle.general.specs.Booleans.{bit, bit_not}
use Rattle.general.specs.Lists.{from}
use Rattle.general.specs.Times.{times, times_snoc}
use Rattle.literal.specs.declared.Literal.TheVariants.{Pos, Neg}
use Rattle.literal.specs.Literal.{literal_at, max_variables}
use Rattle.literal.proofs.Codes.{literal_at_code_of}
use Rattle.theory.specs.Rules.{occurs}
use Rattle.theory.proofs.Counts.{mentions_occurs}
use Rattle.occurrences.specs.Index.{Indexed, clause_count, clause_of, first_at, occurrence_at, width}
use Rattle.start.specs.Undoubling.{WrittenOnce, DoubledAt, Doubled}
use Rattle.occurrences.specs.declared.Index.{Index}

module _ (f : ℕ → ℕ) (a : ℕ) where
  -- how many of the n occurrences from a on are in clause g
  abbrev in_clause : ℕ → ℕ → ℕ
  in_clause n g = times (2 * g) (from f a n) + times (2 * g + 1) (from f a n)

  -- none is in a clause of another one, nor in one from `next` on
  pub record Rising (n next : ℕ) : Type 0 where
    pub once : (g : ℕ) → in_clause n g ≤ 1
    pub below : (g : ℕ) → next ≤ g → in_clause n g ≡ 0

  pub rising_begins : Rising 0 0
  unfolding from times
  rising_begins = record { once = λ g. omega arith; below = λ g h. omega arith }

  one_other : (n g : ℕ) → (g ≡ f (a + n) / 2 → ⊥) → in_clause (suc n) g ≡ in_clause n g
  one_other n g e = rw (times_snoc (2 * g) f a n, times_snoc (2 * g + 1) f a n, ne_eqb (f (a + n)) (2 * g) (λ k. e (omega arith)), ne_eqb (f (a + n)) (2 * g + 1) (λ k. e (omega arith)))
      (omega arith)

  one_more : (n g : ℕ) → in_clause (suc n) g ≤ in_clause n g + 1
  one_more n g = elim (dec_eq (f (a + n)) (2 * g)) [
    | yes e ↦ rw (times_snoc (2 * g) f a n, times_snoc (2 * g + 1) f a n, eq-eqb (f (a + n)) (2 * g) e, ne_eqb (f (a + n)) (2 * g + 1) (λ k. omega arith)) (omega arith)
    | no e ↦ rw (times_snoc (2 * g) f a n, times_snoc (2 * g + 1) f a n, ne_eqb (f (a + n)) (2 * g) e) (omega (arith, bit_not (eqb (f (a + n)) (2 * g + 1))))
  ]

  pub rising_goes : (n : ℕ) {next more : ℕ} → Rising n next → next ≤ f (a + n) / 2 → f (a + n) / 2 < more → Rising (suc n) more
  rising_goes n r h b = record {
    once = λ g. elim (dec_eq g (f (a + n) / 2)) [
      | yes e ↦ omega (arith, one_more n g, r.below g (omega arith))
      | no e ↦ omega (arith, one_other n g e, r.once g)
    ];
    below = λ g l. omega (arith, one_other n g (λ e. omega arith), r.below g (omega arith));
  }

pub rising_once : {ix : Index} {p next : ℕ} → Indexed ix → p ≤ max_variables → Rising (occurrence_at ix) (first_at ix p) (width ix p) next → WrittenOnce ix p
rising_once {ix} {p} index h r g b =
    let e : 2 * p + 0 ≡ 2 * p = omega arith in
    let z : 2 * g + 0 ≡ 2 * g = omega arith in
    let plus = rw (z, e, literal_at_code_of (Pos p)) at (index.each p g 0 h b (omega arith)) in
    let minus = rw (literal_at_code_of (Neg p)) at (index.each p g 1 h b (omega arith)) in
    omega (arith, mentions_occurs (Pos p) (clause_of ix g), plus, minus, r.once g)

-- equal occurrences one after the other: a literal that stands twice in a clause
times_one : (f : ℕ → ℕ) (x k n i : ℕ) → k ≤ i → i < k + n → f i ≡ x → 1 ≤ times x (from f k n)
unfolding from times
times_one f x k zero i a b e = absurd (omega arith)
times_one f x k (suc n) i a b e = elim (dec_eq k i) [
  | yes q ↦ rw (q, eq-eqb (f i) x e) (omega arith)
  | no q ↦ omega (arith, times_one f x (suc k) n i (omega arith) (omega arith) e)
]

times_two : (f : ℕ → ℕ) (x k n i : ℕ) → k ≤ i → i + 1 < k + n → f i ≡ x → f (i + 1) ≡ x → 2 ≤ times x (from f k n)
unfolding from times
times_two f x k zero i a b e h = absurd (omega arith)
times_two f x k (suc n) i a b e h = elim (dec_eq k i) [
  | yes q ↦ omega (arith, ap bit (eq-eqb (f k) x (ap f q ∙ e)), times_one f x (suc k) n (i + 1) (omega arith) (omega arith) h)
  | no q ↦ omega (arith, times_two f x (suc k) n i (omega arith) (omega arith) e h)
]

pub doubled_twice : {ix : Index} {p j : ℕ} → Indexed ix → p ≤ max_variables → DoubledAt ix p j → (g k : ℕ) → g < clause_count ix → k < 2 → occurrence_at ix j ≡ 2 * g + k →
    2 ≤ occurs (literal_at (2 * p + k)) (clause_of ix g)
doubled_twice {ix} {p} {j} index h d g k b l e =
    let z : j - 1 + 1 ≡ j = omega (arith, d.after) in
    rw (index.each p g k h b l) at (times_two (occurrence_at ix) (2 * g + k) (first_at ix p) (width ix p) (j - 1)
    (omega (arith, d.after)) (omega (arith, d.after, d.before)) (sym d.same ∙ e) (ap (occurrence_at ix) z ∙ e))

-- an occurrence that is the same as the one before it
pub doubled_found : (ix : Index) (p i : ℕ) (b : Option ℕ) (x : ℕ) → i < width ix p → x ≡ occurrence_at ix (first_at ix p + i) →
    ((y : ℕ) → b ≡ Some y → (k : ℕ) × (suc k ≡ i) × (y ≡ occurrence_at ix (first_at ix p + k))) → option_eq eqb b (Some x) ≡ true → IfSome b (Doubled ix p)
doubled_found ix p i None x h is w e = tt
doubled_found ix p i (Some y) x h is w e =
    let q = w y refl in
    let j = first_at ix p + i in
    let r : first_at ix p + q.0 ≡ j - 1 = omega (arith, q.1) in
    let s : y ≡ x = eqb-true y x e in
    (j, record { after = omega (arith, q.1); before = omega (arith, h); same = sym is ∙ sym s ∙ q.2 ∙ ap (occurrence_at ix) r }, s ∙ is)
