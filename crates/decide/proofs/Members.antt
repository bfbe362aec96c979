-- One open variable becomes a constant: what the counts of a clause gain and lose, and how the walk over its occurrences begins and ends.
use mathlib.Core.Path.{◌≡◌, refl, ap, sym, ◌∙◌}
use mathlib.Core.Bool.{Bool, true, false, cond}
use mathlib.Core.Logic.{◌⊎◌, inl, inr}
use mathlib.Core.List.{List, [], ◌∷◌}
use Prim.Native.Nat.{ℕ, zero, suc, ◌+◌, ◌*◌, ◌≤◌, ◌<◌}
use native.Mathlib.Decide.{dec_le, ℕ_discrete as dec_eq}
use native.Mathlib.Omega.{arith}
use borrow.Author.Tests.{eq-eqb, ne_eqb, lt-ltb}
use lib.ListN.{get_or, set, length}
use lib.Seq.{get_or-set_same, get_or-set_other}
use Rattle.general.specs.Booleans.{bit}
use Rattle.general.specs.Bits.{bit_le}
use Rattle.general.specs.Times.{times}
use Rattle.literal.specs.declared.Literal.{Literal}
use Rattle.literal.specs.declared.Literal.TheVariants.{Pos, Neg}
use Rattle.literal.specs.Literal.{TRUE, FALSE, var, opposite, same, is_open, literal_at, max_variables, variables, max_clauses}
use Rattle.literal.proofs.Codes.{literal_at_code_of, var_at}
use Rattle.theory.specs.Formula.{Clause}
use Rattle.theory.specs.State.{State, value, replace, assign}
use Rattle.theory.specs.Rules.{occurs}
use Rattle.theory.proofs.Literals.{var_opposite, same_true}
use Rattle.theory.proofs.States.{replace_other, value_assign}
use Rattle.state.specs.State.{state_of}
use Rattle.state.proofs.Values.{state_of_inside, state_of_past}
use Rattle.occurrences.specs.Index.{clause_count, clause_of, occurrences}
use Rattle.tally.specs.Counts.{trues_of, opens_of, Exact}
use Rattle.tally.proofs.Standing.{opens_length, clause_length}
use Rattle.moves.specs.Deciding.{DeadIn}
use Rattle.decide.specs.Members.{Membering}
use Rattle.decide.proofs.Lagging.{Lagging}
use Rattle.occurrences.specs.declared.Index.{Index}
use Rattle.tally.specs.declared.Tally.{Tally}
use Rattle.notes.specs.declared.Notes.{Notes}

-- clauses --------------------------------------------------------------------------------------------------------

not-true : (l : Literal) → 0 < var l → same l TRUE ≡ false
not-true (Pos n) h = ne_eqb n 0 (λ q. omega arith)
not-true (Neg n) h = refl

opposite_not_true : (l : Literal) → 0 < var l → same (opposite l) TRUE ≡ false
opposite_not_true l h = not-true (opposite l) (rw (var_opposite l) h)

-- variable p, open in s, is TRUE or FALSE in u, which is s otherwise
module _ (s u : State) (p : ℕ) (b : Bool) (opened : 0 < var (s p)) (is : u p ≡ cond b TRUE FALSE) (elsewhere : (q : ℕ) → (q ≡ p → ⊥) → u q ≡ s q) where
  no_constant : var (cond b TRUE FALSE) ≡ 0
  no_constant = go b
    where
      go : (b : Bool) → var (cond b TRUE FALSE) ≡ 0
      go true = refl
      go false = refl

  opens_at : (l : Literal) → bit (is_open (value s l)) ≡ bit (is_open (value u l)) + (bit (same l (Pos p)) + bit (same l (Neg p)))
  opens_at (Pos q) = elim (dec_eq q p) [
    | yes e ↦ rw (e, is, no_constant, lt-ltb 0 (var (s p)) opened, eq-eqb p p refl)
    | no e ↦ rw (elsewhere q e, ne_eqb q p e) (omega arith)
  ]
  opens_at (Neg q) = elim (dec_eq q p) [
    | yes e ↦ rw (e, is, var_opposite (s p), var_opposite (cond b TRUE FALSE), no_constant, lt-ltb 0 (var (s p)) opened, eq-eqb p p refl)
    | no e ↦ rw (elsewhere q e, ne_eqb q p e) (omega arith)
  ]

  opens_change : (c : Clause) → opens_of s c ≡ opens_of u c + (occurs (Pos p) c + occurs (Neg p) c)
  unfolding opens_of occurs
  opens_change [] = refl
  opens_change (l ∷ c) = omega (arith, opens_at l, opens_change c)

  sign_at : (q : ℕ) → q ≡ p → bit (same (cond b TRUE FALSE) TRUE) ≡ bit (same (Pos q) (cond b (Pos p) (Neg p)))
  sign_at q e = go b
    where
      go : (b : Bool) → bit (same (cond b TRUE FALSE) TRUE) ≡ bit (same (Pos q) (cond b (Pos p) (Neg p)))
      go true = rw (eq-eqb q p e)
      go false = refl

  unsign_at : (q : ℕ) → q ≡ p → bit (same (opposite (cond b TRUE FALSE)) TRUE) ≡ bit (same (Neg q) (cond b (Pos p) (Neg p)))
  unsign_at q e = go b
    where
      go : (b : Bool) → bit (same (opposite (cond b TRUE FALSE)) TRUE) ≡ bit (same (Neg q) (cond b (Pos p) (Neg p)))
      go true = refl
      go false = rw (eq-eqb q p e)

  elsewhere_sign : (l : Literal) → (var l ≡ p → ⊥) → same l (cond b (Pos p) (Neg p)) ≡ false
  elsewhere_sign l e = go l b e
    where
      go : (l : Literal) (b : Bool) → (var l ≡ p → ⊥) → same l (cond b (Pos p) (Neg p)) ≡ false
      go (Pos q) true e = ne_eqb q p e
      go (Pos q) false e = refl
      go (Neg q) true e = refl
      go (Neg q) false e = ne_eqb q p e

  trues_at : (l : Literal) → bit (same (value u l) TRUE) ≡ bit (same (value s l) TRUE) + bit (same l (cond b (Pos p) (Neg p)))
  trues_at (Pos q) = elim (dec_eq q p) [
    | yes e ↦ rw (← sign_at q e, e, is, not-true (s p) opened) (omega arith)
    | no e ↦ rw (elsewhere q e, elsewhere_sign (Pos q) e) (omega arith)
  ]
  trues_at (Neg q) = elim (dec_eq q p) [
    | yes e ↦ rw (← unsign_at q e, e, is, opposite_not_true (s p) opened) (omega arith)
    | no e ↦ rw (elsewhere q e, elsewhere_sign (Neg q) e) (omega arith)
  ]

  trues_change : (c : Clause) → trues_of u c ≡ trues_of s c + occurs (cond b (Pos p) (Neg p)) c
  unfolding trues_of occurs
  trues_change [] = refl
  trues_change (l ∷ c) = omega (arith, trues_at l, trues_change c)

-- the array -------------------------------------------------------------------------------------------------------

module _ (v : List ℕ) (p to : ℕ) (known : p ≤ max_variables) (long : length v ≡ variables) where
  set_here : state_of (set v p to) p ≡ literal_at to
  set_here = state_of_inside (set v p to) p known ∙ rw (get_or-set_same v p to 0 (omega arith))

  set_elsewhere : (q : ℕ) → (q ≡ p → ⊥) → state_of (set v p to) q ≡ state_of v q
  set_elsewhere q e = elim (dec_le q max_variables) [
    | yes h ↦ state_of_inside (set v p to) q h ∙ rw (get_or-set_other v p q to 0 e) (sym (state_of_inside v q h))
    | no h ↦ state_of_past (set v p to) q (omega arith) ∙ sym (state_of_past v q (omega arith))
  ]

signs : (to : ℕ) → to < 2 → (b : Bool) × (literal_at to ≡ cond b TRUE FALSE) × ((p : ℕ) → literal_at (2 * p + to) ≡ cond b (Pos p) (Neg p))
signs to h = elim (dec_eq to 0) [
  | yes e ↦ (true, ap literal_at e ∙ literal_at_code_of TRUE, λ p. let z : 2 * p + to ≡ 2 * p = omega arith in ap literal_at z ∙ literal_at_code_of (Pos p))
  | no e ↦
      let w : to ≡ 1 = omega arith in
      (false, ap literal_at w ∙ literal_at_code_of FALSE, λ p. let z : 2 * p + to ≡ 2 * p + 1 = omega arith in ap literal_at z ∙ literal_at_code_of (Neg p))
]

-- opens and trues of the index's clauses
abbrev pub Lags : (ix : Index) (v : List ℕ) → ℕ → (k rest : List ℕ) → Type 0
Lags ix v to k rest = Lagging (clause_count ix) (λ g. opens_of (state_of v) (clause_of ix g)) (λ g. trues_of (state_of v) (clause_of ix g)) to k rest

module _ {ix : Index} {t : Tally} {n : Notes} {p to : ℕ} (m : Membering ix t n p to) where
  long : length t.values ≡ variables
  long = m.exact.long_values

  abbrev after : State
  after = state_of (set t.values p to)

  opened : 0 < var (state_of t.values p)
  opened = rw (state_of_inside t.values p m.known) (omega (arith, var_at (get_or t.values p 0), m.opened))

  -- what clause g gains and loses
  lost : (g : ℕ) → g < clause_count ix →
      opens_of (state_of t.values) (clause_of ix g) ≡ opens_of after (clause_of ix g) + (times (2 * g + 0) (occurrences ix p) + times (2 * g + 1) (occurrences ix p))
  lost g h =
      let s = signs to m.constant in
      let e0 : literal_at (2 * p + 0) ≡ Pos p = ap literal_at (omega arith) ∙ literal_at_code_of (Pos p) in
      rw (m.index.each p g 0 m.known h (omega arith), m.index.each p g 1 m.known h (omega arith), e0, literal_at_code_of (Neg p))
      (opens_change (state_of t.values) after p s.0 opened (set_here t.values p to m.known long ∙ s.1) (set_elsewhere t.values p to m.known long) (clause_of ix g))

  won : (g : ℕ) → g < clause_count ix → trues_of after (clause_of ix g) ≡ trues_of (state_of t.values) (clause_of ix g) + times (2 * g + to) (occurrences ix p)
  won g h =
      let s = signs to m.constant in
      rw (m.index.each p g to m.known h m.constant, s.2 p)
      (trues_change (state_of t.values) after p s.0 opened (set_here t.values p to m.known long ∙ s.1) (set_elsewhere t.values p to m.known long) (clause_of ix g))

  pub begun : Lags ix (set t.values p to) to t.counts (occurrences ix p)
  begun = record {
    sum = λ g h. omega (arith, lost g h, won g h, m.exact.is g h);
    fits = λ g h. omega (arith, won g h);
    few = λ g h. omega (arith, lost g h, opens_length (state_of t.values) (clause_of ix g), clause_length m.index g h);
    low = m.exact.low;
  }

pub finished : (ix : Index) (v k : List ℕ) (to : ℕ) → length v ≡ variables → length k ≡ max_clauses → Lags ix v to k [] → Exact ix v k
unfolding times
finished ix v k to lv lk l = record { long_values = lv; long_counts = lk; is = λ g h. omega (arith, l.sum g h); low = l.low }

-- a clause that is dead stays so --------------------------------------------------------------------------------

module _ (x : Literal) (opened : 0 < var x) where
  stays : (l : Literal) → var l ≡ 0 → replace x FALSE l ≡ l
  stays l e = replace_other x FALSE l (λ q. omega arith)

  weight_le : (l : Literal) → bit (is_open l) + bit (same l TRUE) ≤ 1
  weight_le (Pos zero) = omega arith
  weight_le (Pos (suc n)) = rw (lt-ltb 0 (suc n) (omega arith), ne_eqb (suc n) 0 (λ q. omega arith)) (omega arith)
  weight_le (Neg n) = omega (arith, bit_le (is_open (Neg n)))

  true_stays : (l : Literal) → bit (same l TRUE) ≤ bit (same (replace x FALSE l) TRUE)
  true_stays l = go (same l TRUE) refl
    where
      go : (b : Bool) → same l TRUE ≡ b → bit b ≤ bit (same (replace x FALSE l) TRUE)
      go true e = let q = same_true l TRUE e in rw (q, stays TRUE refl) (omega arith)
      go false e = omega arith

  weight_falls : (l : Literal) → bit (is_open (replace x FALSE l)) + bit (same (replace x FALSE l) TRUE) ≤ bit (is_open l) + bit (same l TRUE)
  weight_falls (Pos zero) = rw (stays TRUE refl) (omega arith)
  weight_falls (Neg zero) = rw (stays FALSE refl) (omega arith)
  weight_falls (Pos (suc n)) = rw (lt-ltb 0 (suc n) (omega arith)) (omega (arith, weight_le (replace x FALSE (Pos (suc n)))))
  weight_falls (Neg (suc n)) = rw (lt-ltb 0 (suc n) (omega arith)) (omega (arith, weight_le (replace x FALSE (Neg (suc n)))))

  trues_rise : (s : State) (c : Clause) → trues_of s c ≤ trues_of (assign x FALSE s) c
  unfolding trues_of
  trues_rise s [] = omega arith
  trues_rise s (l ∷ c) = rw (value_assign s x FALSE l) (omega (arith, true_stays (value s l), trues_rise s c))

  left_falls : (s : State) (c : Clause) → opens_of (assign x FALSE s) c + trues_of (assign x FALSE s) c ≤ opens_of s c + trues_of s c
  unfolding trues_of opens_of
  left_falls s [] = omega arith
  left_falls s (l ∷ c) = rw (value_assign s x FALSE l) (omega (arith, weight_falls (value s l), left_falls s c))

  pub dead_stays : (ix : Index) (s : State) → DeadIn ix s → DeadIn ix (assign x FALSE s)
  dead_stays ix s d = record { clause = d.clause; inside = d.inside; dead = go (clause_of ix d.clause) d.dead }
    where
      go : (c : Clause) → (2 ≤ trues_of s c) ⊎ (opens_of s c + trues_of s c ≡ 0) →
          (2 ≤ trues_of (assign x FALSE s) c) ⊎ (opens_of (assign x FALSE s) c + trues_of (assign x FALSE s) c ≡ 0)
      go c (inl h) = inl (omega (arith, trues_rise s c))
      go c (inr h) = inr (omega (arith, left_falls s c))
