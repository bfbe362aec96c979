-- The steps that some rule asks at a state, in any clause and any order; the fixed order of document 01 picks one of them.
use mathlib.Core.Path.{◌≡◌, refl, ap, sym, ◌∙◌}
use mathlib.Core.Bool.{true, false, not, ◌&&◌}
use mathlib.Core.Logic.{◌⊎◌, inl, inr, ◌≢◌, ⊎_elim}
use Rattle.std.specs.Prelude.{Option, None, Some, option_map}
use Rattle.std.proofs.lemmas.Option.{none-some, same_Some}
use mathlib.Core.List.{List, [], ◌∷◌, map, Memᴰ}
use Prim.Native.Nat.{ℕ, suc, ◌+◌, ◌-◌, ◌<◌, ◌≤◌}
use native.Mathlib.Omega.{arith}
use lib.Dec.{eqb, leb, ltb}
use lib.ListN.{length, get_or}
use borrow.Author.Tests.{eqb-true, eqb-false, leb-true, ltb-true, ltb-false, not-true}
use Rattle.general.specs.Booleans.{bool_cases, and_true, or-true}
use Rattle.general.specs.Lists.{Before, here, later, before_left}
use Rattle.general.specs.Options.{or_else_none, or_else_some, cond_some, map_some, map_none, bind_some}
use Rattle.general.specs.Search.{find, any, find_some, any_true}
use Rattle.literal.specs.declared.Literal.{Literal}
use Rattle.literal.specs.declared.Literal.TheVariants.{Pos, Neg}
use Rattle.literal.specs.Literal.{TRUE, FALSE, var, opposite, is_open}
use Rattle.theory.specs.Formula.{Clause, Formula, Within}
use Rattle.theory.specs.State.{State, initial, standing, WellFormed}
use Rattle.theory.specs.declared.Step.{Step}
use Rattle.theory.specs.declared.Step.TheVariants.{DeadEnd, Becomes}
use Rattle.theory.specs.Rules.{occurs, stands, none_true, differ, complementary, other, is_none, partner, pair_in, live, tie, rule1, rule2, rule3, rule4, rule5, rule6, rule7, rule8}
use Rattle.theory.specs.declared.Asked.{Asked}
use Rattle.theory.specs.Propagation.{first_clause, first_pair, ask, step}
use Rattle.theory.specs.Reasons.{numbered, clause_rules, pair_rules, AskedOf, alone, paired, Holds}
use Rattle.theory.proofs.Literals.{var_opposite}
use Rattle.theory.proofs.States.{Fixed, Valid, value_variable, value_fixed, value_low, well_based, base_true, base_false}
use Rattle.theory.proofs.Ties.{Ties, ties_higher, ties_turned}
use Rattle.theory.proofs.Clauses.{standing_mem, occurs_mem, stands_mem}
use Rattle.theory.proofs.Closed.{NoFalse, Quiet, open_of, not_true_of}

-- rules 2 to 6 in a clause as it stands
pub data AsksOne (c : Clause) : Literal → Literal → Type 0 where
  one_true_lem : {x : Literal} → Memᴰ TRUE c → Memᴰ x c → 0 < var x → AsksOne c x FALSE
  only_one : {x : Literal} → c ≡ x ∷ [] → 0 < var x → AsksOne c x TRUE
  stands_twice : {x : Literal} → 2 ≤ occurs x c → 0 < var x → AsksOne c x FALSE
  opposites : {x : Literal} (y : Literal) → Memᴰ y c → Memᴰ (opposite y) c → Memᴰ x c → 0 < var x → var x ≢ var y → AsksOne c x FALSE
  only_two : {x t : Literal} (y z : Literal) → c ≡ y ∷ z ∷ [] → 0 < var y → 0 < var z → Ties y z x t → AsksOne c x t

-- rules 7 and 8 in two clauses as they stand
pub data AsksTwo (g h : Clause) : Literal → Literal → Type 0 where
  common : {x : Literal} (y : Literal) → Memᴰ x g → Memᴰ x h → Memᴰ y g → Memᴰ (opposite y) h → 0 < var x → var x ≢ var y → AsksTwo g h x FALSE
  crossed : {x t : Literal} (y z : Literal) → Memᴰ y g → Memᴰ (opposite y) h → Memᴰ z g → Memᴰ (opposite z) h → 0 < var y → 0 < var z →
      Ties y z x t → AsksTwo g h x t

-- rule 1: no choice meets the clause
abbrev pub Unmeetable : Clause → Type 0
Unmeetable c = (2 ≤ occurs TRUE c) ⊎ (c ≡ [])

-- some rule asks at s that x becomes t
pub data Asks (f : Formula) (s : State) : Literal → Literal → Type 0 where
  by_one : {x t : Literal} (c : Clause) → Memᴰ c f → AsksOne (standing s c) x t → Asks f s x t
  by_two : {x t : Literal} (g h : Clause) → Before g h f → AsksTwo (standing s g) (standing s h) x t → Asks f s x t

pub record Dies (f : Formula) (s : State) : Type 0 where
  pub clause : Clause
  pub member : Memᴰ clause f
  pub dead_end : Unmeetable (standing s clause)

-- open literals -----------------------------------------------------------------------------------------------

-- What a rule asks is asked of an open literal, whatever the state. A tie says which literal is the higher in the first state too.
ties_open : {y z x t : Literal} → Ties y z x t → 0 < var x
ties_open {y} {z} k = omega (arith, (k.valid (var y + var z) initial (fixed y) (fixed z) (omega arith) (omega arith)).lower)
  where
    fixed : (l : Literal) → Fixed initial l
    fixed (Pos p) = refl
    fixed (Neg p) = refl

pub asks_open : {f : Formula} {s : State} {x t : Literal} → Asks f s x t → 0 < var x
asks_open (by_one c m (one_true_lem a b o)) = o
asks_open (by_one c m (only_one e o)) = o
asks_open (by_one c m (stands_twice h o)) = o
asks_open (by_one c m (opposites y a b i o d)) = o
asks_open (by_one c m (only_two y z e oy oz k)) = ties_open k
asks_open (by_two g h b (common y xg xh yg yh o d)) = o
asks_open (by_two g h b (crossed y z yg yh zg zh oy oz k)) = ties_open k

-- every step that is asked is valid ------------------------------------------------------------------------------

pub standing_no_false : (s : State) (c : Clause) → NoFalse (standing s c)
standing_no_false s c x m = (standing_mem s c x m).not-false

module _ {n : ℕ} {f : Formula} {s : State} (within : Within n f) (w : WellFormed n s) where
  -- what stands in a clause of the formula stands for itself, and is of a variable up to n
  pub standing_fixed : (c : Clause) (x : Literal) → Memᴰ x (standing s c) → Fixed s x
  standing_fixed c x m = let k = standing_mem s c x m in rw k.valued at (value_fixed w k.written)

  pub standing_inside : (c : Clause) (x : Literal) → Memᴰ c f → Memᴰ x (standing s c) → var x ≤ n
  standing_inside c x mc m =
      let k = standing_mem s c x m in
      let l : var x ≤ var k.written = rw k.valued at (value_low w k.written) in
      omega (arith, within.high c k.written mc k.member)

  module _ (c : Clause) (mc : Memᴰ c f) where
    valid_false : (x : Literal) → Memᴰ x (standing s c) → 0 < var x → Valid n s x FALSE
    valid_false x m o = record { fixed_x = standing_fixed c x m; fixed_t = base_false (well_based w); lower = o; inside = standing_inside c x mc m }

    valid_ties : {x t : Literal} (y z : Literal) → Memᴰ y (standing s c) → Memᴰ z (standing s c) → Ties y z x t → Valid n s x t
    valid_ties y z my mz t = t.valid n s (standing_fixed c y my) (standing_fixed c z mz) (standing_inside c y mc my) (standing_inside c z mc mz)

    valid_one : {x t : Literal} → AsksOne (standing s c) x t → Valid n s x t
    valid_one (one_true_lem {x = x} a m o) = valid_false x m o
    valid_one (only_one {x = x} e o) =
        let m : Memᴰ x (standing s c) = rw e (mathlib.Core.List.Memᴰ.head refl) in
        record { fixed_x = standing_fixed c x m; fixed_t = base_true (well_based w); lower = o; inside = standing_inside c x mc m }
    valid_one (stands_twice {x = x} h o) = valid_false x (occurs_mem (standing s c) x (omega arith)) o
    valid_one (opposites {x = x} y a b m o d) = valid_false x m o
    valid_one (only_two y z e oy oz t) = valid_ties y z (rw e (mathlib.Core.List.Memᴰ.head refl)) (rw e (mathlib.Core.List.Memᴰ.tail (mathlib.Core.List.Memᴰ.head refl))) t

  pub valid_step : {x t : Literal} → Asks f s x t → Valid n s x t
  valid_step (by_one c m a) = valid_one c m a
  valid_step (by_two g h b (common {x = x} y xg xh yg yh o d)) = valid_false g (before_left b) x xg o
  valid_step (by_two g h b (crossed y z yg yh zg zh oy oz t)) = valid_ties g (before_left b) y z yg zg t

  pub open_step : {x t : Literal} → Asks f s x t → 0 < var x
  open_step a = omega (arith, (valid_step a).lower)

-- from the fixed order to a step that is asked -------------------------------------------------------------------

abbrev pub Allowed : Formula → State → Step → Type 0
Allowed f s DeadEnd = Dies f s
Allowed f s (Becomes x t) = Asks f s x t

-- what a step of one clause, or of two, says
abbrev One : Clause → Step → Type 0
One c DeadEnd = Unmeetable c
One c (Becomes x t) = AsksOne c x t

abbrev pub Two : Clause → Clause → Step → Type 0
Two g h DeadEnd = ⊥
Two g h (Becomes x t) = AsksTwo g h x t

tied : (P : Step → Type 0) (y z : Literal) → var y ≢ var z → ((x t : Literal) → Ties y z x t → P (Becomes x t)) → P (tie y z)
tied P y z d k = ⊎_elim
    (λ (e : ltb (var y) (var z) ≡ true). rw e (k _ _ (ties_higher y z (ltb-true (var y) (var z) e))))
    (λ (e : ltb (var y) (var z) ≡ false). rw e (k _ _ (ties_turned (ties_higher z y (omega (arith, ltb-false (var y) (var z) e))))))
    (bool_cases (ltb (var y) (var z)))

differs : (x y : Literal) → differ x y ≡ true → var x ≢ var y
differs x y e = eqb-false (var x) (var y) (not-true _ e)

module _ (c : Clause) (f : NoFalse c) where
  -- with none true, what stands is open
  none_true_open : none_true c ≡ true → (x : Literal) → Memᴰ x c → 0 < var x
  none_true_open e x m = open_of x (not_true_of c x (eqb-true (occurs TRUE c) 0 e) m) (f x m)

  rule1_one : (s : Step) → rule1 c ≡ Some s → One c s
  rule1_one s e =
      let w = cond_some _ (Some DeadEnd) s e in
      rw (← same_Some DeadEnd s w.1) (⊎_elim
      (λ h. inl (leb-true 2 (occurs TRUE c) h))
      (λ h. inr (empty c (eqb-true (length c) 0 h)))
      (or-true (leb 2 (occurs TRUE c)) (eqb (length c) 0) w.0))
    where
      empty : (d : Clause) → length d ≡ 0 → d ≡ []
      empty [] h = refl
      empty (x ∷ d) h = absurd (omega arith)

  rule2_one : (s : Step) → rule2 c ≡ Some s → One c s
  rule2_one s e =
      let w = cond_some _ _ s e in
      let m = map_some (λ x. Becomes x FALSE) (find is_open c) s w.1 in
      let x = find_some is_open c m.0 m.1 in
      rw (← m.2) (one_true_lem (occurs_mem c TRUE (let h = eqb-true (occurs TRUE c) 1 w.0 in omega arith)) x.0 (ltb-true 0 (var m.0) x.1))

  rule4_one : (s : Step) → rule4 c ≡ Some s → One c s
  rule4_one s e =
      let w = cond_some _ _ s e in
      let m = map_some (λ x. Becomes x FALSE) (find (λ x. leb 2 (occurs x c)) c) s w.1 in
      let x = find_some (λ x. leb 2 (occurs x c)) c m.0 m.1 in
      rw (← m.2) (stands_twice (leb-true 2 (occurs m.0 c) x.1) (none_true_open w.0 m.0 x.0))

  rule5_one : (s : Step) → rule5 c ≡ Some s → One c s
  rule5_one s e =
      let w = cond_some _ _ s e in
      let m = map_some (λ x. Becomes x FALSE) _ s w.1 in
      let b = bind_some (complementary c) (other c) m.0 m.1 in
      let y = find_some (λ x. stands (opposite x) c) c b.0 b.1 in
      let x = find_some (λ y. differ b.0 y) c m.0 b.2 in
      rw (← m.2)
      (opposites b.0 y.0 (stands_mem c (opposite b.0) y.1) x.0 (none_true_open w.0 m.0 x.0) (λ q. differs b.0 m.0 x.1 (sym q)))

rule3_one : (c : Clause) (s : Step) → rule3 c ≡ Some s → One c s
rule3_one [] s e = absurd (none-some s e)
rule3_one (x ∷ []) s e =
    let w = cond_some (is_open x) (Some (Becomes x TRUE)) s e in
    rw (← same_Some (Becomes x TRUE) s w.1) (only_one refl (ltb-true 0 (var x) w.0))
rule3_one (x ∷ y ∷ c) s e = absurd (none-some s e)

rule6_one : (c : Clause) (s : Step) → rule6 c ≡ Some s → One c s
rule6_one [] s e = absurd (none-some s e)
rule6_one (x ∷ []) s e = absurd (none-some s e)
rule6_one (x ∷ y ∷ []) s e =
    let w = cond_some (is_open x && is_open y && differ x y) (Some (tie x y)) s e in
    let a = and_true (is_open x && is_open y) (differ x y) w.0 in
    let b = and_true (is_open x) (is_open y) a.0 in
    rw (← same_Some (tie x y) s w.1) (tied (One (x ∷ y ∷ [])) x y (differs x y a.1)
    (λ z t h. only_two x y refl (ltb-true 0 (var x) b.0) (ltb-true 0 (var y) b.1) h))
rule6_one (x ∷ y ∷ z ∷ c) s e = absurd (none-some s e)

module _ (g h : Clause) (f : NoFalse g) where
  live_open : (live g && live h) ≡ true → (x : Literal) → Memᴰ x g → 0 < var x
  live_open e = none_true_open g f (and_true (none_true g) _ (and_true (live g) (live h) e).0).0

  pub rule7_two : (s : Step) → rule7 g h ≡ Some s → Two g h s
  rule7_two s e =
      let w = cond_some _ _ s e in
      let m = map_some (λ x. Becomes x FALSE) _ s w.1 in
      let x = find_some (λ x. stands x h && any (λ y. stands (opposite y) h && differ x y) g) g m.0 m.1 in
      let a = and_true (stands m.0 h) _ x.1 in
      let y = any_true (λ y. stands (opposite y) h && differ m.0 y) g a.1 in
      let b = and_true (stands (opposite y.0) h) (differ m.0 y.0) y.2 in
      rw (← m.2)
      (common y.0 x.0 (stands_mem h m.0 a.0) y.1 (stands_mem h (opposite y.0) b.0) (live_open w.0 m.0 x.0) (differs m.0 y.0 b.1))

  pub rule8_two : (s : Step) → rule8 g h ≡ Some s → Two g h s
  rule8_two s e =
      let w = cond_some _ _ s e in
      let b = bind_some (pair_in g h) (λ x. option_map (tie x) (partner g h x)) s w.1 in
      let m = map_some (tie b.0) (partner g h b.0) s b.2 in
      let x = find_some (λ x. stands (opposite x) h && not (is_none (partner g h x))) g b.0 b.1 in
      let y = find_some (λ y. stands (opposite y) h && differ b.0 y) g m.0 m.1 in
      let p = and_true (stands (opposite b.0) h) _ x.1 in
      let q = and_true (stands (opposite m.0) h) (differ b.0 m.0) y.1 in
      rw (← m.2) (tied (Two g h) b.0 m.0 (differs b.0 m.0 q.1)
      (λ z t k. crossed b.0 m.0 x.0 (stands_mem h (opposite b.0) p.0) y.0 (stands_mem h (opposite m.0) q.0)
      (live_open w.0 b.0 x.0) (live_open w.0 m.0 y.0) k))

-- a clause of a list in which the first has number k, and its number j
record Numbered {A : Type 0} (k : ℕ) (f : List A) (c : A) (j : ℕ) : Type 0 where
  index : ℕ
  inside : index < length f
  here : (d : A) → get_or f index d ≡ c
  number : j ≡ k + index

numbered_first : {A : Type 0} {k : ℕ} {c : A} {f : List A} {j : ℕ} → k ≡ j → Numbered k (c ∷ f) c j
numbered_first e = record { index = 0; inside = omega arith; here = λ d. refl; number = omega arith }

numbered_later : {A : Type 0} {k : ℕ} {c b : A} {f : List A} {j : ℕ} → Numbered (suc k) f c j → Numbered k (b ∷ f) c j
numbered_later m = record { index = suc m.index; inside = omega (arith, m.inside); here = m.here; number = omega (arith, m.number) }

-- the first clause, or the first pair, is one of the formula's; the number is that of the clause, of a pair that of the later one
module _ {A : Type 0} (look : A → Clause) where
  clause_some : (rule : Clause → Option Step) (k : ℕ) (f : List A) (a : Asked) → first_clause rule k (map look f) ≡ Some a →
      (c : A) × Memᴰ c f × Numbered k f c a.clause.0 × (rule (look c) ≡ Some a.step)
  unfolding first_clause
  clause_some rule k [] a e = absurd (none-some a e)
  clause_some rule k (c ∷ f) a e = ⊎_elim
      (λ h.
      let m = map_some _ (rule (look c)) a h in
      (c, mathlib.Core.List.Memᴰ.head refl, numbered_first (ap (λ (b : Asked). b.clause.0) m.2), m.1 ∙ ap Some (ap (λ (b : Asked). b.step) m.2)))
      (λ h. let w = clause_some rule (suc k) f a h in (w.0, mathlib.Core.List.Memᴰ.tail w.1, numbered_later w.2, w.3))
      (or_else_some _ (first_clause rule (suc k) (map look f)) a e)

  pub clause_none : (rule : Clause → Option Step) (k : ℕ) {c : A} (f : List A) → first_clause rule k (map look f) ≡ None → Memᴰ c f → rule (look c) ≡ None
  unfolding first_clause
  clause_none rule k [] e m = absurd (mathlib.Core.List.Memᴰ.not-nil m)
  clause_none rule k {c} (d ∷ f) e m =
      let w = or_else_none _ (first_clause rule (suc k) (map look f)) e in
      ⊎_elim (λ (q : c ≡ d). rw q (map_none _ (rule (look d)) w.0)) (clause_none rule (suc k) f w.1) (mathlib.Core.List.Memᴰ.cases_cons m)

  pair_some : (rule : Clause → Clause → Option Step) (k : ℕ) (f : List A) (a : Asked) → first_pair rule k (map look f) ≡ Some a →
      (g : A) × (h : A) × (j : ℕ) × Before g h f × Numbered k f g j × Numbered k f h a.clause.0 × (j < a.clause.0) × (rule (look g) (look h) ≡ Some a.step)
  unfolding first_pair
  pair_some rule k [] a e = absurd (none-some a e)
  pair_some rule k (c ∷ f) a e = ⊎_elim
      (λ h.
      let w = clause_some (rule (look c)) (suc k) f a h in
      (c, w.0, k, here w.1, numbered_first refl, numbered_later w.2, omega (arith, w.2.number), w.3))
      (λ h. let w = pair_some rule (suc k) f a h in (w.0, w.1, w.2, later w.3, numbered_later w.4, numbered_later w.5, w.6, w.7))
      (or_else_some (first_clause (rule (look c)) (suc k) (map look f)) (first_pair rule (suc k) (map look f)) a e)

  pub pair_none : (rule : Clause → Clause → Option Step) {g h : A} (k : ℕ) {f : List A} → first_pair rule k (map look f) ≡ None → Before g h f → rule (look g) (look h) ≡ None
  unfolding first_pair
  pair_none rule {g = g} k e (here {l = f} m) =
      clause_none (rule (look g)) (suc k) f (or_else_none (first_clause (rule (look g)) (suc k) (map look f)) (first_pair rule (suc k) (map look f)) e).0 m
  pair_none rule k e (later {z = z} {l = f} b) =
      pair_none rule (suc k) (or_else_none (first_clause (rule (look z)) (suc k) (map look f)) (first_pair rule (suc k) (map look f)) e).1 b

-- what the rules of one clause, and of two, say of the step that they ask
one_of : (rule : Clause → Option Step) → Memᴰ rule clause_rules → (c : Clause) → NoFalse c → (d : Step) → rule c ≡ Some d → One c d
one_of rule m c f d e =
    ⊎_elim (λ (q : rule ≡ rule1). rule1_one c f d (rw q at e))
    (λ m. ⊎_elim (λ (q : rule ≡ rule2). rule2_one c f d (rw q at e))
    (λ m. ⊎_elim (λ (q : rule ≡ rule3). rule3_one c d (rw q at e))
    (λ m. ⊎_elim (λ (q : rule ≡ rule4). rule4_one c f d (rw q at e))
    (λ m. ⊎_elim (λ (q : rule ≡ rule5). rule5_one c f d (rw q at e))
    (λ m. ⊎_elim (λ (q : rule ≡ rule6). rule6_one c d (rw q at e))
    (λ m. absurd (mathlib.Core.List.Memᴰ.not-nil m))
    (mathlib.Core.List.Memᴰ.cases_cons m)) (mathlib.Core.List.Memᴰ.cases_cons m)) (mathlib.Core.List.Memᴰ.cases_cons m)) (mathlib.Core.List.Memᴰ.cases_cons m)) (mathlib.Core.List.Memᴰ.cases_cons m)) (mathlib.Core.List.Memᴰ.cases_cons m)

two_of : (rule : Clause → Clause → Option Step) → Memᴰ rule pair_rules → (g h : Clause) → NoFalse g → (d : Step) → rule g h ≡ Some d → Two g h d
two_of rule m g h f d e =
    ⊎_elim (λ (q : rule ≡ rule7). rule7_two g h f d (rw q at e))
    (λ m. ⊎_elim (λ (q : rule ≡ rule8). rule8_two g h f d (rw q at e)) (λ m. absurd (mathlib.Core.List.Memᴰ.not-nil m)) (mathlib.Core.List.Memᴰ.cases_cons m))
    (mathlib.Core.List.Memᴰ.cases_cons m)

-- the step of the fixed order is asked by a rule of one clause, or of two
module _ (f : Formula) (s : State) (a : Asked) {P : Type 0}
    (one : (c : Clause) → Memᴰ c f → Numbered 1 f c a.clause.0 →
    (rule : Clause → Option Step) → Memᴰ rule clause_rules → rule (standing s c) ≡ Some a.step → P)
    (two : (g h : Clause) → Before g h f → (j : ℕ) → Numbered 1 f g j → Numbered 1 f h a.clause.0 → j < a.clause.0 →
    (rule : Clause → Clause → Option Step) → Memᴰ rule pair_rules → rule (standing s g) (standing s h) ≡ Some a.step → P) where
  from_one : (rule : Clause → Option Step) → Memᴰ rule clause_rules → first_clause rule 1 (map (standing s) f) ≡ Some a → P
  from_one rule i e = let w = clause_some (standing s) rule 1 f a e in one w.0 w.1 w.2 rule i w.3

  from_two : (rule : Clause → Clause → Option Step) → Memᴰ rule pair_rules → first_pair rule 1 (map (standing s) f) ≡ Some a → P
  from_two rule i e = let w = pair_some (standing s) rule 1 f a e in two w.0 w.1 w.3 w.2 w.4 w.5 w.6 rule i w.7

  step_cases : step f s ≡ Some a → P
  unfolding ask
  step_cases e =
      ⊎_elim (from_one rule1 (mathlib.Core.List.Memᴰ.head refl))
      (λ e. ⊎_elim (from_one rule2 (mathlib.Core.List.Memᴰ.tail (mathlib.Core.List.Memᴰ.head refl)))
      (λ e. ⊎_elim (from_one rule3 (mathlib.Core.List.Memᴰ.tail (mathlib.Core.List.Memᴰ.tail (mathlib.Core.List.Memᴰ.head refl))))
      (λ e. ⊎_elim (from_one rule4 (mathlib.Core.List.Memᴰ.tail (mathlib.Core.List.Memᴰ.tail (mathlib.Core.List.Memᴰ.tail (mathlib.Core.List.Memᴰ.head refl)))))
      (λ e. ⊎_elim (from_one rule5 (mathlib.Core.List.Memᴰ.tail (mathlib.Core.List.Memᴰ.tail (mathlib.Core.List.Memᴰ.tail (mathlib.Core.List.Memᴰ.tail (mathlib.Core.List.Memᴰ.head refl))))))
      (λ e. ⊎_elim (from_one rule6 (mathlib.Core.List.Memᴰ.tail (mathlib.Core.List.Memᴰ.tail (mathlib.Core.List.Memᴰ.tail (mathlib.Core.List.Memᴰ.tail (mathlib.Core.List.Memᴰ.tail (mathlib.Core.List.Memᴰ.head refl)))))))
      (λ e. ⊎_elim (from_two rule7 (mathlib.Core.List.Memᴰ.head refl)) (from_two rule8 (mathlib.Core.List.Memᴰ.tail (mathlib.Core.List.Memᴰ.head refl)))
      (or_else_some _ _ a e)) (or_else_some _ _ a e)) (or_else_some _ _ a e)) (or_else_some _ _ a e)) (or_else_some _ _ a e)) (or_else_some _ _ a e)) (or_else_some _ _ a e)

-- so some rule allows it
module _ (f : Formula) (s : State) (a : Asked) where
  pub step_allowed : step f s ≡ Some a → Allowed f s a.step
  step_allowed = step_cases f s a
      (λ c m k rule i e. by_clause a.step c m (one_of rule i (standing s c) (standing_no_false s c) a.step e))
      (λ g h b j k l i rule m e. by_pair a.step g h b (two_of rule m (standing s g) (standing s h) (standing_no_false s g) a.step e))
    where
      by_clause : (d : Step) (c : Clause) → Memᴰ c f → One (standing s c) d → Allowed f s d
      by_clause DeadEnd c m h = record { clause = c; member = m; dead_end = h }
      by_clause (Becomes x t) c m h = by_one c m h

      by_pair : (d : Step) (g h : Clause) → Before g h f → Two (standing s g) (standing s h) d → Allowed f s d
      by_pair DeadEnd g h b k = absurd k
      by_pair (Becomes x t) g h b k = by_two g h b k

  pub asked_allowed : {x t : Literal} → step f s ≡ Some a → a.step ≡ Becomes x t → Asks f s x t
  asked_allowed asked e = rw e at (step_allowed asked)

-- Which clause asks the step ---------------------------------------------------------------------------------------

numbered_clause : {f : Formula} {c : Clause} {k : ℕ} → Numbered 1 f c k → numbered f k ≡ c
numbered_clause {k = k} n = let at : k - 1 ≡ n.index = omega (arith, n.number) in rw at (n.here [])

-- a literal of variable p stands in a clause
abbrev Stood : ℕ → Clause → Type 0
Stood p c = (y : Literal) × Memᴰ y c × (var y ≡ p)

one_holds : {c : Clause} {x t : Literal} → AsksOne c x t → Stood (var x) c
one_holds (one_true_lem {x = x} a m o) = (x, m, refl)
one_holds (only_one {x = x} e o) = (x, rw e (mathlib.Core.List.Memᴰ.head refl), refl)
one_holds {c} (stands_twice {x = x} h o) = (x, occurs_mem c x (omega arith), refl)
one_holds (opposites {x = x} y a b m o d) = (x, m, refl)
one_holds (only_two {x = x} y z e oy oz k) = ⊎_elim
    (λ (q : var x ≡ var y). (y, rw e (mathlib.Core.List.Memᴰ.head refl), sym q))
    (λ (q : var x ≡ var z). (z, rw e (mathlib.Core.List.Memᴰ.tail (mathlib.Core.List.Memᴰ.head refl)), sym q))
    k.one_of

two_holds : {g h : Clause} {x t : Literal} → AsksTwo g h x t → Stood (var x) h
two_holds (common {x = x} y xg xh yg yh o d) = (x, xh, refl)
two_holds (crossed {x = x} y z yg yh zg zh oy oz k) = ⊎_elim
    (λ (q : var x ≡ var y). (opposite y, yh, var_opposite y ∙ sym q))
    (λ (q : var x ≡ var z). (opposite z, zh, var_opposite z ∙ sym q))
    k.one_of

module _ (f : Formula) (s : State) (a : Asked) where
  -- of a pair the later one
  pub step_asker : step f s ≡ Some a → AskedOf f s a.clause.0 a.step
  step_asker = step_cases f s a
      (λ c m k rule i e. alone rule i (rw (numbered_clause k) e))
      (λ g h b j k l i rule m e. paired rule m j (omega (arith, k.number)) i (rw (numbered_clause k, numbered_clause l) e))

  -- it holds the variable that the step settles or ties, or one that is tied to it
  pub step_holds : {x t : Literal} → step f s ≡ Some a → a.step ≡ Becomes x t → Holds f s a.clause.0 (var x)
  step_holds {x} {t} asked e = step_cases f s a
      (λ c m k rule i h.
      let o : AsksOne (standing s c) x t = rw e at (one_of rule i (standing s c) (standing_no_false s c) a.step h) in
      stems c k (one_holds o))
      (λ g c b j l k i rule m h.
      let o : AsksTwo (standing s g) (standing s c) x t = rw e at (two_of rule m (standing s g) (standing s c) (standing_no_false s g) a.step h) in
      stems c k (two_holds o))
      asked
    where
      stems : (c : Clause) → Numbered 1 f c a.clause.0 → Stood (var x) (standing s c) → Holds f s a.clause.0 (var x)
      stems c k w =
          let l = standing_mem s c w.0 w.1 in
          record {
            from_one = omega (arith, k.number);
            is_clause = omega (arith, k.number, k.inside);
            entry = l.written;
            in_clause_lem = rw (numbered_clause k) l.member;
            tied = sym (value_variable s l.written) ∙ ap var l.valued ∙ w.2;
          }

-- where the fixed order asks nothing, no rule fits
pub record Rests (f : Formula) (s : State) : Type 0 where
  pub quiet : (c : Clause) → Memᴰ c f → Quiet (standing s c)
  pub quiet7 : (g h : Clause) → Before g h f → rule7 (standing s g) (standing s h) ≡ None
  pub quiet8 : (g h : Clause) → Before g h f → rule8 (standing s g) (standing s h) ≡ None

pub step_rests : (f : Formula) (s : State) → step f s ≡ None → Rests f s
unfolding ask
step_rests f s e =
    let e1 = or_else_none _ _ e in
    let e2 = or_else_none _ _ e1.1 in
    let e3 = or_else_none _ _ e2.1 in
    let e4 = or_else_none _ _ e3.1 in
    let e5 = or_else_none _ _ e4.1 in
    let e6 = or_else_none _ _ e5.1 in
    let e7 = or_else_none _ _ e6.1 in
    record {
      quiet = λ c m. record {
        quiet1 = clause_none (standing s) rule1 1 f e1.0 m;
        quiet2 = clause_none (standing s) rule2 1 f e2.0 m;
        quiet3 = clause_none (standing s) rule3 1 f e3.0 m;
        quiet4 = clause_none (standing s) rule4 1 f e4.0 m;
        quiet5 = clause_none (standing s) rule5 1 f e5.0 m;
        quiet6 = clause_none (standing s) rule6 1 f e6.0 m;
      };
      quiet7 = λ g h b. pair_none (standing s) rule7 1 e7.0 b;
      quiet8 = λ g h b. pair_none (standing s) rule8 1 e7.1 b;
    }
