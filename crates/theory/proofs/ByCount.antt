-- The three forms of a clause that no rule fits, by its counts; and the steps of rules 3 and 6, and rule 1, by count.
use mathlib.Core.Path.{◌≡◌, refl, ap, sym, ◌∙◌}
use mathlib.Core.Bool.{true}
use mathlib.Core.Logic.{◌⊎◌, inl, inr, ◌≢◌, ⊎_elim, ◌↔◌}
use mathlib.Core.List.Memᴰ
use mathlib.Core.List.{[], ◌∷◌, Memᴰ}
use Prim.Native.Nat.{◌<◌}
use native.Mathlib.Omega.{arith}
use native.Mathlib.Decide.{dec_lt}
use lib.ListN.{length}
use borrow.Author.Tests.{lt-ltb}
use Rattle.general.specs.Counting.{count}
use Rattle.literal.specs.declared.Literal.{Literal}
use Rattle.literal.specs.Literal.{TRUE, FALSE, var, opposite}
use Rattle.theory.specs.Formula.{Clause}
use Rattle.theory.specs.State.{State, assign, standing}
use Rattle.theory.specs.Rules.{occurs, live}
use Rattle.theory.proofs.Literals.{opposite_opposite, var_opposite, opposite_ne}
use Rattle.theory.proofs.Clauses.{mem_occurs, occurs_mem}
use Rattle.theory.proofs.Closed.{NoFalse, Alive, Closed, met, resting, alive, Quiet, open_of, not_true_of, alive_live, alive_none_true}
use Rattle.theory.proofs.Forms.{in_pair, closed_quiet}
use Rattle.theory.proofs.Ties.{Ties, ties_turned}
use Rattle.theory.proofs.Asks.{AsksOne, only_one, only_two, Unmeetable, standing_no_false}
use Rattle.theory.proofs.Live.{live_alive}
use Rattle.theory.proofs.Counts.{open_count, Distinct, Wide, mentions_occurs, length_counted}
use Rattle.theory.proofs.Recounts.{opens_decided, trues_decided}

-- one true and nothing open; a literal, its opposite and no more; none true and three or more open literals of different variables
pub data ByCount (d : Clause) : Type 0 where
  all_true : occurs TRUE d ≡ 1 → open_count d ≡ 0 → ByCount d
  two_open : (y : Literal) → occurs TRUE d ≡ 0 → open_count d ≡ 2 → Memᴰ y d → Memᴰ (opposite y) d → ByCount d
  three_open : Wide d → Distinct d → ByCount d

-- clauses of no literal, of one, and of two
empty : (d : Clause) → length d ≡ 0 → d ≡ []
empty [] h = refl
empty (x ∷ d) h = absurd (omega arith)

single : (d : Clause) (y : Literal) → length d ≡ 1 → Memᴰ y d → d ≡ y ∷ []
single [] y h m = absurd (omega arith)
single (x ∷ []) y h m = ap (λ (l : Literal). l ∷ []) (sym (Memᴰ.eq_of_singleton m))
single (x ∷ z ∷ d) y h m = absurd (omega arith)

pair : (d : Clause) (y z : Literal) → length d ≡ 2 → y ≢ z → Memᴰ y d → Memᴰ z d → (d ≡ y ∷ z ∷ []) ⊎ (d ≡ z ∷ y ∷ [])
pair [] y z h n my mz = absurd (omega arith)
pair (u ∷ []) y z h n my mz = absurd (omega arith)
pair (u ∷ v ∷ []) y z h n my mz = two (in_pair y my) (in_pair z mz)
  where
    two : (y ≡ u) ⊎ (y ≡ v) → (z ≡ u) ⊎ (z ≡ v) → (u ∷ v ∷ [] ≡ y ∷ z ∷ []) ⊎ (u ∷ v ∷ [] ≡ z ∷ y ∷ [])
    two (inl p) (inl q) = absurd (n (p ∙ sym q))
    two (inl p) (inr q) = inl (rw (p, q))
    two (inr p) (inl q) = inr (rw (p, q))
    two (inr p) (inr q) = absurd (n (p ∙ sym q))
pair (u ∷ v ∷ w ∷ d) y z h n my mz = absurd (omega arith)

module _ (d : Clause) (f : NoFalse d) where
  -- with none true what stands is open
  counted_open : occurs TRUE d ≡ 0 → (x : Literal) → Memᴰ x d → 0 < var x
  counted_open z x m = open_of x (not_true_of d x z m) (f x m)

  -- the steps of rules 3 and 6, and rule 1 ---------------------------------------------------------------------------

  pub asks_only : (x : Literal) → occurs TRUE d ≡ 0 → open_count d ≡ 1 → Memᴰ x d → AsksOne d x TRUE
  asks_only x z o m = only_one (single d x (omega (arith, length_counted d f)) m) (counted_open z x m)

  pub asks_tie : {x t : Literal} (y v : Literal) → occurs TRUE d ≡ 0 → open_count d ≡ 2 → Memᴰ y d → Memᴰ v d → Ties y v x t → AsksOne d x t
  asks_tie y v z o my mv k = ⊎_elim
      (λ e. only_two y v e (counted_open z y my) (counted_open z v mv) k)
      (λ e. only_two v y e (counted_open z v mv) (counted_open z y my) (ties_turned k))
      (pair d y v (omega (arith, length_counted d f)) (λ e. k.apart (ap var e)) my mv)

  pub dead_counted : occurs TRUE d ≡ 0 → open_count d ≡ 0 → Unmeetable d
  dead_counted z o = inr (empty d (omega (arith, length_counted d f)))

  -- the three forms ----------------------------------------------------------------------------------------------

  alive_counted : Wide d → Distinct d → Alive d
  alive_counted w k = record {
    opened = opened;
    once = λ x. elim (dec_lt 1 (occurs x d)) [
      | yes h ↦ let m = occurs_mem d x (omega arith) in absurd (omega (arith, k (var x) (opened x m), mentions_occurs x d))
      | no h ↦ omega arith
    ];
    apart = λ x m. omega (arith, k (var x) (opened x m), mentions_occurs x d, mem_occurs d x m);
    three = omega (arith, w.three, length_counted d f);
  }
    where
      opened : (x : Literal) → Memᴰ x d → 0 < var x
      opened = counted_open w.none_true

  pub counted_closed : ByCount d → Closed d
  counted_closed (all_true z o) = rw (single d TRUE (omega (arith, length_counted d f)) (occurs_mem d TRUE (omega arith))) met
  counted_closed (two_open y z o m n) = ⊎_elim
      (λ (e : d ≡ y ∷ opposite y ∷ []). rw e (resting y (counted_open z y m)))
      (λ (e : d ≡ opposite y ∷ y ∷ []).
      let q : d ≡ opposite y ∷ opposite (opposite y) ∷ [] = e ∙ ap (λ (l : Literal). opposite y ∷ l ∷ []) (sym (opposite_opposite y)) in
      rw q (resting (opposite y) (counted_open z (opposite y) n)))
      (pair d y (opposite y) (omega (arith, length_counted d f)) (λ e. opposite_ne y (sym e)) m n)
  counted_closed (three_open w k) = alive (alive_counted w k)

  -- rules 1 to 6 fit nowhere
  pub counted_quiet : ByCount d → Quiet d
  counted_quiet k = closed_quiet (counted_closed k)

module _ {d : Clause} (a : Alive d) where
  pub alive_wide : Wide d
  alive_wide = record {
    none_true = alive_none_true a;
    three = omega (arith, a.three, length_counted d (λ x m e. omega (arith, a.opened x m, ap var e)), alive_none_true a);
  }

-- such a clause is live exactly if it is wide
pub live_counted : {d : Clause} → Closed d → (live d ≡ true) ↔ Wide d
unfolding count
live_counted k = (λ e. alive_wide (live_alive k e), back k)
  where
    back : {d : Clause} → Closed d → Wide d → live d ≡ true
    back met w = absurd (omega (arith, w.three))
    back (resting x o) w = absurd (omega (arith, rw (var_opposite x, lt-ltb 0 (var x) o) at w.three))
    back (alive a) w = alive_live a

-- where one literal stands alone, but more than once: rule 4 makes it false, and nothing is left
pub repeated_dead : (s : State) (c : Clause) (y : Literal) → 0 < var y → occurs TRUE (standing s c) ≡ 0 → open_count (standing s c) ≡ occurs y (standing s c) →
    Unmeetable (standing (assign y FALSE s) c)
repeated_dead s c y o z e =
    let i = mentions_occurs y (standing s c) in
    let j = opens_decided s y FALSE o refl c in
    let l = trues_decided s y o c in
    dead_counted (standing (assign y FALSE s) c) (standing_no_false (assign y FALSE s) c) (omega arith) (omega arith)
