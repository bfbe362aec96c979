-- Counts of a clause: its open literals, and those of one variable.
use mathlib.Core.Path.{◌≡◌, refl, ap, sym, ◌∙◌}
use mathlib.Core.Bool.{Bool, false}
use mathlib.Core.Logic.{◌≢◌, ⊎_elim}
use mathlib.Core.List.{[], ◌∷◌, Memᴰ}
use Prim.Native.Nat.{ℕ, ◌+◌, ◌<◌, ◌≤◌}
use native.Mathlib.Omega.{arith}
use lib.Dec.{eqb}
use lib.ListN.{length}
use borrow.Author.Tests.{eqb-true, eq-eqb, ne_eqb, lt-ltb}
use Rattle.general.specs.Booleans.{bit}
use Rattle.general.specs.Counting.{count, count_mem, mem_count, count_plus}
use Rattle.literal.specs.declared.Literal.{Literal}
use Rattle.literal.specs.Literal.{TRUE, FALSE, var, opposite, same, is_open}
use Rattle.theory.specs.Formula.{Clause}
use Rattle.theory.specs.State.{State, value, stand, standing}
use Rattle.theory.specs.Rules.{occurs}
use Rattle.theory.proofs.Literals.{var_opposite, opposite_ne, same_refl, same_ne, literal_cases, relation}
use Rattle.theory.proofs.Clauses.{mem_occurs, stand_ind}
use Rattle.theory.proofs.Closed.{NoFalse, open_of}

-- how many open literals stand in a clause, and how many of variable p
abbrev pub open_count : Clause → ℕ
open_count = count is_open

abbrev pub of_variable : ℕ → Literal → Bool
of_variable p l = eqb (var l) p

abbrev pub mentions : ℕ → Clause → ℕ
mentions p = count (of_variable p)

-- the open variables of a clause are pairwise different
abbrev pub Distinct : Clause → Type 0
Distinct c = (p : ℕ) → 0 < p → mentions p c ≤ 1

-- none true and three or more open: the clauses that rules 1, 2, 3 and 6 do not fit, and that are not at rest once 4 and 5 do not
pub record Wide (d : Clause) : Type 0 where
  pub none_true : occurs TRUE d ≡ 0
  pub three : 3 ≤ open_count d

-- a literal of variable p stands
abbrev pub Holds : ℕ → Clause → Type 0
Holds p d = (l : Literal) × Memᴰ l d × (var l ≡ p)

pub holds_mentions : (p : ℕ) (d : Clause) → Holds p d → 0 < mentions p d
holds_mentions p d (l, m, e) = count_mem (of_variable p) d l m (eq-eqb (var l) p e)

pub mentions_holds : (p : ℕ) (d : Clause) → 0 < mentions p d → Holds p d
mentions_holds p d h = let w = mem_count (of_variable p) d h in (w.0, w.1, eqb-true (var w.0) p w.2)

-- occurrences are counted as all else
pub occurs_count : (y : Literal) (c : Clause) → occurs y c ≡ count (λ l. same l y) c
unfolding occurs count
occurs_count y [] = refl
occurs_count y (l ∷ c) = rw (occurs_count y c)

-- a literal of a variable is one or its opposite
pub mentions_occurs : (x : Literal) (d : Clause) → mentions (var x) d ≡ occurs x d + occurs (opposite x) d
mentions_occurs x d = omega (arith, occurs_count x d, occurs_count (opposite x) d, count_plus (of_variable (var x)) (λ l. same l x) (λ l. same l (opposite x)) each d)
  where
    each : (l : Literal) → bit (of_variable (var x) l) ≡ bit (same l x) + bit (same l (opposite x))
    each l = ⊎_elim
        (λ (e : l ≡ x). rw (e, eq-eqb (var x) (var x) refl, same_refl x, same_ne x (opposite x) (λ q. opposite_ne x (sym q))))
        (λ w. ⊎_elim
        (λ (e : l ≡ opposite x). rw (e, var_opposite x, eq-eqb (var x) (var x) refl, same_refl (opposite x), same_ne (opposite x) x (opposite_ne x)))
        (λ (h : var l ≢ var x). rw (ne_eqb (var l) (var x) h, same_ne l x (λ q. h (ap var q)), same_ne l (opposite x) (λ q. h (ap var q ∙ var_opposite x))))
        w)
        (relation l x)

-- a literal and its opposite do not both stand where no variable does twice
pub not_both : {d : Clause} → Distinct d → (y : Literal) → 0 < var y → Memᴰ y d → Memᴰ (opposite y) d → ⊥
not_both {d} k y o m n = omega (arith, k (var y) o, mentions_occurs y d, mem_occurs d y m, mem_occurs d (opposite y) n)

-- what stands is true or open
pub length_counted : (d : Clause) → NoFalse d → length d ≡ occurs TRUE d + open_count d
unfolding occurs count
length_counted [] f = refl
length_counted (l ∷ d) f =
    let ih : length d ≡ occurs TRUE d + open_count d = length_counted d (λ x m. f x (Memᴰ.tail m)) in
    ⊎_elim
    (λ (e : l ≡ TRUE). rw e (omega arith))
    (λ (h : l ≢ TRUE). rw (same_ne l TRUE h, lt-ltb 0 (var l) (open_of l h (f l (Memᴰ.head refl)))) (omega arith))
    (literal_cases l TRUE)

-- what stands is counted where it is written
pub count_standing : (test : Literal → Bool) → test FALSE ≡ false → (s : State) (c : Clause) → count test (standing s c) ≡ count (λ l. test (value s l)) c
unfolding count standing
count_standing test z s [] = refl
count_standing test z s (l ∷ c) = go (value s l) ∙ rw (count_standing test z s c)
  where
    go : (v : Literal) → count test (stand v (standing s c)) ≡ bit (test v) + count test (standing s c)
    go = stand_ind (λ v d. count test d ≡ bit (test v) + count test (standing s c)) (standing s c) (rw z (omega arith)) (λ v h. refl)
