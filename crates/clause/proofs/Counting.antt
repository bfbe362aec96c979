-- Counting the literals of a clause, one after the other.
use mathlib.Core.Path.{◌≡◌, ap, sym, ◌∙◌}
use mathlib.Core.List.{List, [], ◌∷◌}
use Prim.Native.Nat.{ℕ, ◌+◌, ◌<◌, ◌≤◌}
use native.Mathlib.Decide.{ℕ_discrete}
use native.Mathlib.Omega.{arith}
use borrow.Author.Tests.{eq-eqb, ne_eqb}
use lib.ListN.{length, get_or, set, length-set, replicate, length-replicate, get_or-replicate}
use lib.Seq.{get_or-set_same, get_or-set_other}
use Rattle.general.specs.Booleans.{bit}
use Rattle.literal.specs.declared.Literal.{Literal}
use Rattle.literal.specs.Literal.{var, same, code_of, max_variables, codes}
use Rattle.literal.proofs.Codes.{same_code}
use Rattle.theory.specs.Formula.{Clause}
use Rattle.theory.specs.Rules.{occurs}
use Rattle.state.proofs.Values.{code_below}
use Rattle.clause.specs.Reading.{CountsOf}

pub occurs_end : (x : Literal) {c : Clause} → c ≡ [] → occurs x c ≡ 0
unfolding occurs
occurs_end x e = rw e

pub occurs_front : (x : Literal) {c d : Clause} {y : Literal} → c ≡ y ∷ d → occurs x c ≡ bit (same y x) + occurs x d
unfolding occurs
occurs_front x e = rw e

-- v counts n literals at most, and with those of the rest the whole
pub record Counting (v : List ℕ) (n : ℕ) (rest whole : Clause) : Type 0 where
  pub long : length v ≡ codes
  pub low : (k : ℕ) → k < codes → get_or v k 0 ≤ n
  pub each : (x : Literal) → var x ≤ max_variables → get_or v (code_of x) 0 + occurs x rest ≡ occurs x whole

pub counting_none : (n : ℕ) (c : Clause) → Counting (replicate codes 0) n c c
counting_none n c = record {
  long = length-replicate {A = ℕ} codes 0;
  low = λ k h. rw (get_or-replicate {A = ℕ} codes k 0 0 h) (omega arith);
  each = λ x h. rw (get_or-replicate {A = ℕ} codes (code_of x) 0 0 (code_below x h)) (omega arith);
}

module _ {v : List ℕ} {n : ℕ} {rest whole : Clause} (k : Counting v n rest whole) where
  -- nothing is left
  pub counting_done : rest ≡ [] → CountsOf v whole
  counting_done e = record { each = λ x h. omega (arith, k.each x h, occurs_end x e) }

  -- one more literal
  pub counting_more : (y : Literal) (m : ℕ) {next : Clause} → var y ≤ max_variables → rest ≡ y ∷ next → n < m →
      Counting (set v (code_of y) (get_or v (code_of y) 0 + 1)) m next whole
  counting_more y m b e h = record {
    long = length-set v (code_of y) (get_or v (code_of y) 0 + 1) ∙ k.long;
    low = λ c d. elim (ℕ_discrete c (code_of y)) [
      | yes q ↦ rw (q, more) (omega (arith, k.low (code_of y) (code_below y b)))
      | no q ↦ rw (get_or-set_other v (code_of y) c (get_or v (code_of y) 0 + 1) 0 q) (omega (arith, k.low c d))
    ];
    each = λ x d. elim (ℕ_discrete (code_of x) (code_of y)) [
      | yes q ↦ rw (q, more) (omega (arith, rw q at (k.each x d), occurs_front x e, ap bit (sym (same_code y x) ∙ eq-eqb (code_of y) (code_of x) (sym q))))
      | no q ↦
          rw (get_or-set_other v (code_of y) (code_of x) (get_or v (code_of y) 0 + 1) 0 q)
          (omega (arith, k.each x d, occurs_front x e, ap bit (sym (same_code y x) ∙ ne_eqb (code_of y) (code_of x) (λ z. q (sym z)))))
    ];
  }
    where
      more : get_or (set v (code_of y) (get_or v (code_of y) 0 + 1)) (code_of y) 0 ≡ get_or v (code_of y) 0 + 1
      more = get_or-set_same v (code_of y) (get_or v (code_of y) 0 + 1) 0 (omega (arith, k.long, code_below y b))
