-- A list that is filled from the front, one element a turn.
use mathlib.Core.Path.{◌≡◌, refl, ◌∙◌}
use mathlib.Core.List.{List}
use Prim.Native.Nat.{ℕ, ◌+◌, ◌<◌, ◌≤◌}
use native.Mathlib.Decide.{dec_lt}
use native.Mathlib.Omega.{arith}
use lib.ListN.{length, get_or, set, length-set}
use lib.Seq.{get_or-set_same, get_or-set_other}

module _ {A : Type 0} (d : A) (g : ℕ → A) where
  -- new is old with g k at each index k below p
  pub record Filled (old new : List A) (p : ℕ) : Type 0 where
    pub long : length new ≡ length old
    pub done : (k : ℕ) → k < p → get_or new k d ≡ g k
    pub rest : (k : ℕ) → p ≤ k → get_or new k d ≡ get_or old k d

  pub filled_none : (l : List A) → Filled l l 0
  filled_none l = record { long = refl; done = λ k h. absurd (omega arith); rest = λ k h. refl }

  pub filled_more : {old new : List A} {p : ℕ} → Filled old new p → p < length old → (x : A) → x ≡ g p → Filled old (set new p x) (p + 1)
  filled_more {old} {new} {p} f h x e = record {
    long = length-set new p x ∙ f.long;
    done = λ k b. elim (dec_lt k p) [
      | yes b' ↦ get_or-set_other new p k x d (λ q. omega arith) ∙ f.done k b'
      | no b' ↦ let q : k ≡ p = omega arith in rw q (get_or-set_same new p x d (omega (arith, f.long)) ∙ e)
    ];
    rest = λ k b. get_or-set_other new p k x d (λ q. omega arith) ∙ f.rest k (omega arith);
  }
