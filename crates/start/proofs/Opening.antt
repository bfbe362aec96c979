-- Where every variable is open and alone, the state is the initial one, and each class is a ring of one.
use mathlib.Core.Path.{◌≡◌, refl, sym, ◌∙◌}
use mathlib.Core.List.{List, []}
use Prim.Native.Nat.{ℕ, ◌+◌, ◌*◌, ◌/◌, ◌≤◌, ◌<◌}
use native.Mathlib.Decide.{dec_lt}
use native.Mathlib.Omega.{arith}
use lib.ListN.{get_or, set, length, length-set, get_or-eq_default}
use lib.Seq.{get_or-set_same, get_or-set_other}
use Rattle.general.specs.Bits.{bit_same}
use Rattle.general.specs.Repeats.{times_nil, times_cons}
use Rattle.literal.specs.Literal.{max_variables, max_clauses, variables}
use Rattle.theory.specs.State.{initial}
use Rattle.state.specs.State.{state_of}
use Rattle.state.proofs.Values.{state_of_initial}
use Rattle.tally.specs.Tally.{with_value, with_link, with_count}
use Rattle.tally.specs.Ring.{Chain, Ring, Classes}
use Rattle.tally.proofs.Turned.{inside_root}
use Rattle.start.specs.Opening.{OpenBelow}
use Rattle.tally.specs.declared.Tally.{Tally}

-- a list that has f at each index below n gets f n at n
pub set_below : (l : List ℕ) (n x : ℕ) (f : ℕ → ℕ) → n < length l → x ≡ f n → ((p : ℕ) → p < n → get_or l p 0 ≡ f p) →
    (p : ℕ) → p < n + 1 → get_or (set l n x) p 0 ≡ f p
set_below l n x f h e before p b = elim (dec_lt p n) [
  | yes q ↦ get_or-set_other l n p x 0 (λ z. omega arith) ∙ before p q
  | no q ↦ let z : p ≡ n = omega arith in rw z (get_or-set_same l n x 0 h ∙ e)
]

-- counts are written beside
pub open_counted : {t : Tally} {n : ℕ} (g x : ℕ) → OpenBelow t n → OpenBelow (with_count g x t) n
open_counted {t} g x o = record {
  long_values = o.long_values;
  long_links = o.long_links;
  long_counts = length-set t.counts g x ∙ o.long_counts;
  values = o.values;
  links = o.links;
}

module _ {t : Tally} (o : OpenBelow t variables) where
  pub open_initial : state_of t.values ≡ initial
  open_initial = state_of_initial t.values (λ p h. o.values p (omega arith))

  alone : (r : ℕ) → 0 < r → r ≤ max_variables → Ring t.links t.values r
  unfolding Chain
  alone r h i = record {
    others = [];
    arc = record {
      chain = o.links r (omega arith);
      members = λ q. omega (arith, times_cons q r [], times_nil q, bit_same r q (get_or t.values q 0 / 2) r (λ e. to q (sym e)) (λ e. sym (from q e)));
    };
  }
    where
      to : (q : ℕ) → q ≡ r → get_or t.values q 0 / 2 ≡ r
      to q e = rw e (omega (arith, o.values r (omega arith)))

      from : (q : ℕ) → get_or t.values q 0 / 2 ≡ r → q ≡ r
      from q e = elim (dec_lt q variables) [
        | yes b ↦ omega (arith, o.values q b)
        | no b ↦ absurd (let z : length t.values ≤ q = omega (arith, o.long_values) in omega (arith, get_or-eq_default t.values 0 z))
      ]

  pub open_classes : Classes t.values t.links
  open_classes = record {
    base = o.values 0 (omega arith);
    range = λ p h. omega (arith, o.values p (omega arith));
    rooted = λ p h. let e : get_or t.values p 0 / 2 ≡ p = omega (arith, o.values p (omega arith)) in rw e (o.values p (omega arith));
    rings = λ r h e. alone r h (inside_root t.values r o.long_values h e);
  }
