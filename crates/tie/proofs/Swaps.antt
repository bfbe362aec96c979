-- Two rings become one where two links are swapped.
use mathlib.Core.Path.{◌≡◌, ap, sym, ◌∙◌}
use mathlib.Core.List.{List, [], ◌∷◌, ◌++◌}
use Prim.Native.Nat.{ℕ, ◌+◌, ◌/◌, ◌<◌}
use native.Mathlib.Omega.{arith}
use borrow.Author.Tests.{eq-eqb}
use lib.Dec.{eqb}
use lib.ListN.{get_or, set, length, length-set}
use lib.Seq.{get_or-set_same, get_or-set_other}
use Rattle.general.specs.Booleans.{bit}
use Rattle.general.specs.Bits.{bit_le}
use Rattle.general.specs.Times.{times}
use Rattle.general.specs.Repeats.{times_cons, times_append}
use Rattle.literal.specs.Literal.{variables}
use Rattle.tally.specs.Ring.{Chain, Arc}
use Rattle.tally.proofs.Stretches.{chain_move}
use Rattle.tie.specs.Turning.{swapped}

chain_join : (link : List ℕ) (p : ℕ) (l : List ℕ) (q : ℕ) (m : List ℕ) (e : ℕ) → Chain link p l q → Chain link q m e → Chain link p (l ++ q ∷ m) e
unfolding Chain
chain_join link p [] q m e c d = (c, d)
chain_join link p (o ∷ l) q m e c d = (c.0, chain_join link o l q m e c.1 d)

pub swapped_other : (link : List ℕ) (r q z : ℕ) → (z ≡ r → ⊥) → (z ≡ q → ⊥) → get_or (swapped link r q) z 0 ≡ get_or link z 0
swapped_other link r q z a b = get_or-set_other (set link r (get_or link q 0)) q z (get_or link r 0) 0 b ∙ get_or-set_other link r z (get_or link q 0) 0 a

-- the class of q goes over to r
module _ (link v u : List ℕ) (r q : ℕ) (long : length link ≡ variables) (inside : r < variables) (inside_q : q < variables) (apart : r ≡ q → ⊥)
    (moved : (z : ℕ) → bit (eqb (get_or u z 0 / 2) r) ≡ bit (eqb (get_or v z 0 / 2) r) + bit (eqb (get_or v z 0 / 2) q)) where
  at_r : get_or (swapped link r q) r 0 ≡ get_or link q 0
  at_r = get_or-set_other (set link r (get_or link q 0)) q r (get_or link r 0) 0 apart ∙ get_or-set_same link r (get_or link q 0) 0 (omega arith)

  at_q : get_or (swapped link r q) q 0 ≡ get_or link r 0
  at_q = get_or-set_same (set link r (get_or link q 0)) q (get_or link r 0) 0 (omega (arith, length-set link r (get_or link q 0)))

  module _ {a b : List ℕ} (ra : Arc link v r r a) (qb : Arc link v q q b) where
    -- neither root stands in either list
    none : (z : ℕ) → (z ≡ r) → (times z a ≡ 0) × (times z b ≡ 0)
    none z e = (
      omega (arith, ra.members z, times_cons z r a, ap bit (eq-eqb r z (sym e)), bit_le (eqb (get_or v z 0 / 2) r)),
      omega (arith, ra.members z, qb.members z, times_cons z r a, times_cons z q b, ap bit (eq-eqb r z (sym e)), moved z, bit_le (eqb (get_or u z 0 / 2) r)),
    )

    none_q : (z : ℕ) → (z ≡ q) → (times z a ≡ 0) × (times z b ≡ 0)
    none_q z e = (
      omega (arith, ra.members z, qb.members z, times_cons z r a, times_cons z q b, ap bit (eq-eqb q z (sym e)), moved z, bit_le (eqb (get_or u z 0 / 2) r)),
      omega (arith, qb.members z, times_cons z q b, ap bit (eq-eqb q z (sym e)), bit_le (eqb (get_or v z 0 / 2) q)),
    )

    pub swap_arc : Arc (swapped link r q) u r r (b ++ q ∷ a)
    swap_arc = record {
      chain =
          chain_join (swapped link r q) r b q a r
          (chain_move link (swapped link r q) q r b q at_r (λ z h. swapped_other link r q z (λ e. omega (arith, (none z e).1)) (λ e. omega (arith, (none_q z e).1))) qb.chain)
          (chain_move link (swapped link r q) r q a r at_q (λ z h. swapped_other link r q z (λ e. omega (arith, (none z e).0)) (λ e. omega (arith, (none_q z e).0))) ra.chain);
      members = λ z.
          omega (arith, times_cons z r (b ++ q ∷ a), times_append z b (q ∷ a), times_cons z q a, ra.members z, qb.members z, times_cons z r a, times_cons z q b, moved z);
    }
