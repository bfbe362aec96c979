-- The walk over a clause that counts a variable by its signs: what holds at the loop's head, at the start, after a turn and at the end.
use mathlib.Core.Path.{◌≡◌, refl, ap, sym, ◌∙◌}
use mathlib.Core.Logic.{◌≢◌}
use mathlib.Core.List.{List, ◌∷◌, map}
use Prim.Native.Nat.{ℕ, ◌+◌, ◌*◌, ◌≤◌, ◌<◌}
use native.Mathlib.Omega.{arith}
use mir.Val.{bool_byte}
use lib.Dec.{eqb}
use lib.ListN.{get_or, drop, length, drop_of_length-le}
use Rattle.std.proofs.lemmas.List.{drop_more}
use Rattle.general.specs.Booleans.{bit, byte_bit}
use Rattle.general.specs.Bits.{bit_le}
use Rattle.literal.specs.declared.Literal.{Literal}
use Rattle.literal.specs.Literal.{FALSE, var, same, code_of, literal_at, max_table}
use Rattle.literal.proofs.Codes.{code_of_literal_at, same_code, var_at}
use Rattle.theory.specs.Formula.{Clause}
use Rattle.theory.specs.State.{State, value, standing}
use Rattle.theory.specs.Rules.{occurs}
use Rattle.theory.proofs.Literals.{same_ne}
use Rattle.theory.proofs.Clauses.{stand_ind}
use Rattle.occurrences.specs.Index.{literals}
use Rattle.occurrences.proofs.Slices.{literals_long, literals_clause}
use Rattle.tally.specs.Tally.{state_in}
use Rattle.undouble.specs.Doubling.{stood, Signable}
use Rattle.occurrences.specs.declared.Index.{Index}
use Rattle.tally.specs.declared.Tally.{Tally}

-- a literal in front of a clause, as it stands
occurs_front : (x : Literal) → x ≢ FALSE → (s : State) (l : Literal) (c : Clause) → occurs x (standing s (l ∷ c)) ≡ bit (same (value s l) x) + occurs x (standing s c)
unfolding standing occurs
occurs_front x h s l c = stand_ind (λ v d. occurs x d ≡ bit (same v x) + occurs x (standing s c)) (standing s c)
    (rw (same_ne FALSE x (λ e. h (sym e))) (omega arith)) (λ v n. refl) (value s l)

-- how often the literal of code x stands in a clause from place i of its codes on
abbrev ahead : (st : Tally) (cs : List ℕ) → ℕ → ℕ → ℕ
ahead st cs i x = occurs (literal_at x) (standing (state_in st) (map literal_at (drop i cs)))

module _ (st : Tally) (cs : List ℕ) (i x : ℕ) where
  ahead_front : 1 < x → i < length cs → (v : ℕ) → v ≡ code_of (value (state_in st) (literal_at (get_or cs i 0))) → ahead st cs i x ≡ bit (eqb v x) + ahead st cs (i + 1) x
  ahead_front o h v e =
      let b : same (value (state_in st) (literal_at (get_or cs i 0))) (literal_at x) ≡ eqb v x =
      sym (same_code (value (state_in st) (literal_at (get_or cs i 0))) (literal_at x)) ∙ rw (e, code_of_literal_at x) in
      rw (drop_more cs i 0 h, ← b) (occurs_front (literal_at x) (λ q. omega (arith, var_at x, ap var q)) (state_in st) (literal_at (get_or cs i 0)) _)

  ahead_none : length cs ≤ i → ahead st cs i x ≡ 0
  unfolding standing occurs
  ahead_none h = rw (drop_of_length-le cs h)

pub record Signing (ix : Index) (st : Tally) (g r : ℕ) (cs : List ℕ) (plus minus i : ℕ) : Type 0 where
  pub short : length cs ≤ max_table
  pub plus_ahead : plus + ahead st cs i (2 * r) ≡ stood ix st g (2 * r)
  pub minus_ahead : minus + ahead st cs i (2 * r + 1) ≡ stood ix st g (2 * r + 1)
  pub plus_few : plus ≤ i
  pub minus_few : minus ≤ i

module _ {ix : Index} {g r : ℕ} (d : Signable ix g r) (st : Tally) {cs : List ℕ} (are : cs ≡ literals ix g) where
  pub signing_begins : Signing ix st g r cs 0 0 0
  signing_begins = record {
    short = omega (arith, literals_long ix g cs are, d.index.stops (g + 1) (omega (arith, d.clause)));
    plus_ahead = rw (literals_clause ix g cs are) (omega arith);
    minus_ahead = rw (literals_clause ix g cs are) (omega arith);
    plus_few = omega arith;
    minus_few = omega arith;
  }

  module _ {plus minus i : ℕ} (w : Signing ix st g r cs plus minus i) where
    pub signing_low : i ≤ length cs → plus + minus ≤ 2 * max_table
    signing_low h = omega (arith, w.plus_few, w.minus_few, w.short)

    pub signing_goes : i < length cs → (v : ℕ) → v ≡ code_of (value (state_in st) (literal_at (get_or cs i 0))) →
        Signing ix st g r cs (plus + bool_byte (eqb v (2 * r))) (minus + bool_byte (eqb v (2 * r + 1))) (i + 1)
    signing_goes h v e = rw (byte_bit (eqb v (2 * r)), byte_bit (eqb v (2 * r + 1))) (record {
      short = w.short;
      plus_ahead = omega (arith, w.plus_ahead, ahead_front st cs i (2 * r) (omega (arith, d.positive)) h v e);
      minus_ahead = omega (arith, w.minus_ahead, ahead_front st cs i (2 * r + 1) (omega (arith, d.positive)) h v e);
      plus_few = omega (arith, w.plus_few, bit_le (eqb v (2 * r)));
      minus_few = omega (arith, w.minus_few, bit_le (eqb v (2 * r + 1)));
    })

    pub signing_ends : length cs ≤ i → (plus ≡ stood ix st g (2 * r)) × (minus ≡ stood ix st g (2 * r + 1))
    signing_ends h = (omega (arith, w.plus_ahead, ahead_none st cs i (2 * r) h), omega (arith, w.minus_ahead, ahead_none st cs i (2 * r + 1) h))
