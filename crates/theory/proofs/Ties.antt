-- A tie: of two literals exactly one is true, so one of them becomes the opposite of the other.
use mathlib.Core.Path.{◌≡◌, refl, ap, sym, ◌∙◌}
use mathlib.Core.Bool.{cond}
use mathlib.Core.Logic.{◌⊎◌, inl, inr, ◌≢◌, ⊎_elim}
use Prim.Native.Nat.{ℕ, ◌+◌, ◌<◌, ◌≤◌}
use native.Mathlib.Omega.{arith}
use native.Mathlib.Decide.{dec_le}
use lib.Dec.{leb}
use borrow.Author.Tests.{le-leb, lt-leb}
use Rattle.literal.specs.declared.Literal.{Literal}
use Rattle.literal.specs.declared.Literal.TheVariants.{Pos, Neg}
use Rattle.literal.specs.Literal.{TRUE, var, opposite}
use Rattle.theory.specs.State.{State, value}
use Rattle.theory.proofs.Literals.{opposite_opposite, var_opposite}
use Rattle.theory.proofs.States.{Fixed, Valid, value_opposite, fixed_opposite}

-- that x becomes t where exactly one of y and z is true
pub record Ties (y z x t : Literal) : Type 0 where
  -- a state in which they are opposites takes both sides of the step for the same
  pub alike : (u : State) → value u z ≡ opposite (value u y) → value u x ≡ value u t
  pub apart : var y ≢ var z
  pub one_of : (var x ≡ var y) ⊎ (var x ≡ var z)
  pub valid : (n : ℕ) (s : State) → Fixed s y → Fixed s z → var y ≤ n → var z ≤ n → Valid n s x t

-- "tie the higher placement to the lower"
pub ties_higher : (y z : Literal) → var y < var z → Ties y z z (opposite y)
ties_higher y z l = record {
  alike = λ u q. q ∙ sym (value_opposite u y);
  apart = λ e. omega arith;
  one_of = inr refl;
  valid = λ n s fy fz iy iz. record { fixed_x = fz; fixed_t = fixed_opposite s y fy; lower = omega (arith, var_opposite y); inside = iz };
}

-- which of the two comes first, and whether they or their opposites are said, makes no difference
module _ {y z x t : Literal} (k : Ties y z x t) where
  pub ties_turned : Ties z y x t
  ties_turned = record {
    alike = λ u q. k.alike u (sym (opposite_opposite (value u z)) ∙ ap opposite (sym q));
    apart = λ e. k.apart (sym e);
    one_of = ⊎_elim inr inl k.one_of;
    valid = λ n s fz fy iz iy. k.valid n s fy fz iy iz;
  }

  pub ties_opposite : Ties (opposite y) (opposite z) x t
  ties_opposite = record {
    alike = λ u q. k.alike u (sym (opposite_opposite (value u z)) ∙ ap opposite (sym (value_opposite u z) ∙ q ∙ ap opposite (value_opposite u y) ∙ opposite_opposite (value u y)));
    apart = λ e. k.apart (sym (var_opposite y) ∙ e ∙ var_opposite z);
    one_of = ⊎_elim (λ e. inl (e ∙ sym (var_opposite y))) (λ e. inr (e ∙ sym (var_opposite z))) k.one_of;
    valid = λ n s fy fz iy iz. k.valid n s (unturned s y fy) (unturned s z fz) (rw (var_opposite y) at iy) (rw (var_opposite z) at iz);
  }
    where
      unturned : (s : State) (l : Literal) → Fixed s (opposite l) → Fixed s l
      unturned s l f = rw (opposite_opposite l) at (fixed_opposite s (opposite l) f)

-- a tie of literals not under p has no side under p: t stands for itself also where nothing under p does
module _ (p : ℕ) where
  abbrev only_above : State
  only_above q = cond (leb p q) (Pos q) TRUE

  above_fixed : (l : Literal) → p ≤ var l → Fixed only_above l
  above_fixed (Pos q) h = rw (le-leb p q h)
  above_fixed (Neg q) h = rw (le-leb p q h)

  fixed_above : (l : Literal) → Fixed only_above l → 0 < var l → p ≤ var l
  fixed_above l e o = elim (dec_le p (var l)) [ yes h ↦ h | no h ↦ absurd (under l e o (omega arith)) ]
    where
      under : (l : Literal) → Fixed only_above l → 0 < var l → var l < p → ⊥
      under (Pos q) e o h = omega (arith, ap var (rw (lt-leb p q h) at e))
      under (Neg q) e o h = omega (arith, ap var (rw (lt-leb p q h) at e))

  pub ties_above : {y z x t : Literal} → Ties y z x t → p ≤ var y → p ≤ var z → 0 < var t → p ≤ var t
  ties_above {y} {z} {t = t} k hy hz o =
      fixed_above t (k.valid (var y + var z) only_above (above_fixed y hy) (above_fixed z hz) (omega arith) (omega arith)).fixed_t o
