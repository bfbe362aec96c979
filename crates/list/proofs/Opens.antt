-- The lowest open variable by a walk over the variables, from one on below which none is open.
use mathlib.Core.Path.{◌≡◌, refl, ap}
use Rattle.std.specs.Prelude.{Option, None, Some}
use Prim.Native.Nat.{ℕ, ◌+◌, ◌≤◌, ◌<◌}
use native.Mathlib.Decide.{ℕ_discrete}
use native.Mathlib.Omega.{arith}
use Rattle.theory.specs.Listing.{open_variable}
use Rattle.theory.specs.Order.{IsLeast}
use Rattle.theory.specs.State.{State, Open}
use Rattle.theory.proofs.Listing.{open_least}
use Rattle.tally.specs.Tally.{state_in}
use Rattle.list.specs.Walk.{Shut, Openable}
use Rattle.tally.specs.declared.Tally.{Tally}

-- the lowest open variable is one below which none is open
module _ (n : ℕ) (s : State) (p : ℕ) (shut : Shut n s p) where
  pub lowest_is : Open n s p → Some p ≡ open_variable n s
  lowest_is o = go (open_variable n s) (open_least n s)
    where
      go : (q : Option ℕ) → IsLeast ◌≤◌ (Open n s) q → Some p ≡ q
      go None h = absurd (h p o)
      go (Some q) h = elim (ℕ_discrete p q) [ yes e ↦ ap Some e | no e ↦ absurd (shut q (omega (arith, h.least p o)) h.member) ]

  pub lowest_none : n < p → None ≡ open_variable n s
  lowest_none past = go (open_variable n s) (open_least n s)
    where
      go : (q : Option ℕ) → IsLeast ◌≤◌ (Open n s) q → None ≡ q
      go None h = refl
      go (Some q) h = absurd (shut q (omega (arith, h.member.inside)) h.member)

  pub shut_more : ¬ Open n s p → Shut n s (p + 1)
  shut_more h q i = elim (ℕ_discrete q p) [ yes e ↦ rw e h | no e ↦ shut q (omega arith) ]

-- at the loop's head
pub record Passed (st : Tally) (from n p : ℕ) : Type 0 where
  pub able : Openable st from n
  pub begins : from ≤ p
  pub shut : Shut n (state_in st) p
