-- How often a number stands in a list that is made of parts.
use Rattle.std.specs.Prelude.{◌≡◌, refl, List, [], ◌∷◌, ◌++◌, ℕ, ◌+◌, eqb}
use Rattle.std.proofs.Common.{arith}
use Rattle.general.specs.Booleans.{bit}
use Rattle.general.specs.Times.{times}

pub times_nil : (k : ℕ) → times k [] ≡ 0
unfolding times
times_nil k = refl

pub times_cons : (k o : ℕ) (l : List ℕ) → times k (o ∷ l) ≡ bit (eqb o k) + times k l
unfolding times
times_cons k o l = refl

pub times_append : (k : ℕ) (l m : List ℕ) → times k (l ++ m) ≡ times k l + times k m
unfolding times
times_append k [] m = omega arith
times_append k (o ∷ l) m = omega (arith, times_append k l m)
