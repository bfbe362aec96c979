-- The lowest rule that fits: rules 1 to 6 one after the other, and else the pairs.
use mathlib.Core.Path.{◌≡◌, refl}
use mathlib.Core.List.{List, [], ◌∷◌}
use Prim.Native.Nat.{ℕ, ◌+◌, ◌<◌, ◌≤◌}
use native.Mathlib.Numerals.{add-one}
use lib.IntN.{ℤ}
use lib.ListN.{length, get_or, drop, drop_of_length-le}
use lib.Seq.{drop-cons}
use Rattle.std.specs.Prelude.{Option, None, Some}
use Rattle.std.specs.Option.{option_or}
use Rattle.theory.specs.declared.Asked.{Asked}
use Rattle.theory.specs.Formula.{clauses}
use Rattle.theory.specs.Propagation.{ask, step}
use Rattle.state.specs.State.{state_of}
use Rattle.rules.specs.declared.PairRule.TheVariants.{Seven, Eight}
use Rattle.rules.specs.declared.Rule.{Rule}
use Rattle.rules.specs.declared.Rule.TheVariants.{One, Two, Three, Four, Five, Six}
use Rattle.propagate.specs.Code.{first_from, first_of_pairs}

module _ (t : List ℤ) (v : List ℕ) where
  -- the first of these rules that fits, and else the first pair
  abbrev pub lowest : List Rule → Option Asked
  lowest [] = option_or (first_of_pairs t v Seven) (first_of_pairs t v Eight)
  lowest (r ∷ rs) = option_or (first_from t v r 1 0) (lowest rs)

  pub lowest_step : lowest (One ∷ Two ∷ Three ∷ Four ∷ Five ∷ Six ∷ []) ≡ step (clauses t) (state_of v)
  unfolding ask
  lowest_step = refl

  module _ (rs : List Rule) (i : ℕ) where
    pub lowest_here : (d : Rule) → i < length rs → {a : Asked} → Some a ≡ first_from t v (get_or rs i d) 1 0 → Some a ≡ lowest (drop i rs)
    lowest_here d h e = rw (drop-cons rs i d, ← e)

    pub lowest_later : (d : Rule) → i < length rs → None ≡ first_from t v (get_or rs i d) 1 0 → lowest (drop (i + 1) rs) ≡ lowest (drop i rs)
    lowest_later d h e = rw (drop-cons rs i d, ← e, add-one)

    pub lowest_pairs : length rs ≤ i → lowest (drop i rs) ≡ option_or (first_of_pairs t v Seven) (first_of_pairs t v Eight)
    lowest_pairs h = rw (drop_of_length-le rs h)
