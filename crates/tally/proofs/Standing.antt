-- What an exact count tells of a clause as it stands.
use mathlib.Core.Path.{◌≡◌, refl, sym, ◌∙◌}
use mathlib.Core.List.{List, [], ◌∷◌}
use Prim.Native.Nat.{ℕ, ◌+◌, ◌*◌, ◌-◌, ◌≤◌, ◌<◌}
use native.Mathlib.Omega.{arith}
use lib.ListN.{get_or, length}
use Rattle.general.specs.Bits.{bit_le}
use Rattle.general.specs.Counting.{count}
use Rattle.general.specs.Lists.{length_from}
use Rattle.literal.specs.Literal.{TRUE, same, is_open, literal_at, max_table}
use Rattle.theory.specs.Formula.{Clause}
use Rattle.theory.specs.State.{State, value, standing}
use Rattle.theory.specs.Rules.{occurs}
use Rattle.theory.proofs.Counts.{open_count, Wide, occurs_count, count_standing}
use Rattle.state.specs.State.{state_of}
use Rattle.occurrences.specs.declared.Index.{Index}
use Rattle.occurrences.specs.Index.{Indexed, clause_count, clause_of, code_at, start_at}
use Rattle.tally.specs.Counts.{trues_of, opens_of, one_true, Exact}

opens_count : (s : State) (c : Clause) → opens_of s c ≡ count (λ l. is_open (value s l)) c
unfolding opens_of count
opens_count s [] = refl
opens_count s (l ∷ c) = rw (opens_count s c)

trues_count : (s : State) (c : Clause) → trues_of s c ≡ count (λ l. same (value s l) TRUE) c
unfolding trues_of count
trues_count s [] = refl
trues_count s (l ∷ c) = rw (trues_count s c)

pub opens_standing : (s : State) (c : Clause) → opens_of s c ≡ open_count (standing s c)
opens_standing s c = opens_count s c ∙ sym (count_standing is_open refl s c)

pub trues_standing : (s : State) (c : Clause) → trues_of s c ≡ occurs TRUE (standing s c)
trues_standing s c = trues_count s c ∙ sym (count_standing (λ l. same l TRUE) refl s c) ∙ sym (occurs_count TRUE (standing s c))

pub opens_length : (s : State) (c : Clause) → opens_of s c ≤ length c
unfolding opens_of
opens_length s [] = omega arith
opens_length s (l ∷ c) = omega (arith, bit_le (is_open (value s l)), opens_length s c)

pub clause_length : {ix : Index} → Indexed ix → (g : ℕ) → g < clause_count ix → length (clause_of ix g) < max_table
clause_length {ix} index g h =
    omega (arith, length_from (λ i. literal_at (code_at ix i)) (start_at ix g) (start_at ix (g + 1) - 1 - start_at ix g), index.starts g h, index.stops (g + 1) (omega arith))

module _ {ix : Index} {v k : List ℕ} (index : Indexed ix) (exact : Exact ix v k) (g : ℕ) (inside : g < clause_count ix) where
  pub counted : get_or k g 0 ≡ open_count (standing (state_of v) (clause_of ix g)) + one_true * occurs TRUE (standing (state_of v) (clause_of ix g))
  counted = omega (arith, exact.is g inside, opens_standing (state_of v) (clause_of ix g), trues_standing (state_of v) (clause_of ix g))

  pub opens_few : open_count (standing (state_of v) (clause_of ix g)) < max_table
  opens_few = omega (arith, opens_standing (state_of v) (clause_of ix g), opens_length (state_of v) (clause_of ix g), clause_length index g inside)

  pub trues_few : occurs TRUE (standing (state_of v) (clause_of ix g)) ≤ 1
  trues_few = omega (arith, counted, exact.low g inside)

  -- below one true the count is of open literals alone
  pub count_opens : get_or k g 0 < one_true → open_count (standing (state_of v) (clause_of ix g)) ≡ get_or k g 0
  count_opens h = omega (arith, counted, opens_few)

  pub count_none_true : get_or k g 0 < one_true → occurs TRUE (standing (state_of v) (clause_of ix g)) ≡ 0
  count_none_true h = omega (arith, counted, opens_few)

  pub none_true_count : occurs TRUE (standing (state_of v) (clause_of ix g)) ≡ 0 → get_or k g 0 < one_true
  none_true_count h = omega (arith, counted, opens_few)

  -- from there on one is true, and the rest is open
  pub count_one_true : one_true ≤ get_or k g 0 → occurs TRUE (standing (state_of v) (clause_of ix g)) ≡ 1
  count_one_true h = omega (arith, counted, opens_few, trues_few)

  pub count_rest : one_true ≤ get_or k g 0 → one_true + open_count (standing (state_of v) (clause_of ix g)) ≡ get_or k g 0
  count_rest h = omega (arith, counted, count_one_true h)

  -- wide: three or more open, none true
  pub count_wide : 3 ≤ get_or k g 0 → get_or k g 0 < one_true → Wide (standing (state_of v) (clause_of ix g))
  count_wide a b = record { none_true = count_none_true b; three = omega (arith, count_opens b) }

  pub wide_three : Wide (standing (state_of v) (clause_of ix g)) → 3 ≤ get_or k g 0
  wide_three w = omega (arith, counted, w.three)

  pub wide_low : Wide (standing (state_of v) (clause_of ix g)) → get_or k g 0 < one_true
  wide_low w = none_true_count w.none_true
