-- Settling: "Apply the lowest rule that fits, to the first group (or first pair, by its earlier group, then its later one)".
use Rattle.std.specs.Prelude.{List, [], ◌∷◌, map, ℕ, zero, suc}
use Rattle.std.specs.Prelude.{Option, None, Some, option_map}
use Rattle.std.specs.Option.{option_or}
use Rattle.literal.specs.Literal.{clause_number}
use Rattle.theory.specs.Formula.{Clause, Formula}
use Rattle.theory.specs.State.{State, standing, assign}
use Rattle.theory.specs.declared.Asked.{Asked}
use Rattle.theory.specs.declared.Step.{Step}
use Rattle.theory.specs.declared.Step.TheVariants.{DeadEnd, Becomes}
use Rattle.theory.specs.Rules.{rule1, rule2, rule3, rule4, rule5, rule6, rule7, rule8}

-- what clause k asks, "the number of the group" (of a pair, of the later one)
abbrev pub asked_by : ℕ → Step → Asked
asked_by k s = record { clause = clause_number k; step = s }

-- the first clause that a rule fits; the first of the list has number k
unfoldable pub first_clause : (Clause → Option Step) → ℕ → List Clause → Option Asked
first_clause rule k [] = None
first_clause rule k (c ∷ g) = option_or (option_map (asked_by k) (rule c)) (first_clause rule (suc k) g)

-- the first pair that a rule fits
unfoldable pub first_pair : (Clause → Clause → Option Step) → ℕ → List Clause → Option Asked
first_pair rule k [] = None
first_pair rule k (c ∷ g) = option_or (first_clause (rule c) (suc k) g) (first_pair rule (suc k) g)

-- the lowest rule that fits the clauses as they stand
unfoldable pub ask : List Clause → Option Asked
ask g =
    option_or (first_clause rule1 1 g)
    (option_or (first_clause rule2 1 g)
    (option_or (first_clause rule3 1 g)
    (option_or (first_clause rule4 1 g)
    (option_or (first_clause rule5 1 g)
    (option_or (first_clause rule6 1 g)
    (option_or (first_pair rule7 1 g)
    (first_pair rule8 1 g)))))))

abbrev pub step : Formula → State → Option Asked
step f s = ask (map (standing s) f)

-- where settling ends: a dead end, or a state that no rule fits
pub data Settled : Type 0 where
  dead : Settled
  rest : State → Settled

abbrev pub act : (State → Settled) → State → Step → Settled
act go s DeadEnd = dead
act go s (Becomes x t) = go (assign x t s)

abbrev pub follow : (State → Settled) → State → Option Asked → Settled
follow go s None = rest s
follow go s (Some a) = act go s a.step

-- "and begin again", with fuel for k - 1 steps
unfoldable pub propagate : ℕ → Formula → State → Settled
propagate zero f s = rest s
propagate (suc k) f s = follow (propagate k f) s (step f s)

-- each step closes one of n open variables, so fuel n + 1 is enough
abbrev pub settle : ℕ → Formula → State → Settled
settle n f s = propagate (suc n) f s
