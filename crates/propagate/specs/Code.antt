-- What code answers as the step that is asked, and as the end of settling with its reasons.
use Rattle.std.specs.Prelude.{List, ℕ, ℤ, get_or}
use Rattle.std.specs.Prelude.{Option, None, Some}
use Rattle.theory.specs.declared.Asked.{Asked}
use Rattle.theory.specs.declared.Step.{Step}
use Rattle.theory.specs.Formula.{Clause}
use Rattle.theory.specs.Propagation.{first_clause, first_pair}
use Rattle.theory.specs.Reasons.{Reasons, Explanation, dead, rest, explained}
use Rattle.state.specs.State.{state_of}
use Rattle.clause.specs.declared.Clauses.{Clauses}
use Rattle.clause.specs.Reading.{clauses_from}
use Rattle.clause.specs.Literals.{clauses_of}
use Rattle.rules.specs.declared.PairRule.{PairRule}
use Rattle.rules.specs.declared.Rule.{Rule}
use Rattle.rules.specs.Rules.{pair_rule, rule_of}
use Rattle.propagate.specs.declared.Settled.{Settled}

-- what a rule asks of the clauses from an index on, of which the first has number k, and of the pairs of all clauses
abbrev pub first_from : List ℤ → List ℕ → Rule → ℕ → ℕ → Option Asked
first_from t v rule k i = first_clause (rule_of rule) k (clauses_from t v i)

abbrev pub first_of_pairs : List ℤ → List ℕ → PairRule → Option Asked
first_of_pairs t v rule = first_pair (pair_rule rule) 1 (clauses_from t v 0)

-- of the clauses, and of the pairs, from the one on at which an iterator stands
abbrev pub asks_ahead : (Clause → Option Step) → Clauses → Option Asked
asks_ahead rule s = first_clause rule s.clause.0 (clauses_of s.of s.at)

abbrev pub pairs_ahead : PairRule → Clauses → Option Asked
pairs_ahead rule s = first_pair (pair_rule rule) s.clause.0 (clauses_of s.of s.at)

-- the clause that settled or tied a variable stands at its index
abbrev pub reasons_of : List ℕ → Reasons
reasons_of m p = get_or m p 0

abbrev pub explanation : Option Settled → Explanation
explanation None = dead
explanation (Some r) = rest (explained (state_of r.state.values) (reasons_of r.reasons))
