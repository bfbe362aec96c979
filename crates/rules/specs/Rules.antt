-- Rules 1 to 8 as code names them, and what they ask.
use Rattle.std.specs.Prelude.{◌≡◌, Bool, not, ◌&&◌, ◌⊎◌, ◌≢◌, ℕ, ◌<◌, eqb}
use mathlib.Core.List.{Memᴰ}
use Rattle.std.specs.Prelude.{Option, option_map, option_and_then}
use Rattle.general.specs.Search.{find}
use Rattle.literal.specs.declared.Literal.{Literal}
use Rattle.literal.specs.Literal.{TRUE, var}
use Rattle.theory.specs.declared.Step.{Step}
use Rattle.theory.specs.Formula.{Clause}
use Rattle.theory.specs.Rules.{occurs, when, tie, becomes_false, is_none, partner, rule1, rule2, rule3, rule4, rule5, rule6, rule7, rule8}
use Rattle.clause.specs.declared.Test.{Test}
use Rattle.clause.specs.declared.Test.TheVariants.{Common, Opposed, Partner, Shared}
use Rattle.clause.specs.Finding.{passes}
use Rattle.rules.specs.declared.PairRule.{PairRule}
use Rattle.rules.specs.declared.PairRule.TheVariants.{Seven, Eight}
use Rattle.rules.specs.declared.Rule.{Rule}
use Rattle.rules.specs.declared.Rule.TheVariants.{One, Two, Three, Four, Five, Six}

abbrev pub pair_rule : PairRule → Clause → Clause → Option Step
pair_rule Seven = rule7
pair_rule Eight = rule8

abbrev pub rule_of : Rule → Clause → Option Step
rule_of One = rule1
rule_of Two = rule2
rule_of Three = rule3
rule_of Four = rule4
rule_of Five = rule5
rule_of Six = rule6

-- rules 2 and 4: where n are true, the first literal that passes becomes false
abbrev pub false_where : ℕ → Test → Clause → Option Step
false_where n test c = when (eqb (occurs TRUE c) n) (becomes_false (find (passes test c) c))

-- a literal passes a test beside h and has a partner in g, and the first such literal of g
abbrev pub pairs : Test → Clause → Clause → Literal → Bool
pairs test g h x = passes test h x && not (is_none (partner g h x))

abbrev pub paired : Test → Clause → Clause → Option Literal
paired test g h = find (pairs test g h) g

-- rules 7 and 8 without the test that both clauses are live
abbrev pub pair_step : PairRule → Clause → Clause → Option Step
pair_step Seven g h = becomes_false (paired Common g h)
pair_step Eight g h = option_and_then (λ x. option_map (tie x) (partner g h x)) (paired Opposed g h)

-- what h holds of g beside x, whose opposite stands in g: rule 7 wants another literal or its opposite, rule 8 a second opposite
abbrev pub another : PairRule → Literal → Test
another Seven x = Shared x
another Eight x = Partner x

-- how the first of the rule's two literals stands in the other clause
abbrev pub wanted : PairRule → Test
wanted Seven = Common
wanted Eight = Opposed

-- no open literal of y's variable stands in a clause
abbrev pub Without : Literal → Clause → Type 0
Without y d = (l : Literal) → Memᴰ l d → 0 < var l → var l ≢ var y

-- one side of a step x := t: t, or x where it is a tie
abbrev pub Side : Literal → Literal → Literal → Type 0
Side x t y = (y ≡ t) ⊎ ((y ≡ x) × (0 < var t))
