-- Rules 7 and 8 look at live clauses, and else ask what `pair_step` says.
use mathlib.Core.Path.{◌≡◌, refl}
use mathlib.Core.Bool.{Bool, true, false, not, ◌&&◌, ◌||◌, cond}
use Rattle.std.specs.Prelude.{Option, Some}
use mathlib.Core.List.{[], ◌∷◌}
use Rattle.general.specs.Search.{find, any}
use Rattle.literal.specs.declared.Literal.{Literal}
use Rattle.theory.specs.Formula.{Clause}
use Rattle.theory.specs.Rules.{when, is_none, live}
use Rattle.rules.specs.declared.PairRule.{PairRule}
use Rattle.rules.specs.declared.PairRule.TheVariants.{Seven, Eight}
use Rattle.rules.specs.Rules.{pair_rule, pair_step}

any_found : (test : Literal → Bool) (c : Clause) → any test c ≡ not (is_none (find test c))
unfolding any find
any_found test [] = refl
any_found test (x ∷ c) = go (test x) (find test c) (any_found test c)
  where
    go : (b : Bool) (o : Option Literal) → any test c ≡ not (is_none o) → (b || any test c) ≡ not (is_none (cond b (Some x) o))
    go true o ih = refl
    go false o ih = ih

pub pair_live : (p : PairRule) (g h : Clause) → pair_rule p g h ≡ when (live g && live h) (pair_step p g h)
pair_live Seven g h = simp any_found
pair_live Eight g h = refl
