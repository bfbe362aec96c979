-- Where it says no, the literals that the rule wants are not there.
use Rattle.std.proofs.Common.{◌≡◌, false, refl, sym, ◌∙◌, Option, None, Some}
use Rattle.std.specs.Prelude.{is_some}
use Rattle.general.specs.Booleans.{true_not_false}
use Rattle.rules.proofs.Fits.{none_crosses, none_another, none_wanted}
use Rattle.rules.proofs.PairRule.may_fit.Goals as goal

nothing : {A : Type 0} (o : Option A) → is_some o ≡ false → None ≡ o
nothing None e = refl
nothing (Some x) e = absurd (true_not_false refl e)

pub returns-in_default : goal.returns-in_default
returns-in_default c = λ e. none_crosses c.args.self _ _ (rw c.in_default.is at c.first.ensures)

pub returns-else-is_some : goal.returns-else-is_some
returns-else-is_some c = λ e.
    none_another c.args.self _ _ c.in-Some.x (rw c.another.ensures at (nothing c.first-2.result (sym c.is_some.ensures ∙ e) ∙ c.first-2.ensures))

pub returns-then-is_some : goal.returns-then-is_some
returns-then-is_some c = λ e.
    none_wanted c.args.self _ _ (rw c.wanted.ensures at (nothing c.first-then-is_some.result (sym c.is_some-then-is_some.ensures ∙ e) ∙ c.first-then-is_some.ensures))
