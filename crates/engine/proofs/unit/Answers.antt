use Rattle.std.proofs.Common.{sym, ◌∙◌, arith}
use Rattle.literal.specs.Literal.{opposite, literal_at}
use Rattle.literal.proofs.Codes.{at_code}
use Rattle.engine.proofs.Reading.{legible}
use Rattle.engine.proofs.Two.{opens_first}
use Rattle.engine.proofs.Spent.{unit_left, one_decidable, unit_one, unit_clears}
use Rattle.engine.proofs.unit.Goals as goal

pub open_entry-x-requires : goal.open_entry-x-requires
open_entry-x-requires c =
    opens_first (legible c.requires.sound) _ c.requires.g_bound (omega (arith, c.if-count-eq1.true, c.count_of-count.ensures))
    (omega (arith, c.if-count-eq1.true, c.count_of-count.ensures))

pub decide-requires : goal.decide-requires
decide-requires c =
    one_decidable c.requires.sound _ c.requires.g_bound (sym c.count_of-count.ensures ∙ c.if-count-eq1.true) c.open_entry-x.result c.opposite.result
    c.open_entry-x.ensures (at_code c.opposite.result (opposite (literal_at c.open_entry-x.result)) c.opposite.ensures)

pub returns-then-count-eq1 : goal.returns-then-count-eq1
returns-then-count-eq1 c =
    unit_one c.requires.sound _ c.requires.g_bound (sym c.count_of-count.ensures ∙ c.if-count-eq1.true) c.open_entry-x.result c.opposite.result
    c.open_entry-x.ensures (at_code c.opposite.result (opposite (literal_at c.open_entry-x.result)) c.opposite.ensures)
    _ _ _ c.decide.ensures

pub returns-then-count-gt-ONE_TRUE : goal.returns-then-count-gt-ONE_TRUE
returns-then-count-gt-ONE_TRUE c =
    unit_clears c.requires.sound _ c.requires.g_bound (omega (arith, c.if-count-gt-ONE_TRUE.true, c.count_of-count.ensures))
    _ _ _ c.clear_others.ensures

pub returns : goal.returns
returns c =
    unit_left c.requires.sound _ c.requires.g_bound (λ e. c.if-count-eq1.false (c.count_of-count.ensures ∙ e))
    (omega (arith, c.if-count-gt-ONE_TRUE.false, c.count_of-count.ensures))
