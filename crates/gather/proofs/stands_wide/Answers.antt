-- `stands_wide` meets its contract, by the laws of Waits.
use Rattle.std.proofs.Common.{◌/◌, ap, sym, ◌∙◌, arith, get_or}
use Rattle.general.specs.Booleans.{true_not_false}
use Rattle.occurrences.proofs.Slices.{occurrence_known}
use Rattle.gather.specs.Gathering.{is_wide}
use Rattle.gather.proofs.Waits.{here_stands, waits_goes, waits_ends}
use Rattle.gather.proofs.stands_wide.Goals as goal

pub count_of-requires : goal.count_of-requires
count_of-requires c =
    let q = c.requires in
    omega (
      arith,
      occurrence_known q.indexed c.args.p q.p_le_max_variables _ c.occurrences_of-occurrence-items.ensures c.loop-occurrence.occurrence-index c.loop-occurrence-test.true,
      q.indexed.few,
    )

pub returns-then-wide : goal.returns-then-wide
returns-then-wide c =
    let q = c.requires in
    let i = c.loop-occurrence.occurrence-index in
    let h = c.loop-occurrence-test.true in
    let are = c.occurrences_of-occurrence-items.ensures in (
      get_or c.occurrences_of-occurrence-items.result.now i 0 / 2,
      (omega (arith, occurrence_known q.indexed c.args.p q.p_le_max_variables _ are i h), rw c.count_of.ensures at (sym c.wide.ensures ∙ c.if-wide.true)),
      here_stands c.args.index.now c.args.p _ are i h,
    )

pub loop-occurrence-preserved : goal.loop-occurrence-preserved
loop-occurrence-preserved c =
    waits_goes c.loop-occurrence.invariant c.loop-occurrence-test.true (λ g d. d)
    (λ i q. true_not_false (c.wide.ensures ∙ ap is_wide c.count_of.ensures ∙ i.1) c.if-wide.false)

pub returns : goal.returns
returns c = λ g w i. waits_ends c.loop-occurrence.invariant c.loop-occurrence-test.false g w i.0 i.1 i.1 (rw c.occurrences_of-occurrence-items.ensures i.2)
