-- One more occurrence, in a later clause.
use Rattle.std.proofs.Common.{◌≡◌, arith, add-one}
use Rattle.occurrences.specs.Index.{occurrence_at, first_at, width}
use Rattle.occurrences.proofs.Slices.{occurrences_long, occurrence_there}
use Rattle.start.proofs.Repeating.{rising_begins, rising_goes, rising_once}
use Rattle.start.proofs.repeats.Goals as goal

pub loop-occurrence-init : goal.loop-occurrence-init
loop-occurrence-init c = rising_begins (occurrence_at c.args.index.now) (first_at c.args.index.now c.args.p)

pub loop-occurrence-preserved : goal.loop-occurrence-preserved
loop-occurrence-preserved c =
    let ix = c.args.index.now in
    let n = c.loop-occurrence.occurrence-index in
    let is = occurrence_there ix c.args.p _ c.occurrences_of-occurrence-items.ensures n c.loop-occurrence-test.true in
    rw add-one (rising_goes (occurrence_at ix) (first_at ix c.args.p) n c.loop-occurrence.invariant (omega (arith, is, c.if-g-next.false)) (omega (arith, is)))

pub returns : goal.returns
returns c e =
    let w = occurrences_long c.args.index.now c.args.p _ c.occurrences_of-occurrence-items.ensures in
    let s : c.loop-occurrence.occurrence-index ≡ width c.args.index.now c.args.p = omega (arith, w, c.loop-occurrence.auto.occurrence-index-end, c.loop-occurrence-test.false) in
    rising_once c.requires.indexed c.requires.p_le_max_variables (rw s at c.loop-occurrence.invariant)
