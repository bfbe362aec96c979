-- By the law of two that are the same.
use Rattle.std.proofs.Common.{◌≡◌, ◌<◌, sym, ◌∙◌, arith}
use Rattle.std.proofs.lemmas.Option.{same_Some}
use Rattle.occurrences.specs.Index.{width}
use Rattle.occurrences.proofs.Slices.{occurrences_long, occurrence_there}
use Rattle.start.proofs.Repeating.{doubled_found}
use Rattle.start.proofs.doubled.Goals as goal

pub returns-then-eq : goal.returns-then-eq
returns-then-eq c =
    let ix = c.args.index.now in
    let p = c.args.p in
    let os = c.occurrences_of-occurrence-items in
    let i = c.loop-occurrence.occurrence-index in
    let h = c.loop-occurrence-test.true in
    let n : i < width ix p = omega (arith, h, occurrences_long ix p _ os.ensures) in
    doubled_found ix p i _ _ n (occurrence_there ix p _ os.ensures i h) c.loop-occurrence.invariant (sym c.eq.ensures ∙ c.if-eq.true)

pub loop-occurrence-preserved : goal.loop-occurrence-preserved
loop-occurrence-preserved c x e =
    let i = c.loop-occurrence.occurrence-index in
    (i, omega arith, sym (same_Some _ _ e) ∙ occurrence_there c.args.index.now c.args.p _ c.occurrences_of-occurrence-items.ensures i c.loop-occurrence-test.true)
