-- Two signs that differ, or all like the first.
use Rattle.std.proofs.Common.{◌≡◌, ℕ, ◌+◌, ◌-◌, ◌<◌, ◌≤◌, ◌%◌, get_or, length, sym, ap, ◌∙◌, arith}
use Rattle.occurrences.specs.Index.{occurrence_at, first_at}
use Rattle.occurrences.proofs.Slices.{occurrences_long, occurrence_there}
use Rattle.start.proofs.Signs.{signs_differ, signs_alike}
use Rattle.start.proofs.both_signs.Goals as goal

pub returns-then-occurrence-occurrences : goal.returns-then-occurrence-occurrences
returns-then-occurrence-occurrences c =
    let ix = c.args.index.now in
    let a = first_at ix c.args.p in
    let i = c.loop-occurrence.occurrence-index in
    let os = c.occurrences_of-occurrences in
    let h = c.loop-occurrence-test.true in
    let w = occurrences_long ix c.args.p _ os.ensures in
    let one = occurrence_there ix c.args.p _ os.ensures i h in
    let first = occurrence_there ix c.args.p _ os.ensures 0 (omega (arith, h)) in
    signs_differ ix c.args.p (a + i) (a + 0) (omega arith) (omega (arith, w, h)) (omega arith) (omega (arith, w, h))
    (λ e. c.if-occurrence-occurrences.true (ap (λ (o : ℕ). o % 2) one ∙ e ∙ sym (ap (λ (o : ℕ). o % 2) first)))

pub returns : goal.returns
returns c =
    let ix = c.args.index.now in
    let a = first_at ix c.args.p in
    let os = c.occurrences_of-occurrences in
    let w = occurrences_long ix c.args.p _ os.ensures in
    signs_alike ix c.args.p (get_or os.result.now 0 0 % 2) (λ k h s.
    let n : k - a < length os.result.now = omega (arith, w, h, s) in
    let e : a + (k - a) ≡ k = omega (arith, h) in
    let there = occurrence_there ix c.args.p _ os.ensures (k - a) n in
    ap (λ (j : ℕ). occurrence_at ix j % 2) (sym e) ∙ sym (ap (λ (o : ℕ). o % 2) there) ∙ c.loop-occurrence.invariant (k - a) (omega (arith, n, c.loop-occurrence-test.false)))
