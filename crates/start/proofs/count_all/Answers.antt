-- An empty clause is a dead end, and a short one is noted.
use Rattle.std.proofs.Common.{rules, ◌≡◌, ◌+◌, arith, ltb, refl}
use Rattle.occurrences.specs.Index.{clause_count}
use Rattle.start.proofs.Counting.{counted_begins, counted_goes, empty_dies, counted_ends}
use Rattle.start.proofs.count_all.Goals as goal

pub returns-then-count-eq0 : goal.returns-then-count-eq0
returns-then-count-eq0 c = empty_dies c.args.index.now c.loop-g.g (omega (arith, c.loop-g-test.true)) (omega (arith, c.length_of-count.ensures, c.if-count-eq0.true))

pub loop-g-preserved : goal.loop-g-preserved
loop-g-preserved c =
    let l = c.loop-g in
    let count = c.length_of-count in
    rw c.set_count.ensures (counted_goes l.invariant (omega (arith, c.loop-g-test.true, c.requires.indexed.few)) (search rules) count.result count.ensures (omega arith))

pub returns : goal.returns
returns c =
    let l = c.loop-g in
    let e : l.g ≡ clause_count c.args.index.now = omega (arith, c.loop-g-test.false, l.auto.g-end) in
    counted_ends l.state c.requires.indexed (rw e at l.invariant) refl
