-- `member`: by the laws of Walking.
use Rattle.std.proofs.Common.{rules, arith}
use Rattle.decide.proofs.Walking.{walk_begins, inside, some_left, not_two, walk_goes, walk_dead, member_dead, member_taken}
use Rattle.decide.proofs.member.Goals as goal

pub loop-occurrence-init : goal.loop-occurrence-init
loop-occurrence-init c = walk_begins c.requires _ c.occurrences_of-occurrence-items.ensures _ c.set_value.ensures

pub recount-count-requires-clause-occurrence_bound : goal.recount-count-requires-clause-occurrence_bound
recount-count-requires-clause-occurrence_bound c =
    let q = c.loop-occurrence.invariant in
    omega (arith, inside q c.loop-occurrence-test.true, q.index.few)

pub recount-count-requires-clause-nonzero : goal.recount-count-requires-clause-nonzero
recount-count-requires-clause-nonzero c = some_left c.loop-occurrence.invariant c.loop-occurrence-test.true

pub recount-count-requires-clause-occurrence_bound_2 : goal.recount-count-requires-clause-occurrence_bound_2
recount-count-requires-clause-occurrence_bound_2 c = not_two c.loop-occurrence.invariant c.loop-occurrence-test.true

pub returns-then-count-eq0 : goal.returns-then-count-eq0
returns-then-count-eq0 c =
    let q = c.loop-occurrence.invariant in
    let u = c.recount-count in
    member_dead c.requires c.set_value.ensures q _ _ _ u.ensures.state_after (walk_dead q c.loop-occurrence-test.true u.result u.ensures.value (λ a b. omega arith))

pub loop-occurrence-preserved : goal.loop-occurrence-preserved
loop-occurrence-preserved c =
    let u = c.recount-count in
    walk_goes c.loop-occurrence.invariant c.loop-occurrence-test.true u.result u.ensures.value (omega arith) (omega arith) c.noted.result c.noted.ensures
    _ u.ensures.state_after (search rules)

pub returns : goal.returns
returns c = member_taken c.requires c.set_value.ensures c.loop-occurrence.invariant c.loop-occurrence-test.false
