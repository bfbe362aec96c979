-- `gather_variable` meets its contract, by the laws of Collects.
use Rattle.std.proofs.Common.{rules, arith}
use Rattle.gather.proofs.Collects.{clause_known, room_left, collects_goes, collects_ends}
use Rattle.gather.proofs.gather_variable.Goals as goal

pub bounds-work-end : goal.bounds-work-end
bounds-work-end c = room_left c.requires c.occurrences_of-occurrence-items.ensures c.loop-occurrence.invariant c.loop-occurrence-test.true

pub count_of-requires : goal.count_of-requires
count_of-requires c =
    omega (arith, clause_known c.requires c.occurrences_of-occurrence-items.ensures c.loop-occurrence.invariant c.loop-occurrence-test.true, c.requires.index.few)

pub loop-occurrence-preserved : goal.loop-occurrence-preserved
loop-occurrence-preserved c =
    collects_goes c.requires c.occurrences_of-occurrence-items.ensures c.loop-occurrence.invariant c.loop-occurrence-test.true _
    (rw (c.wide.ensures, c.count_of.ensures, c.signed.ensures)) (search rules)

pub returns : goal.returns
returns c = collects_ends c.requires c.occurrences_of-occurrence-items.ensures c.loop-occurrence.invariant c.loop-occurrence-test.false
