-- A dead end of one part is one of the whole.
use Rattle.start.proofs.Starting.{fresh_undoubling, fresh_died, started}
use Rattle.start.proofs.start.Goals as goal

pub undouble_all-requires : goal.undouble_all-requires
undouble_all-requires c = fresh_undoubling (rw c.in_ok-count_all.was at c.count_all.ensures)

pub returns : goal.returns
returns c =
    let fresh = rw c.in_ok-count_all.was at c.count_all.ensures in
    let below = rw c.in_ok-undouble_all.was at c.undouble_all.ensures in
    started fresh below c.list_all.ensures
