-- So many heads as are due, in both lists, and the answer flattened.
use Rattle.std.proofs.Common.{sym, ◌∙◌}
use Rattle.platewright.proofs.Heads.{refused_flattened, room_both, index_flattened}
use Rattle.platewright.proofs.platewright_index.Goals as goal

pub store_heads-requires : goal.store_heads-requires
store_heads-requires c =
    let a = c.args in
    let room = room_both a.n a.table.now a.starts.now a.entries.now c.in-Ok.count (sym c.in-Ok.is ∙ rw c.min.ensures at c.due_of.ensures) in
    record { count_in_bounds = room.0; count_in_bounds_2 = room.1 }

pub returns-in-Ok : goal.returns-in-Ok
returns-in-Ok c =
    let a = c.args in
    rw (c.plain.ensures, c.indexing_receipt.ensures, c.store_heads.ensures.starts, c.store_heads.ensures.entries)
    (index_flattened a.n a.table.now a.starts.now a.entries.now c.in-Ok.count (sym c.in-Ok.is ∙ rw c.min.ensures at c.due_of.ensures))

pub returns-in-Err : goal.returns-in-Err
returns-in-Err c =
    let a = c.args in
    rw (c.plain-in-Err.ensures, c.receipt.ensures) (refused_flattened a.n a.table.now a.starts.now a.entries.now c.in-Err.refusal (sym c.in-Err.is ∙ rw c.min.ensures at c.due_of.ensures))
