-- The check, the room, the walk from the initial state, and the zeros after its rows.
use Rattle.std.proofs.Common.{◌*◌, ◌≤◌, length, sym, ◌∙◌}
use borrow.Author.Tests.{ltb-false}
use Rattle.list.proofs.Calling.{call_walked}
use Rattle.list.proofs.list.Goals as goal

pub returns : goal.returns
returns c =
    let a = c.args in
    let w = c.walk_table-walk in
    let enough : a.k * a.n ≤ length a.rows.now = ltb-false _ _ (sym c.is_short.ensures ∙ c.if-is_short.false) in
    rw c.answer_of.ensures
    (call_walked a.n a.table.now a.k a.allowance a.rows.now (sym c.check_table.ensures ∙ c.in_ok-check_table.was) enough w.new.rows _ w.result w.ensures
    c.kept_rows-kept.result c.kept_rows-kept.ensures c.clear.ensures)
