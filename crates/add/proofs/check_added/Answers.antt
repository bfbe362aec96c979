-- The new length is below 2^64: a slice of 16-bit numbers has fewer than 2^62 elements.
use Rattle.std.proofs.Common.{rules, sym, ◌∙◌, ◌≤◌, length}
use Rattle.add.proofs.Refusals.{checked_exactly}
use Rattle.add.proofs.check_added.Goals as goal

pub overflow_add-used : goal.overflow_add-used
overflow_add-used c =
    let a = c.args in
    let h : a.used ≤ length a.buffer.now = ((checked_exactly a.used a.n a.group.now a.buffer.now).0 (sym c.check_group.ensures ∙ c.in_ok-check_group.was)).0 in
    search rules

pub overflow_add-used-2 : goal.overflow_add-used-2
overflow_add-used-2 c =
    let a = c.args in
    let h : a.used ≤ length a.buffer.now = ((checked_exactly a.used a.n a.group.now a.buffer.now).0 (sym c.check_group.ensures ∙ c.in_ok-check_group.was)).0 in
    search rules
