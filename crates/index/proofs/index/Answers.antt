-- The heads that are due have room, and a turn stores the first of those that are left.
use Rattle.std.proofs.Common.{rules, ◌≡◌, sym, ◌∙◌, length, take, length-take-le}
use Rattle.std.specs.Prelude.{Ok, Err}
use Rattle.index.proofs.Heads.{Stored, index_stored, stored_turned, stored_ended}
use Rattle.index.proofs.index.Goals as goal
use Rattle.index.proofs.index.Goals.{In_ok-due}

pub returns-in_err-due : goal.returns-in_err-due
returns-in_err-due c =
    let e : c.from_residual.result ≡ Err c.in_err-due.field-0.0 = search rules in
    rw e (rw (sym c.due_of.ensures ∙ c.in_err-due.was) at (index_stored c.args.n c.args.table.now c.args.heads.now))

due : (c : In_ok-due) → Stored c.args.n c.args.table.now c.args.heads.now (Ok c.in_ok-due.due)
due c = rw (sym c.due_of.ensures ∙ c.in_ok-due.was) at (index_stored c.args.n c.args.table.now c.args.heads.now)

lent : (c : In_ok-due) → length (take c.in_ok-due.due c.args.heads.now) ≡ c.in_ok-due.due
lent c = length-take-le c.in_ok-due.due c.args.heads.now (due c).0

pub slice_bounds-head-items-end : goal.slice_bounds-head-items-end
slice_bounds-head-items-end c = (due c).0

pub slice_bounds-head-items-end-2 : goal.slice_bounds-head-items-end-2
slice_bounds-head-items-end-2 c = sym (lent (goal.at.slice_bounds-head-items-end-2 c).In_ok-due)

pub loop-head-preserved : goal.loop-head-preserved
loop-head-preserved c =
    let l = c.loop-head in
    let room = l.auto.head-items ∙ lent (goal.at.loop-head-preserved c).In_ok-due in
    stored_turned c.args.table.now c.in_ok-due.due l.head-items room l.at l.head-index _ c.next_head-next.ensures (rw l.auto.head-items c.loop-head-test.true) ∙ l.invariant

pub returns : goal.returns
returns c =
    let l = c.loop-head in
    let at = (goal.at.returns c).In_ok-due in
    let e = stored_ended c.args.table.now c.in_ok-due.due l.head-items (l.auto.head-items ∙ lent at) l.at l.head-index (rw l.auto.head-items c.loop-head-test.false) in
    rw (sym e ∙ l.invariant) (due at).1
