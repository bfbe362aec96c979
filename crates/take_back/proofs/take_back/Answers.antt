-- The refusals in their order, and else the last group is cleared.
use Rattle.std.proofs.Common.{◌≡◌, ◌<◌, ◌≤◌, length, sym, ◌∙◌, arith, rules}
use Rattle.std.specs.Prelude.{Err}
use Rattle.receipt.specs.declared.Fault.TheVariants.{UsedLengthWrong}
use Rattle.theory.specs.Calls.{take_back_call}
use Rattle.theory.specs.Table.{zeros}
use Rattle.theory.proofs.Refusing.{most_passes}
use Rattle.theory.proofs.Tables.{accepted_closed}
use Rattle.take_back.proofs.Calling.{start_before, call_cleared}
use Rattle.take_back.proofs.take_back.Goals as goal
use Rattle.take_back.proofs.take_back.Goals.{After-last_start-start}

pub returns-in_err-at_most : goal.returns-in_err-at_most
unfolding take_back_call
returns-in_err-at_most c =
    let e : c.from_residual.result ≡ Err c.in_err-at_most.field-0.0 = search rules in
    rw (e, sym c.at_most.ensures ∙ c.in_err-at_most.was)

pub returns-in_err-check_table : goal.returns-in_err-check_table
unfolding take_back_call
returns-in_err-check_table c =
    let e : c.from_residual-in_err-check_table.result ≡ Err c.in_err-check_table.field-0.0 = search rules in
    rw (e, sym c.at_most.ensures ∙ c.in_ok-at_most.was, sym c.check_table.ensures ∙ c.in_err-check_table.was)

pub returns-then-used-eq0 : goal.returns-then-used-eq0
unfolding take_back_call zeros
returns-then-used-eq0 c =
    rw (c.new.ensures, sym c.at_most.ensures ∙ c.in_ok-at_most.was, sym c.check_table.ensures ∙ c.in_ok-check_table.was, c.if-used-eq0.true)

-- the group begins before the end of the used part
within : (c : After-last_start-start) → (c.last_start-start.result < c.args.used) × (c.args.used ≤ length c.args.buffer.now)
within c =
    let room = (most_passes _ _ UsedLengthWrong).0 (sym c.at_most.ensures ∙ c.in_ok-at_most.was) in
    (rw c.last_start-start.ensures (start_before _ _ _ room (sym c.check_table.ensures ∙ c.in_ok-check_table.was) (omega arith)), room)

pub last_start-start-requires-clause-table_value : goal.last_start-start-requires-clause-table_value
last_start-start-requires-clause-table_value c = accepted_closed _ _ (sym c.check_table.ensures ∙ c.in_ok-check_table.was)

pub overflow_sub-used : goal.overflow_sub-used
overflow_sub-used c = omega (arith, (within (goal.at.overflow_sub-used c).After-last_start-start).0)

pub clear-requires : goal.clear-requires
clear-requires c = let w = within (goal.at.clear-requires c).After-last_start-start in omega (arith, w.0, w.1)

pub returns : goal.returns
returns c =
    let a = c.args in
    let room = (within (goal.at.returns c).After-last_start-start).1 in
    call_cleared a.used a.n a.buffer.now room (sym c.check_table.ensures ∙ c.in_ok-check_table.was) (omega arith)
    _ c.last_start-start.ensures _ c.clear.ensures
