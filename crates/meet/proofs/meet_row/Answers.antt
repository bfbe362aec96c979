-- By the laws of Rows.
use Rattle.std.proofs.Common.{rules, ◌≡◌}
use Rattle.std.specs.Prelude.{Err}
use Rattle.meet.proofs.Rows.{rows_begin, rows_narrow, rows_readable, rows_apart, rows_dead, rows_cleared, rows_tied}
use Rattle.meet.proofs.meet_row.Goals as goal

pub loop-state-init : goal.loop-state-init
loop-state-init c = rows_begin c.requires

pub first_met-requires-clause-readable : goal.first_met-requires-clause-readable
first_met-requires-clause-readable c = rows_readable c.loop-state.invariant c.count_of.ensures c.wide.ensures c.loop-state-test.true

pub returns-in_default : goal.returns-in_default
returns-in_default c = rows_apart c.loop-state.invariant c.in_default.ensures

-- by rule 7
pub returns-in_err-clear_common-in-Common : goal.returns-in_err-clear_common-in-Common
returns-in_err-clear_common-in-Common c =
    let e : c.from_residual.result ≡ Err c.in_err-clear_common-in-Common.field-0.0 = search rules in
    rw e (rows_dead c.loop-state.invariant (rw c.in_err-clear_common-in-Common.was at c.clear_common.ensures))

pub loop-state-preserved-in-Continue-1 : goal.loop-state-preserved-in-Continue-1
loop-state-preserved-in-Continue-1 c =
    let met = rw c.in-Common.is at c.in-Some.ensures in
    rows_cleared c.loop-state.invariant met.0 (rw c.in_ok-clear_common-in-Common.was at c.clear_common.ensures)

-- and by rule 8
pub returns-in_err-tie-in-Crossed : goal.returns-in_err-tie-in-Crossed
returns-in_err-tie-in-Crossed c =
    let e : c.from_residual-in_err-tie-in-Crossed.result ≡ Err c.in_err-tie-in-Crossed.field-0.0 = search rules in
    rw e (rows_dead c.loop-state.invariant (rw c.in_err-tie-in-Crossed.was at c.tie.ensures))

pub loop-state-preserved : goal.loop-state-preserved
loop-state-preserved c =
    let met = rw c.in-Crossed.is at c.in-Some.ensures in
    rows_tied c.loop-state.invariant met.0 (rw c.in_ok-tie-in-Crossed.was at c.tie.ensures)

pub returns : goal.returns
returns c = rows_narrow c.loop-state.invariant c.count_of.ensures c.wide.ensures c.loop-state-test.false
