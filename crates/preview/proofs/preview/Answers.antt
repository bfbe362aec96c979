-- What the checks refuse writes nothing, and what passes is settled on a copy.
use Rattle.std.proofs.Common.{◌≡◌, List, sym, ap, subst, ◌∙◌, rules}
use lib.IntN.{ℤ}
use Rattle.std.specs.Prelude.{Err}
use Rattle.receipt.specs.Receipt.{pass}
use Rattle.theory.specs.Calls.{settle_call, check_group}
use Rattle.theory.specs.Table.{Accepted}
use Rattle.add.proofs.Refusals.{room_enough}
use Rattle.preview.proofs.Calling.{previewed, preview_checked, call_refused, used_inside, grown_accepted, grown_table}
use Rattle.preview.proofs.preview.Goals as goal
use Rattle.preview.proofs.preview.Goals.{In_ok-check_added}

passed : (c : In_ok-check_added) → check_group c.args.used c.args.n c.args.group.now c.args.buffer.now ≡ pass
passed c = sym (room_enough _ _ _ _) ∙ sym c.check_added.ensures ∙ c.in_ok-check_added.was

pub returns-in_err-check_added-clause-reasons_after : goal.returns-in_err-check_added-clause-reasons_after
returns-in_err-check_added-clause-reasons_after c =
    let e : c.from_residual.result ≡ Err c.in_err-check_added.field-0.0 = search rules in
    rw e (call_refused _ _ _ _ _ _ _ (sym c.check_added.ensures ∙ c.in_err-check_added.was))

pub copy-requires-clause-n_in_bounds_2 : goal.copy-requires-clause-n_in_bounds_2
copy-requires-clause-n_in_bounds_2 c = used_inside _ _ _ _ (passed (goal.at.copy-requires-clause-n_in_bounds_2 c).In_ok-check_added)

pub settle_accepted-requires : goal.settle_accepted-requires
settle_accepted-requires c =
    let p = passed (goal.at.settle_accepted-requires c).In_ok-check_added in
    subst (Accepted c.args.n) (sym (grown_table _ _ _ _ p _ _ _ c.copy.auto.list c.copy.ensures c.store.ensures)) (grown_accepted _ _ _ _ p)

-- what is settled: the used part with the list and its 0
pub returns-clause-reasons_after : goal.returns-clause-reasons_after
returns-clause-reasons_after c =
    let a = c.args in
    let p = passed (goal.at.returns-clause-reasons_after c).In_ok-check_added in
    c.settle_accepted.ensures
    ∙ ap (λ (t : List ℤ). settle_call a.n t a.list.now a.reasons.now) (grown_table _ _ _ _ p _ _ _ c.copy.auto.list c.copy.ensures c.store.ensures)
    ∙ sym (preview_checked _ _ _ _ _ _ ∙ ap (previewed a.used a.n a.group.now a.buffer.now a.list.now a.reasons.now) p)
