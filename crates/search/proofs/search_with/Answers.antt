-- The walk from the initial state over cleared lists.
use Rattle.std.proofs.Common.{refl, sym, ◌∙◌}
use native.Mathlib.Nat.{zero-add}
use Rattle.theory.specs.State.{initial}
use Rattle.search.proofs.Calling.{call_walked}
use Rattle.search.proofs.search_with.Goals as goal

pub returns : goal.returns
returns c =
    let a = c.args in
    let w = c.walk_table-walk in
    call_walked a.n a.table.now a.allowance a.plan.now a.trail.now
    (sym c.check_table.ensures ∙ c.in_ok-check_table.was) (sym c.at_most.ensures ∙ c.in_ok-at_most.was) (sym c.at_most-2.ensures ∙ c.in_ok-at_most-2.was)
    initial refl _ (rw zero-add at c.clear.ensures) _ (rw zero-add at c.clear-2.ensures) w.result _ _ w.ensures
