use Rattle.std.proofs.Common.{◌≡◌, Err, rules}
use Rattle.moves.proofs.Dying.{died_after}
use Rattle.engine.proofs.Loops.{going_begins, going_goes, going_ends}
use Rattle.engine.proofs.propagate.Goals as goal

pub loop-at-init : goal.loop-at-init
loop-at-init c = going_begins c.requires c.in_ok-units.ensures

pub returns-in_err-twos : goal.returns-in_err-twos
returns-in_err-twos c =
    let e : c.from_residual-in_err-twos.result ≡ Err c.in_err-twos.field-0.0 = search rules in
    rw e (died_after c.loop-at.invariant.steps.1 c.in_err-twos.ensures)

pub loop-at-preserved : goal.loop-at-preserved
loop-at-preserved c = going_goes c.loop-at.invariant c.in_ok-twos.ensures c.in_ok-new_units.ensures

pub returns-in_err-new_units : goal.returns-in_err-new_units
returns-in_err-new_units c =
    let e : c.from_residual-in_err-new_units.result ≡ Err c.in_err-new_units.field-0.0 = search rules in
    rw e (died_after c.loop-at.invariant.steps.1 (died_after c.in_ok-twos.ensures.steps.1 c.in_err-new_units.ensures))

pub returns : goal.returns
returns c = let e = c.loop-at-test.ensures in going_ends c.loop-at.invariant e.0 e.1
