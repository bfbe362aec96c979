use Rattle.std.proofs.Common.{◌≡◌, Err, rules}
use Rattle.moves.proofs.Dying.{died_fallen}
use Rattle.engine.proofs.Loops.{looking_begins, looking_goes}
use Rattle.engine.proofs.units.Goals as goal

pub loop-at-init : goal.loop-at-init
loop-at-init c = looking_begins c.requires

pub returns-in_err-unit : goal.returns-in_err-unit
returns-in_err-unit c =
    let e : c.from_residual.result ≡ Err c.in_err-unit.field-0.0 = search rules in
    rw e (died_fallen c.loop-at.invariant.falls c.in_err-unit.ensures)

pub loop-at-preserved : goal.loop-at-preserved
loop-at-preserved c =
    let e = c.in_ok-unit.ensures in
    looking_goes c.loop-at.invariant c.loop-at-test.true e.0 e.1 (rw c.todo_at-g.ensures at e.2)
