-- `undoubles`: by the laws of Along.
use Rattle.std.proofs.Common.{rules, ◌≡◌}
use Rattle.std.specs.Prelude.{Err}
use Rattle.undouble.proofs.Along.{along_begins, along_dies, along_goes}
use Rattle.undouble.proofs.undoubles.Goals as goal

pub loop-i-init : goal.loop-i-init
loop-i-init c = along_begins c.requires

pub returns-in_err-undouble : goal.returns-in_err-undouble
returns-in_err-undouble c =
    let e : c.from_residual.result ≡ Err c.in_err-undouble.field-0.0 = search rules in
    rw e (along_dies c.requires c.loop-i.invariant c.loop-i-test.true c.gathered_at-g.result c.gathered_at-g.ensures (rw c.in_err-undouble.was at c.undouble.ensures))

pub loop-i-preserved : goal.loop-i-preserved
loop-i-preserved c =
    along_goes c.requires c.loop-i.invariant c.loop-i-test.true c.gathered_at-g.result c.gathered_at-g.ensures (rw c.in_ok-undouble.was at c.undouble.ensures)
