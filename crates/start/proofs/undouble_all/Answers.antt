-- The rules go on with each variable, to a dead end or to the last.
use Rattle.std.proofs.Common.{rules, ◌≡◌, arith}
use Rattle.std.specs.Prelude.{Err}
use Rattle.moves.proofs.Dying.{died_fallen}
use Rattle.start.proofs.Undoubling.{undoubled_begins, undoubled_on, undoubled_goes}
use Rattle.start.proofs.undouble_all.Goals as goal

pub loop-r-init : goal.loop-r-init
loop-r-init c = undoubled_begins c.requires.sound

pub undouble_at-requires-clause-undoubling : goal.undouble_at-requires-clause-undoubling
undouble_at-requires-clause-undoubling c = undoubled_on c.requires c.loop-r.invariant

pub returns-in_err-undouble_at : goal.returns-in_err-undouble_at
returns-in_err-undouble_at c =
    let e : c.from_residual.result ≡ Err c.in_err-undouble_at.field-0.0 = search rules in
    let r = rw c.in_err-undouble_at.was at c.undouble_at.ensures in
    rw e (died_fallen c.loop-r.invariant.path r)

pub loop-r-preserved : goal.loop-r-preserved
loop-r-preserved c =
    let r = rw c.in_ok-undouble_at.was at c.undouble_at.ensures in
    undoubled_goes c.requires c.loop-r.invariant r.0 r.1 r.2
