-- `clear_others`: by the laws of Clearing.
use Rattle.std.proofs.Common.{rules, ◌≡◌}
use Rattle.std.specs.Prelude.{Err}
use Rattle.decide.proofs.Clearing.{along_begins, known, stands, along_dead, along_goes, along_ends}
use Rattle.decide.proofs.clear_others.Goals as goal

pub loop-code-init : goal.loop-code-init
loop-code-init c = along_begins c.args.g c.args.kept c.requires.sound c.requires.g_bound _ c.literals_of-code-items.ensures

pub value_of_code-x-requires : goal.value_of_code-x-requires
value_of_code-x-requires c = known c.loop-code.invariant c.loop-code-test.true

pub clear_one-requires : goal.clear_one-requires
clear_one-requires c = stands c.loop-code.invariant c.loop-code-test.true c.value_of_code-x.result c.value_of_code-x.ensures

pub returns-in_err-clear_one : goal.returns-in_err-clear_one
returns-in_err-clear_one c =
    let e : c.from_residual.result ≡ Err c.in_err-clear_one.field-0.0 = search rules in
    rw e (along_dead c.loop-code.invariant c.loop-code-test.true c.value_of_code-x.result c.value_of_code-x.ensures c.clear_one.new.work (rw c.in_err-clear_one.was at c.clear_one.ensures))

pub loop-code-preserved : goal.loop-code-preserved
loop-code-preserved c =
    along_goes c.loop-code.invariant c.loop-code-test.true c.value_of_code-x.result c.value_of_code-x.ensures (rw c.in_ok-clear_one.was at c.clear_one.ensures)

pub returns : goal.returns
returns c = along_ends c.loop-code.invariant c.loop-code-test.false
