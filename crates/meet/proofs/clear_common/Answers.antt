-- By the laws of Sharing.
use Rattle.std.proofs.Common.{rules, ◌≡◌}
use Rattle.std.specs.Prelude.{Err}
use Rattle.meet.proofs.Sharing.{shares_begins, shares_passes, shares_decides, shares_dead, shares_goes, shares_ends}
use Rattle.meet.proofs.clear_common.Goals as goal
use Rattle.meet.proofs.clear_common.Goals.{then-mark_of-v+in_ok-decide, else-mark_of-v}

pub loop-code-init : goal.loop-code-init
loop-code-init c = shares_begins c.requires.sound c.requires.sharing c.literals_of-code-items.ensures c.mark_clause-marks.ensures

pub decide-requires : goal.decide-requires
decide-requires c = shares_decides c.loop-code.invariant c.loop-code-test.true c.value_of_code-v.ensures c.mark_of.ensures c.if-mark_of-v.true

pub returns-in_err-decide : goal.returns-in_err-decide
returns-in_err-decide c =
    let e : c.from_residual.result ≡ Err c.in_err-decide.field-0.0 = search rules in
    rw e (shares_dead c.loop-code.invariant c.loop-code-test.true c.value_of_code-v.ensures c.mark_of.ensures c.if-mark_of-v.true (rw c.in_err-decide.was at c.decide.ensures))

pub loop-code-preserved : goal.loop-code-preserved
loop-code-preserved c =
    elim c.if-mark_of-v.branch [
      | then-mark_of-v+in_ok-decide w ↦ rw (w.state-is, w.work-is)
          (shares_goes c.loop-code.invariant c.loop-code-test.true c.value_of_code-v.ensures c.mark_of.ensures w.if-mark_of-v.true (rw w.in_ok-decide.was at w.decide.ensures))
      | else-mark_of-v w ↦ rw (w.state-is, w.work-is)
          (shares_passes c.loop-code.invariant c.loop-code-test.true c.value_of_code-v.ensures c.mark_of.ensures w.if-mark_of-v.false)
    ]

pub returns : goal.returns
returns c = shares_ends c.loop-code.invariant c.loop-code-test.false
