-- A note stays where the test says so.
use Rattle.std.proofs.Common.{arith, sym, ◌∙◌}
use Rattle.general.specs.Booleans.{true_not_false}
use Rattle.propagate.proofs.Keeping.{keeping_none, keeping_next, keeping_front}
use Rattle.propagate.proofs.keep.Goals as goal
use Rattle.propagate.proofs.keep.Goals.{then-noted, else-noted}

pub loop-i-init : goal.loop-i-init
loop-i-init g c = keeping_none _ _

pub loop-i-preserved : goal.loop-i-preserved
loop-i-preserved g c = elim c.if-noted.branch [
  | then-noted w ↦ keeping_next _ c.loop-i.invariant (omega (arith, c.loop-i.auto.noted-items)) (λ e. (w.if-noted.true, rw (sym w.noted-is ∙ e) at w.stays.ensures))
  | else-noted w ↦ keeping_next _ c.loop-i.invariant (omega (arith, c.loop-i.auto.noted-items)) (λ e. absurd (true_not_false e (w.noted-is ∙ w.if-noted.false)))
]

pub returns : goal.returns
returns g c = keeping_front _ c.args.n c.args.alone.now (omega arith) c.loop-i.invariant c.loop-i-test.false
