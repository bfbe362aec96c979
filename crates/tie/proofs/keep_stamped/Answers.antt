use Rattle.std.proofs.Common.{ap, refl, rules, arith}
use mir.Val.{bool_byte}
use Rattle.gather.proofs.Keeping.{kept_goes}
use Rattle.tie.proofs.keep_stamped.Goals as goal

pub loop-i-preserved : goal.loop-i-preserved
loop-i-preserved c =
    kept_goes c.loop-i.invariant c.gathered_at-g.result c.gathered_at-g.ensures (omega (arith, c.loop-i-test.true, c.loop-i.invariant.fewer, c.requires.few))
    refl (search rules) (search rules) (ap bool_byte) refl refl
