-- By the laws of Runs.
use Rattle.std.proofs.Common.{sym, ◌∙◌}
use lib.Seq.{length-take-le, get_or-take}
use Rattle.general.specs.Runs.{begun, turned, written}
use Rattle.fill.proofs.copy.Goals as goal

pub loop-i-init : goal.loop-i-init
loop-i-init g c = begun _ _ _ _

pub loop-i-preserved : goal.loop-i-preserved
loop-i-preserved g c =
    let a = c.args in
    let h = c.loop-i-test.true in
    let x = c.index-from-i.result in
    turned a.at a.n _ _ (length-take-le a.n a.from.now c.requires.n_in_bounds_2) _ _ c.loop-i.invariant c.requires.n_in_bounds h x x
    (c.index-from-i.is ∙ sym (get_or-take a.n a.from.now c.loop-i.i x h))

pub returns : goal.returns
returns g c =
    let a = c.args in
    written a.at a.n _ _ (length-take-le a.n a.from.now c.requires.n_in_bounds_2) _ _ c.loop-i.invariant c.loop-i-test.false
