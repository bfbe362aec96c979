-- By the laws of Sides.
use Rattle.pairs.proofs.Chunks.{facing_turned}
use Rattle.pairs.proofs.Sides.{look_none, sides_able, look_sides}
use Rattle.pairs.proofs.look.Goals as goal

pub returns-then-near_end-eq-NEAR : goal.returns-then-near_end-eq-NEAR
returns-then-near_end-eq-NEAR c = look_none c.requires.lookable c.args.block c.gather_side-near_end.ensures c.if-near_end-eq-NEAR.true

pub returns-then-far_end-near_end : goal.returns-then-far_end-near_end
returns-then-far_end-near_end c =
    let s = sides_able c.requires.lookable c.args.block c.gather_side-near_end.ensures c.gather_side-far_end.ensures in
    look_sides c.requires.lookable c.args.block c.gather_side-near_end.ensures c.gather_side-far_end.ensures _ _ _
    (facing_turned s _ _ _ c.meet_fewer.ensures)

pub returns : goal.returns
returns c = look_sides c.requires.lookable c.args.block c.gather_side-near_end.ensures c.gather_side-far_end.ensures _ _ _ c.meet_fewer-2.ensures
