-- By the laws of Sides.
use Rattle.pairs.proofs.Sides.{near_signs, far_signs, near_stretch, far_stretch}
use Rattle.pairs.proofs.gather_side.Goals as goal
use Rattle.pairs.proofs.gather_side.Goals.{in-Near, in-Far}

pub returns-then-block-eq0 : goal.returns-then-block-eq0
returns-then-block-eq0 c = elim c.match-side.branch [
  | in-Near w ↦ rw w.in-Near.is (near_signs c.requires.lookable c.args.block c.requires.spans_in c.if-block-eq0.true (rw w.first-is at c.gather_variable.ensures))
  | in-Far w ↦ rw w.in-Far.is (far_signs c.requires.lookable c.args.block c.requires.spans_in c.if-block-eq0.true (rw w.first-is at c.gather_variable.ensures))
]

pub returns : goal.returns
returns c = elim c.match-side.branch [
  | in-Near w ↦ rw w.in-Near.is (near_stretch c.requires.lookable c.args.block c.requires.spans_in c.if-block-eq0.false (rw w.first-is at c.gather_stretch.ensures))
  | in-Far w ↦ rw w.in-Far.is (far_stretch c.requires.lookable c.args.block c.requires.spans_in c.if-block-eq0.false (rw w.first-is at c.gather_stretch.ensures))
]
