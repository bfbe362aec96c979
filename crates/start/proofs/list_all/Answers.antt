-- The list ends with the last variable.
use Rattle.std.proofs.Common.{◌≡◌, refl, arith}
use Rattle.literal.specs.Literal.{variables}
use Rattle.start.proofs.Signs.{listing_ends}
use Rattle.start.proofs.list_all.Goals as goal

pub returns : goal.returns
returns c =
    let l = c.loop-p in
    let e : l.p ≡ variables = omega arith in
    listing_ends (rw e at l.invariant) refl
