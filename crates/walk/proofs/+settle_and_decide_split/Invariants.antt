-- The number of open variables falls at each split.
use Rattle.std.specs.Prelude.{is_err}
use Rattle.std.proofs.Common.{◌*◌}
use Rattle.theory.specs.State.{opens}
use Rattle.tally.specs.Tally.{state_in}
use Rattle.side.proofs.Splitting.{walk_weight}
use Rattle.walk.proofs.+settle_and_decide_split.Given as goal

abbrev pub decreases-settle_and_decide : goal.decreases-settle_and_decide
decreases-settle_and_decide l = walk_weight (is_err l.begun) (state_in l.state.now) l.level.variables

abbrev pub decreases-split : goal.decreases-split
decreases-split l = 2 * opens (state_in l.state.now) l.level.variables
