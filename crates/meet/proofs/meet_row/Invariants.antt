use Rattle.literal.specs.Literal.{max_variables}
use Rattle.tally.specs.Counts.{roots}
use Rattle.meet.proofs.Rows.{Rows}
use Rattle.meet.proofs.meet_row.Given as goal

abbrev pub invariant-loop-state : goal.invariant-loop-state
invariant-loop-state l = Rows l.index l.fn.state l.fn.work l.g l.from l.to l.state l.work l.at

-- each step closes an open root
abbrev pub decreases-loop-state : goal.decreases-loop-state
decreases-loop-state l = roots l.state.values max_variables
