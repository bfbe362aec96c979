-- By the laws of Rows.
use Rattle.tally.specs.Tally.{state_in}
use Rattle.list.proofs.Rows.{leaf_more, leaf_row}
use Rattle.list.proofs.write_row.Goals as goal

pub returns-then-level : goal.returns-then-level
returns-then-level c = leaf_more c.requires (state_in c.args.state.now) c.if-level.true

pub returns : goal.returns
returns c = leaf_row c.requires (state_in c.args.state.now) c.if-level.false _ c.write_choice.ensures
