use Rattle.tie.proofs.Joins.{joined}
use Rattle.tie.proofs.join.Goals as goal

pub returns : goal.returns
returns c = joined c.requires c.turn.ensures _ c.swap_links.ensures
