-- By the laws of Widths.
use Rattle.meet.proofs.Widths.{met_apart, met_readable, met_as}
use Rattle.meet.proofs.meet_wide.Goals as goal

pub returns-then-not-wide : goal.returns-then-not-wide
returns-then-not-wide c = met_apart c.requires c.count_of.ensures c.wide.ensures c.if-not-wide.true

pub meet-requires-clause-readable : goal.meet-requires-clause-readable
meet-requires-clause-readable c = met_readable c.requires c.count_of.ensures c.wide.ensures c.if-not-wide.false

pub returns : goal.returns
returns c = met_as c.requires c.count_of.ensures c.wide.ensures c.if-not-wide.false c.meet.result c.meet.ensures
