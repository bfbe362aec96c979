use Rattle.engine.proofs.Loops.{looking_begins, looking_ends}
use Rattle.engine.proofs.new_units.Goals as goal

pub returns-then-work-from : goal.returns-then-work-from
returns-then-work-from c = let l = looking_begins c.requires in (l.falls, l.moved, looking_ends l c.if-work-from.true)
