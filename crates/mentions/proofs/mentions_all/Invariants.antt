-- After i elements the placements of the first i are noted.
use Rattle.std.proofs.Common.{take}
use Rattle.mentions.specs.Noted.{Noted}
use Rattle.mentions.proofs.mentions_all.Given as goal

abbrev pub invariant-loop-e : goal.invariant-loop-e
invariant-loop-e l = Noted l.mentioned (take l.e-index l.fn.table)
