-- A variable with both signs is listed, another one is passed over.
use Rattle.std.proofs.Common.{rules}
use Rattle.start.proofs.Signs.{listing_none, listing_one, listed_past}
use Rattle.start.proofs.list_at.Goals as goal

pub returns-then-both_signs : goal.returns-then-both_signs
returns-then-both_signs c =
    let q = c.requires in
    listing_one (search rules) q.p_le_max_variables q.listed_below (search rules)

pub returns-else-both_signs : goal.returns-else-both_signs
returns-else-both_signs c = listing_none (listed_past c.args.work.now c.requires.listed_below c.if-both_signs.ensures)
