use Rattle.tie.proofs.Tyings.{tying_turnable, tying_all, tying_done}
use Rattle.tie.proofs.tie.Goals as goal

pub join-requires : goal.join-requires
join-requires c = tying_turnable c.requires c.opposite.ensures

pub undoubles-requires : goal.undoubles-requires
undoubles-requires c =
    tying_all c.requires c.opposite.ensures c.join.ensures c.gather-n.ensures c.keep_both-both.ensures (rw c.block_between-block.ensures at c.list_block.ensures)

pub returns : goal.returns
returns c =
    tying_done c.requires c.opposite.ensures c.join.ensures c.gather-n.ensures c.keep_both-both.ensures (rw c.block_between-block.ensures at c.list_block.ensures)
    _ c.undoubles.ensures
