-- `look`: a slot with that key.
use Rattle.std.proofs.Common.{arith}
use Rattle.memo.proofs.Filling.{slot_room_lem, slot_placing}
use Rattle.memo.proofs.Memory.look.Goals as goal

pub base_of-base-requires-clause-slot_bound : goal.base_of-base-requires-clause-slot_bound
base_of-base-requires-clause-slot_bound c = omega (arith, slot_room_lem c.requires.sized c.slot_of.result c.slot_of.ensures)

pub offset_bounds-self-base : goal.offset_bounds-self-base
offset_bounds-self-base c = omega (arith, (slot_placing c.requires c.slot_of.result c.slot_of.ensures c.base_of-base.result c.base_of-base.ensures).room)

pub bounds-self-base : goal.bounds-self-base
bounds-self-base c =
    let k = slot_placing c.requires c.slot_of.result c.slot_of.ensures c.base_of-base.result c.base_of-base.ensures in
    omega (arith, k.room, k.positive)

pub is_key-requires : goal.is_key-requires
is_key-requires c = slot_placing c.requires c.slot_of.result c.slot_of.ensures c.base_of-base.result c.base_of-base.ensures
