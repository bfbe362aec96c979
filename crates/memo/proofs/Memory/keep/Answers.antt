-- `keep`: the slot learns its splits.
use Rattle.std.proofs.Common.{◌≡◌, ℕ, ◌+◌, ◌≤◌, ◌<◌, refl, arith}
use Rattle.memo.specs.declared.Memory.{Memory}
use Rattle.memo.specs.Memory.{key_in, slot_room, slot_at, slot_count, Sized}
use Rattle.memo.proofs.Filling.{slot_room_lem, slot_learning}
use Rattle.memo.proofs.Memory.keep.Goals as goal

room : {n j b : ℕ} {m : Memory} → Sized n m → j < slot_count m → b ≡ slot_at n j → b + (n + key_in) ≤ slot_room
room z l e = rw e (slot_room_lem z _ l)

pub base_of-base-requires-clause-slot_bound : goal.base_of-base-requires-clause-slot_bound
base_of-base-requires-clause-slot_bound c = omega (arith, slot_room_lem c.requires.sized _ (c.requires.inside _ c.in-Some.is))

pub offset_bounds-self-base : goal.offset_bounds-self-base
offset_bounds-self-base c = omega (arith, room c.requires.sized (c.requires.inside _ c.in-Some.is) c.base_of-base.ensures)

pub bounds-self-base : goal.bounds-self-base
bounds-self-base c = omega (arith, room c.requires.sized (c.requires.inside _ c.in-Some.is) c.base_of-base.ensures)

pub bounds-self-base-2 : goal.bounds-self-base-2
bounds-self-base-2 c = omega (arith, room c.requires.sized (c.requires.inside _ c.in-Some.is) c.base_of-base.ensures)

pub overflow_add-base : goal.overflow_add-base
overflow_add-base c = omega (arith, room c.requires.sized (c.requires.inside _ c.in-Some.is) c.base_of-base.ensures)

pub put_number-requires : goal.put_number-requires
put_number-requires c = omega (arith, room c.requires.sized (c.requires.inside _ c.in-Some.is) c.base_of-base.ensures)

pub returns : goal.returns
returns c = rw c.in-Some.is (slot_learning c.requires.sized _ (c.requires.inside _ c.in-Some.is) c.base_of-base.result c.base_of-base.ensures refl _ _ c.put_number.ensures)
