-- `hold`: a free slot is held where it was paid.
use Rattle.std.proofs.Common.{◌≡◌, ℕ, ◌+◌, ◌≤◌, ◌<◌, arith}
use Rattle.memo.specs.declared.Memory.{Memory}
use Rattle.memo.specs.Memory.{key_in, slot_room, slot_at, slot_count, Keying, Spared}
use Rattle.memo.proofs.Slots.{spared_changed}
use Rattle.memo.proofs.Filling.{slot_room_lem, slot_holding}
use Rattle.memo.proofs.Memory.hold.Goals as goal

room : {n p j b : ℕ} {m m' : Memory} → Keying n p m → Spared m m' → j < slot_count m' → b ≡ slot_at n j → b + (n + key_in) ≤ slot_room
room h o l e = rw e (slot_room_lem (spared_changed h.sized o).sized _ l)

pub base_of-base-requires-clause-slot_bound : goal.base_of-base-requires-clause-slot_bound
base_of-base-requires-clause-slot_bound c = omega (arith, slot_room_lem (spared_changed c.requires.sized c.pay.ensures).sized c.slot_of-slot.result c.slot_of-slot.ensures)

pub offset_bounds-self-base : goal.offset_bounds-self-base
offset_bounds-self-base c = omega (arith, room c.requires c.pay.ensures c.slot_of-slot.ensures c.base_of-base.ensures)

pub bounds-self-base : goal.bounds-self-base
bounds-self-base c = omega (arith, room c.requires c.pay.ensures c.slot_of-slot.ensures c.base_of-base.ensures)

pub returns : goal.returns
returns c =
    slot_holding c.requires.sized c.pay.ensures _ c.slot_of-slot.result c.slot_of-slot.ensures c.base_of-base.result c.base_of-base.ensures
    (omega (arith, c.if-self-base-ge-PENDING.false)) c.take.ensures
