-- `take`: the slot is held, with the key.
use Rattle.std.proofs.Common.{rules, ◌≡◌, ℕ, ◌+◌, ◌≤◌, ◌<◌, length, refl, arith}
use Rattle.memo.specs.declared.Memory.{Memory}
use Rattle.memo.specs.Memory.{key_in, slot_room, slot_at, slot_count, Keying}
use Rattle.memo.proofs.Filling.{slot_room_lem, slot_placing, slot_taken}
use Rattle.memo.proofs.Memory.take.Goals as goal

room : {n p j b : ℕ} {m : Memory} → Keying n p m → j < slot_count m → b ≡ slot_at n j → b + (n + key_in) ≤ slot_room
room h l e = (slot_placing h _ l _ e).room

pub base_of-base-requires-clause-slot_bound : goal.base_of-base-requires-clause-slot_bound
base_of-base-requires-clause-slot_bound c = omega (arith, slot_room_lem c.requires.keying.sized c.args.slot c.requires.slot_bound)

pub offset_bounds-self-base : goal.offset_bounds-self-base
offset_bounds-self-base c = omega (arith, room c.requires.keying c.requires.slot_bound c.base_of-base.ensures)

pub bounds-self-base : goal.bounds-self-base
bounds-self-base c = omega (arith, room c.requires.keying c.requires.slot_bound c.base_of-base.ensures)

pub overflow_add-base : goal.overflow_add-base
overflow_add-base c = omega (arith, room c.requires.keying c.requires.slot_bound c.base_of-base.ensures)

pub put_number-requires : goal.put_number-requires
put_number-requires c = omega (arith, room c.requires.keying c.requires.slot_bound c.base_of-base.ensures)

pub put_key-requires : goal.put_key-requires
put_key-requires c = slot_placing c.requires.keying c.args.slot c.requires.slot_bound c.base_of-base.result c.base_of-base.ensures

pub returns : goal.returns
returns c =
    let long : length c.args.self.now.slots ≡ slot_room = search rules in
    slot_taken c.requires.keying _ c.args.slot c.requires.slot_bound c.base_of-base.result c.base_of-base.ensures long refl c.args.tag c.put_number.ensures c.put_key.ensures
