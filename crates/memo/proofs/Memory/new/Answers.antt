-- `new`: nothing is known.
use Rattle.std.proofs.Common.{ℕ, ◌+◌, ◌/◌, ◌<◌, arith}
use Rattle.std.proofs.lemmas.Nat.{le-div}
use Rattle.general.specs.Lists.{get_or_throughout}
use Rattle.memo.specs.Memory.{key_in, slot_room}
use Rattle.memo.proofs.Filling.{new_empty}
use Rattle.memo.proofs.Memory.new.Goals as goal

pub returns : goal.returns
returns c =
    let some : 0 < slot_room / (c.args.n + key_in) = le-div 1 slot_room (c.args.n + key_in) (omega arith) (omega (arith, c.requires)) in
    new_empty c.requires (omega (arith, c.clamp-2.ensures)) (omega (arith, c.clamp-2.ensures)) (λ i. get_or_throughout {A = ℕ} slot_room i 0)
