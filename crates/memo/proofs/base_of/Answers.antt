-- `base_of`: where a slot begins.
use Rattle.std.proofs.Common.{arith, refl}
use Rattle.memo.specs.Memory.{slot_at}
use Rattle.memo.proofs.base_of.Goals as goal

pub overflow_mul-result : goal.overflow_mul-result
unfolding slot_at
overflow_mul-result c = omega (arith, c.requires.slot_bound)

pub returns : goal.returns
unfolding slot_at
returns c = refl
