-- `put_key`: the words so far are the key's.
use Rattle.memo.proofs.Keys.{WritingTo}
use Rattle.memo.proofs.put_key.Given as goal

abbrev pub invariant-loop-j : goal.invariant-loop-j
invariant-loop-j l = WritingTo l.n l.p l.base l.state l.initial.slots l.slots l.j
