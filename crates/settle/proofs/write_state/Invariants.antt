use Rattle.std.proofs.Common.{take}
use Rattle.general.specs.Lists.{up_to}
use Rattle.general.specs.Runs.{Writing}
use Rattle.theory.specs.Calls.{state_entry}
use Rattle.state.specs.State.{state_of}
use Rattle.settle.proofs.write_state.Given as goal

abbrev pub invariant-loop-i : goal.invariant-loop-i
invariant-loop-i l = Writing 0 l.n (up_to (λ p. state_entry (state_of l.state.values p)) l.n) (take l.n l.fn.list) l.entry-items l.i
