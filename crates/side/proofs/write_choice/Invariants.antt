-- `write_choice`: the choices before i are written.
use Rattle.std.proofs.Common.{map}
use Rattle.general.specs.Booleans.{bit}
use Rattle.general.specs.Runs.{Writing}
use Rattle.theory.specs.Search.{choice_of}
use Rattle.tally.specs.Tally.{state_in}
use Rattle.side.proofs.write_choice.Given as goal

abbrev pub invariant-loop-i : goal.invariant-loop-i
invariant-loop-i l = Writing l.at l.n (map bit (choice_of l.n (state_in l.state))) l.fn.bytes l.bytes l.i
