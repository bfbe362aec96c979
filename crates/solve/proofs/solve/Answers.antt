-- A refused strip, or the search of what was read.
use Rattle.theory.specs.Calls.{solve_call, solve_variables}
use Rattle.strip.proofs.Decodings.{in_room}
use Rattle.solve.proofs.solve.Goals as goal

pub shared_ref_as_front-table : goal.shared_ref_as_front-table
shared_ref_as_front-table c = in_room _ _ c.in-Ok.decoded c.in-Ok.ensures

pub returns-in-Ok-clause-call : goal.returns-in-Ok-clause-call
unfolding solve_call
returns-in-Ok-clause-call c = rw (← c.in-Ok.ensures) c.search.ensures

pub returns-in-Ok-clause-variables : goal.returns-in-Ok-clause-variables
unfolding solve_variables
returns-in-Ok-clause-variables c = rw (← c.in-Ok.ensures)

pub returns-in-Err-clause-call : goal.returns-in-Err-clause-call
unfolding solve_call
returns-in-Err-clause-call c = rw (← c.in-Err.ensures)

pub returns-in-Err-clause-variables : goal.returns-in-Err-clause-variables
unfolding solve_variables
returns-in-Err-clause-variables c = rw (← c.in-Err.ensures)
