-- By where the first 0 stands.
use Rattle.std.proofs.Common.{arith, ◌≡◌, length, drop}
use lib.ListN.{length-drop}
use Rattle.std.proofs.lemmas.List.{take_rest}
use Rattle.clause.specs.Reading.{group_length}
use Rattle.clause.proofs.Walk.{up_to, length_zero}
use Rattle.clause.proofs.Standing.next_clause.Goals as goal
use Rattle.clause.proofs.Standing.next_clause.Goals.{After-first_zero}

found : (c : After-first_zero) → let t = drop c.args.from c.args.self.table.now in group_length t ≡ up_to c.first_zero.result (length t)
found c = rw (c.first_zero.ensures, take_rest) (length_zero (drop c.args.from c.args.self.table.now))

pub returns-in-Some : goal.returns-in-Some
returns-in-Some c = omega (arith, rw c.in-Some.is at (found (goal.at.returns-in-Some c).After-first_zero))

pub returns-in-None : goal.returns-in-None
returns-in-None c = omega (arith, rw c.in-None.is at (found (goal.at.returns-in-None c).After-first_zero), length-drop c.args.from c.args.self.table.now)
