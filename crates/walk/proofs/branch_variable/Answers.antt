-- By the laws of Branches.
use Rattle.std.proofs.Common.{arith}
use Rattle.walk.proofs.Branches.{passed_found, passed_all}
use Rattle.walk.proofs.branch_variable.Goals as goal

pub returns-then-branches_on : goal.returns-then-branches_on
returns-then-branches_on c = passed_found c.loop-p.invariant c.if-branches_on.ensures

pub returns : goal.returns
returns c = passed_all c.loop-p.invariant (omega arith)
