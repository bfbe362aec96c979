-- What is made at each index.
use Rattle.std.proofs.Common.{◌≡◌, ◌≤◌, ◌*◌, ℕ, arith, rules, get_or}
use Rattle.literal.specs.Literal.{max_variables}
use Rattle.state.proofs.Values.{state_of_initial}
use Rattle.state.proofs.State.initial.Goals as goal
use Rattle.state.proofs.State.initial.Goals.{After-from_fn}

made : (c : After-from_fn) (p : ℕ) → p ≤ max_variables → get_or c.from_fn.result p 0 ≡ 2 * p
made c p h = let w = c.from_fn.ensures.items.at p 0 (omega arith) in let k = w.2 in search rules

pub invariant_of-result : goal.invariant_of-result
invariant_of-result c = record { in_range = record { below = λ p h. omega (arith, made (goal.at.invariant_of-result c).After-from_fn p h) } }

pub returns : goal.returns
returns c = state_of_initial _ (made (goal.at.returns c).After-from_fn)
