use Rattle.std.proofs.Common.{get_or}
use Rattle.literal.specs.Literal.{code_of, literal_at}
use Rattle.theory.specs.State.{replace}
use Rattle.state.proofs.Fill.{Filled}
use Rattle.state.proofs.State.assign.Given as goal

abbrev pub invariant-loop-code : goal.invariant-loop-code
invariant-loop-code l = Filled 0 (λ k. code_of (replace l.x l.t (literal_at (get_or l.fn.self.values k 0)))) l.fn.self.values l.code-items l.code-index
