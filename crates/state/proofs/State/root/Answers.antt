-- The variable is an index.
use Rattle.std.proofs.Common.{sym, ◌∙◌}
use Rattle.state.proofs.Values.{state_of_inside}
use Rattle.state.proofs.State.root.Goals as goal

pub returns : goal.returns
returns c = c.of_code.ensures ∙ sym (state_of_inside c.args.self.now.values c.args.variable.0 c.requires)
