-- A variable that is no root stands nowhere; a root stands where its class does.
use Rattle.std.proofs.Common.{sym, ◌∙◌}
use Rattle.walk.proofs.Branches.{not_root, stands_in}
use Rattle.walk.proofs.branches_on.Goals as goal

pub returns-then-value_of-p : goal.returns-then-value_of-p
returns-then-value_of-p c = not_root c.requires (λ e. c.if-value_of-p.true (c.value_of.ensures ∙ e))

pub returns : goal.returns
returns c = stands_in c.requires c.stands_live.result c.stands_live.ensures
