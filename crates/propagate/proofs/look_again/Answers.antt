-- After a decision, a step before which nothing was noted, and a tie.
use Rattle.std.proofs.Common.{sym, ◌∙◌}
use borrow.Author.Tests.{ltb-true}
use Rattle.literal.specs.Literal.{var}
use Rattle.propagate.proofs.Partners.{noted_decided, noted_nothing, noted_tied}
use Rattle.propagate.proofs.look_again.Goals as goal
use Rattle.propagate.proofs.look_again.Goals.{then-not-is_open-via-then-not-is_open, then-not-is_open-via-else-not-is_open+then-not-any_noted}

pub returns-then-not-is_open : goal.returns-then-not-is_open
returns-then-not-is_open c =
    rw c.in-Becomes.is
    (elim c.then-not-is_open.branch [
      | then-not-is_open-via-then-not-is_open w ↦ λ h e. noted_decided _ _ _ c.args.rule _ _ h e (sym c.is_open.ensures ∙ w.if-not-is_open.true) c.requires
      | then-not-is_open-via-else-not-is_open+then-not-any_noted w ↦ λ h e. noted_nothing _ _ _ c.args.rule (w.any_noted.ensures w.if-not-any_noted.true) c.requires
    ])

pub returns : goal.returns
returns c =
    let opened = ltb-true 0 (var c.in-Becomes.t) (sym c.is_open.ensures ∙ c.if-not-is_open.false) in
    rw c.in-Becomes.is (λ h e. noted_tied _ _ _ c.args.rule _ _ h e (c.side-y.ensures opened) c.requires c.forget.ensures c.part_all.ensures)
