-- The refusals in their order, and else a head for each group.
use Rattle.std.proofs.Common.{rules, ◌≡◌, ap, sym, ◌∙◌}
use Rattle.std.specs.Prelude.{Err}
use Rattle.receipt.specs.Receipt.{pass}
use Rattle.theory.specs.Table.{zeros, check}
use Rattle.table.specs.declared.Pass.{Pass}
use Rattle.table.specs.Pass.{verdict}
use Rattle.table.proofs.Passes.{verdict_check, clauses_exact}
use Rattle.index.specs.Index.{due_of}
use Rattle.index.proofs.due_of.Goals as goal
use Rattle.index.proofs.due_of.Goals.{After-verdict, In_ok-verdict}

-- the verdict on the state after the table is the check, and the state's count is the table's where that passes
checked : (c : After-verdict) → check c.args.n c.args.table.now ≡ c.verdict.result
checked c = sym (c.verdict.ensures ∙ ap verdict (rw c.begin.ensures at c.after-pass.ensures) ∙ verdict_check _ _)

counted : (c : In_ok-verdict) → check c.args.n c.args.table.now ≡ pass → c.after-pass.result.clauses ≡ zeros c.args.table.now
counted c passed = ap (λ (s : Pass). s.clauses) (rw c.begin.ensures at c.after-pass.ensures) ∙ clauses_exact _ _ passed

pub returns-in_err-verdict : goal.returns-in_err-verdict
unfolding due_of
returns-in_err-verdict c =
    let e : c.from_residual.result ≡ Err c.in_err-verdict.field-0.0 = search rules in
    rw (e, checked (goal.at.returns-in_err-verdict c).After-verdict ∙ c.in_err-verdict.was)

pub returns-in_err-at_most : goal.returns-in_err-at_most
unfolding due_of
returns-in_err-at_most c =
    let e : c.from_residual-in_err-at_most.result ≡ Err c.in_err-at_most.field-0.0 = search rules in
    let at = goal.at.returns-in_err-at_most c in
    let passed = checked at.After-verdict ∙ c.in_ok-verdict.was in
    rw (e, passed, ← counted at.In_ok-verdict passed, sym c.at_most.ensures ∙ c.in_err-at_most.was)

pub returns : goal.returns
unfolding due_of
returns c =
    let at = goal.at.returns c in
    let passed = checked at.After-verdict ∙ c.in_ok-verdict.was in
    rw (passed, ← counted at.In_ok-verdict passed, sym c.at_most.ensures ∙ c.in_ok-at_most.was)
