-- The checks of the definition in its order: the state after the used part has its counts where the part passes.
use Rattle.std.proofs.Common.{rules, ◌≡◌, ℕ, ◌+◌, ap, sym, ◌∙◌, take}
use Rattle.std.specs.Prelude.{Err}
use Rattle.literal.specs.declared.ClauseNumber.{ClauseNumber}
use Rattle.theory.specs.Table.{zeros, check}
use Rattle.theory.specs.Calls.{unknown_in, check_group}
use Rattle.theory.proofs.Refusing.{first_last}
use Rattle.table.specs.Pass.{verdict}
use Rattle.table.proofs.Passes.{verdict_check}
use Rattle.add.proofs.Refusals.{Counted, counted_after}
use Rattle.add.proofs.check_group.Goals as goal
use Rattle.add.proofs.check_group.Goals.{After-verdict, In_ok-verdict}

-- the check of the used part
checked : (c : After-verdict) → c.verdict.result ≡ check c.args.n (take c.args.used c.args.buffer.now)
checked c = c.verdict.ensures ∙ ap verdict (rw c.begin.ensures at c.after-pass.ensures) ∙ verdict_check _ _

-- what its counts are where it passes
counted : (c : In_ok-verdict) → Counted (take c.args.used c.args.buffer.now) c.after-pass.result
counted c = counted_after c.args.n _ _ (rw c.begin.ensures at c.after-pass.ensures) (sym c.verdict.ensures ∙ c.in_ok-verdict.was)

pub returns-in_err-at_most : goal.returns-in_err-at_most
unfolding check_group
returns-in_err-at_most c =
    let e : c.from_residual.result ≡ Err c.in_err-at_most.field-0.0 = search rules in
    rw (e, sym c.at_most.ensures ∙ c.in_err-at_most.was)

pub returns-in_err-verdict : goal.returns-in_err-verdict
unfolding check_group
returns-in_err-verdict c =
    let e : c.from_residual-in_err-verdict.result ≡ Err c.in_err-verdict.field-0.0 = search rules in
    rw (e, sym c.at_most.ensures ∙ c.in_ok-at_most.was, sym (checked (goal.at.returns-in_err-verdict c).After-verdict) ∙ c.in_err-verdict.was)

pub returns-in_err-at_most-2 : goal.returns-in_err-at_most-2
unfolding check_group
returns-in_err-at_most-2 c =
    let e : c.from_residual-in_err-at_most-2.result ≡ Err c.in_err-at_most-2.field-0.0 = search rules in
    let k = counted (goal.at.returns-in_err-at_most-2 c).In_ok-verdict in
    rw (
      e,
      sym c.at_most.ensures ∙ c.in_ok-at_most.was,
      sym (checked (goal.at.returns-in_err-at_most-2 c).After-verdict) ∙ c.in_ok-verdict.was,
      ← k.clauses,
      sym c.at_most-2.ensures ∙ c.in_err-at_most-2.was,
    )

pub returns-in_err-at_most-3 : goal.returns-in_err-at_most-3
unfolding check_group
returns-in_err-at_most-3 c =
    let e : c.from_residual-in_err-at_most-3.result ≡ Err c.in_err-at_most-3.field-0.0 = search rules in
    let k = counted (goal.at.returns-in_err-at_most-3 c).In_ok-verdict in
    rw (
      e,
      sym c.at_most.ensures ∙ c.in_ok-at_most.was,
      sym (checked (goal.at.returns-in_err-at_most-3 c).After-verdict) ∙ c.in_ok-verdict.was,
      ← k.clauses,
      ← k.literals,
      sym c.at_most-2.ensures ∙ c.in_ok-at_most-2.was,
      sym c.at_most-3.ensures ∙ c.in_err-at_most-3.was,
    )

pub returns : goal.returns
unfolding check_group
returns c =
    let k = counted (goal.at.returns c).In_ok-verdict in
    let u : c.unknown_in.result ≡ unknown_in c.args.used (zeros (take c.args.used c.args.buffer.now) + 1) c.args.n c.args.group.now =
    c.unknown_in.ensures ∙ ap (λ (h : ℕ). unknown_in c.args.used h c.args.n c.args.group.now) (ap (λ (x : ClauseNumber). x.0) c.clause_next.ensures ∙ k.clause) in
    rw (
      sym c.at_most.ensures ∙ c.in_ok-at_most.was,
      sym (checked (goal.at.returns c).After-verdict) ∙ c.in_ok-verdict.was,
      ← u,
      ← k.clauses,
      ← k.literals,
      sym c.at_most-2.ensures ∙ c.in_ok-at_most-2.was,
      sym c.at_most-3.ensures ∙ c.in_ok-at_most-3.was,
    ) (sym (first_last c.unknown_in.result))
