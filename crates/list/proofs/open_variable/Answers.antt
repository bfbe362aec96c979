-- By the laws of Opens.
use Rattle.std.proofs.Common.{sym, ◌∙◌, ◌≤◌, arith}
use Rattle.literal.specs.Literal.{max_variables}
use Rattle.tally.specs.Tally.{state_in}
use Rattle.side.proofs.Splitting.{open_code, code_open}
use Rattle.list.proofs.Opens.{lowest_is, lowest_none, shut_more}
use Rattle.list.proofs.open_variable.Goals as goal

pub loop-p-init : goal.loop-p-init
loop-p-init c = record { able = c.requires; begins = omega arith; shut = c.requires.shut }

pub returns-then-value_of-p : goal.returns-then-value_of-p
returns-then-value_of-p c =
    let l = c.loop-p in
    let w = l.invariant in
    let small : l.p ≤ max_variables = omega (arith, c.loop-p-test.true, w.able.small) in
    lowest_is c.args.n (state_in c.args.state.now) l.p w.shut (record {
      positive = omega (arith, w.able.positive, w.begins);
      inside = omega (arith, c.loop-p-test.true);
      root = code_open c.args.state.now l.p small (sym c.value_of.ensures ∙ c.if-value_of-p.true);
    })

pub loop-p-preserved : goal.loop-p-preserved
loop-p-preserved c =
    let l = c.loop-p in
    let w = l.invariant in
    let small : l.p ≤ max_variables = omega (arith, c.loop-p-test.true, w.able.small) in
    record {
      able = w.able;
      begins = omega (arith, w.begins);
      shut = shut_more c.args.n (state_in c.args.state.now) l.p w.shut (λ o. c.if-value_of-p.false (c.value_of.ensures ∙ open_code c.args.state.now l.p small o.root));
    }

pub returns : goal.returns
returns c = lowest_none _ _ _ c.loop-p.invariant.shut (omega (arith, c.loop-p-test.false))
