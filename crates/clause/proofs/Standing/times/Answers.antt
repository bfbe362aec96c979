-- How many of the literals are x.
use Rattle.std.proofs.Common.{rules, arith, inl, ◌∙◌}
use Rattle.std.proofs.lemmas.Iterator.Consumers.{count_from_yields_List, YieldsList-at, YieldsList-from_filter, YieldsList-from_first}
use Rattle.literal.specs.Literal.{same}
use Rattle.clause.specs.Literals.{left}
use Rattle.clause.proofs.Walk.{clause_short}
use Rattle.clause.proofs.Searching.{length_occurs}
use Rattle.clause.proofs.Standing.times.Goals as goal

pub count-requires-clause-fits : goal.count-requires-clause-fits
count-requires-clause-fits c =
    let s = c.literals.result in
    inl (rw c.filter.ensures.source (omega (arith, clause_short s.of.table.now s.of.state.now.values s.at s.of.readable)))

pub returns : goal.returns
returns c =
    count_from_yields_List {v = λ x. x} c.filter.result _ c.count.ensures.ran
    (YieldsList-from_filter _ (λ y. same y c.args.x) (YieldsList-at c.filter.ensures.source (YieldsList-from_first (λ x. x) left _ c.literals.ensures)) c.filter.ensures.closure (λ x r q k. search rules))
    ∙ length_occurs c.args.x _
