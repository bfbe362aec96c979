-- The closure may be called at every literal of the clause, and answers whether it is paired.
use Rattle.std.proofs.Common.{rules, ap, ◌∙◌}
use Rattle.general.specs.Search.{find}
use Rattle.clause.specs.Literals.{clause_of, counted, left}
use Rattle.clause.proofs.Reading.{serves}
use Rattle.clause.proofs.Searching.{finds}
use Rattle.rules.specs.Rules.{pairs}
use Rattle.rules.proofs.first_paired.Goals as goal

pub find-requires-clause-callable : goal.find-requires-clause-callable
find-requires-clause-callable c = serves (λ q x k. search rules)

pub returns : goal.returns
returns c =
    let w = c.find.ensures.ran in
    let h = c.args.h.now in
    let test = pairs c.args.test (clause_of h.of c.args.g) (counted h) in
    finds left _ test _ (λ x b q e. search rules) w.0 _ c.find.new.self _ w.1 w.2 w.3 w.4 ∙ ap (find test) c.literals.ensures
