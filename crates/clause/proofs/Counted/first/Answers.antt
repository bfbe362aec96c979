-- The test may be asked of every literal that stands.
use Rattle.std.proofs.Common.{rules, ap, ◌∙◌}
use Rattle.general.specs.Search.{find}
use Rattle.clause.specs.Finding.{passes}
use Rattle.clause.specs.Literals.{counted, left}
use Rattle.clause.proofs.Reading.{serves}
use Rattle.clause.proofs.Searching.{finds}
use Rattle.clause.proofs.Counted.first.Goals as goal

pub find-requires-clause-callable : goal.find-requires-clause-callable
find-requires-clause-callable c = serves (λ q x k. search rules)

pub returns : goal.returns
returns c =
    let w = c.find.ensures.ran in
    let test = passes c.args.test (counted c.args.self.now) in
    finds left _ test _ (λ x b q e. search rules) w.0 _ c.find.new.self _ w.1 w.2 w.3 w.4 ∙ ap (find test) c.literals.ensures
