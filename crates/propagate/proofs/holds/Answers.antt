-- No literal of the clause is of y's variable.
use Rattle.std.proofs.Common.{rules, ◌≡◌, false, nat_eq}
use borrow.Author.Tests.{eqb-false}
use Rattle.literal.specs.Literal.{var}
use Rattle.clause.specs.Literals.{left}
use Rattle.clause.proofs.Searching.{none_passes}
use Rattle.propagate.proofs.holds.Goals as goal

pub returns : goal.returns
returns c = λ none l m opened.
    let w = c.any.ensures.ran in
    eqb-false (var l) (var c.args.y)
    (none_passes left _ (λ x. nat_eq (var x) (var c.args.y) ≡ false) _ (λ x q k. search rules) w.0 _ c.any.new.self w.1 w.2 _ _ w.3 w.4 w.5 none l (rw c.literals.ensures m))
