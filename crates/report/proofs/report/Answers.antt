-- What solving the strip answers is printed within the bytes lent.
use Rattle.std.proofs.Common.{◌≤◌, sym, arith}
use lib.Seq.{length-take-le}
use Rattle.literal.specs.Literal.{max_variables}
use Rattle.report.proofs.Reports.{few_variables, printed, reported}
use Rattle.report.proofs.report.Goals as goal

pub slice_bounds-plan-end : goal.slice_bounds-plan-end
slice_bounds-plan-end c = let few : c.solve-solved.result.variables ≤ max_variables = rw c.solve-solved.ensures.variables (few_variables _) in omega (arith, few)

pub slice_bounds-put_search-end-2 : goal.slice_bounds-put_search-end-2
slice_bounds-put_search-end-2 c =
    let few : c.solve-solved.result.variables ≤ max_variables = rw c.solve-solved.ensures.variables (few_variables _) in sym (length-take-le _ _ (omega (arith, few)))

pub slice_bounds-trail-end : goal.slice_bounds-trail-end
slice_bounds-trail-end c = let few : c.solve-solved.result.variables ≤ max_variables = rw c.solve-solved.ensures.variables (few_variables _) in omega (arith, few)

pub slice_bounds-put_search-end-3 : goal.slice_bounds-put_search-end-3
slice_bounds-put_search-end-3 c =
    let few : c.solve-solved.result.variables ≤ max_variables = rw c.solve-solved.ensures.variables (few_variables _) in sym (length-take-le _ _ (omega (arith, few)))

pub returns-clause-text : goal.returns-clause-text
returns-clause-text c =
    let s = c.solve-solved in
    let r = reported _ (printed _ s.result.variables s.result.answer _ _ s.ensures.call s.ensures.variables) c.put_search.ensures in r.0

pub returns-clause-length : goal.returns-clause-length
returns-clause-length c =
    let s = c.solve-solved in
    let r = reported _ (printed _ s.result.variables s.result.answer _ _ s.ensures.call s.ensures.variables) c.put_search.ensures in r.1.1
