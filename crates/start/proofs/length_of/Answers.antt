-- The literals of a clause are as many as its codes, and no more than a table has elements.
use Rattle.std.proofs.Common.{rules, ◌≡◌, ◌+◌, ◌<◌, ◌^◌, length, sym, ◌∙◌, ap, arith}
use Rattle.general.specs.Lists.{length_from}
use Rattle.literal.specs.Literal.{literal_at}
use Rattle.occurrences.specs.Index.{code_at, start_at, size, literals}
use Rattle.start.proofs.length_of.Goals as goal
use Rattle.start.proofs.length_of.Goals.{After-literals_of}

as_long : (c : After-literals_of) → length c.literals_of.result.now ≡ size c.args.index.now c.args.g
as_long c = ap length c.literals_of.ensures ∙ length_from (code_at c.args.index.now) (start_at c.args.index.now c.args.g) (size c.args.index.now c.args.g)

pub overflow_cast-result : goal.overflow_cast-result
overflow_cast-result c =
    let h : length c.literals_of.result.now < 2 ^ 16 = omega (arith, as_long c, c.requires.indexed.stops (c.args.g + 1) (omega (arith, c.requires.g_bound))) in
    search rules

pub returns : goal.returns
returns c =
    as_long c
    ∙ sym (length_from (λ i. literal_at (code_at c.args.index.now i)) (start_at c.args.index.now c.args.g) (size c.args.index.now c.args.g))
