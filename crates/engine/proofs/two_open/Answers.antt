use Rattle.std.proofs.Common.{arith}
use Rattle.occurrences.specs.Index.{start_at}
use Rattle.engine.specs.Reading.{FirstOpen}
use Rattle.engine.proofs.Two.{opens_second, two_dead, two_rest, two_tie, two_turned}
use Rattle.engine.proofs.two_open.Goals as goal
use Rattle.engine.proofs.two_open.Goals.{After-open_place-i}

first : (c : After-open_place-i) → FirstOpen c.args.index.now c.args.state.now c.args.g (start_at c.args.index.now c.args.g) c.open_place-i.result
first c = rw c.start_of.ensures at c.open_place-i.ensures

pub open_place-j-requires : goal.open_place-j-requires
open_place-j-requires c = opens_second c.requires.opens c.requires.g_value (first (goal.at.open_place-j-requires c).After-open_place-i)

pub returns-then-x-y : goal.returns-then-x-y
returns-then-x-y c =
    two_dead c.requires.opens c.requires.g_value (first (goal.at.returns-then-x-y c).After-open_place-i) c.open_place-j.ensures _ _
    c.value_of_code-x.ensures c.value_of_code-y.ensures c.if-x-y.true

pub returns-then-x-y-2 : goal.returns-then-x-y-2
returns-then-x-y-2 c =
    two_rest c.requires.opens c.requires.g_value (first (goal.at.returns-then-x-y-2 c).After-open_place-i) c.open_place-j.ensures _ _
    c.value_of_code-x.ensures c.value_of_code-y.ensures c.if-x-y.false c.if-x-y-2.true

pub returns-then-x-y-3 : goal.returns-then-x-y-3
returns-then-x-y-3 c =
    two_tie c.requires.opens c.requires.g_value (first (goal.at.returns-then-x-y-3 c).After-open_place-i) c.open_place-j.ensures _ _
    c.value_of_code-x.ensures c.value_of_code-y.ensures (omega (arith, c.if-x-y-3.true, c.if-x-y-2.false))

pub returns : goal.returns
returns c =
    two_turned c.requires.opens c.requires.g_value (first (goal.at.returns c).After-open_place-i) c.open_place-j.ensures _ _
    c.value_of_code-x.ensures c.value_of_code-y.ensures (omega (arith, c.if-x-y-3.false, c.if-x-y-2.false))
