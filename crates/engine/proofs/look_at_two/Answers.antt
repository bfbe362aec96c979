use Rattle.std.proofs.Common.{◌≡◌, ◌<◌, ap, sym, ◌∙◌, arith}
use Rattle.occurrences.specs.Index.{clause_count}
use Rattle.tally.specs.Tally.{count_in}
use Rattle.engine.proofs.Reading.{legible}
use Rattle.engine.proofs.Two.{opens_first}
use Rattle.engine.proofs.Turns.{turned_past, turned_tied}
use Rattle.engine.proofs.look_at_two.Goals as goal

pub returns-then-count_of-ne2 : goal.returns-then-count_of-ne2
returns-then-count_of-ne2 c =
    turned_past c.requires.ready c.requires.twos_bound
    (λ e. absurd (c.if-count_of-ne2.true (c.count_of.ensures ∙ ap (count_in c.args.state.now) c.todo_at-g.ensures ∙ e)))

pub two_open-requires-clause-opens : goal.two_open-requires-clause-opens
two_open-requires-clause-opens c =
    let e : count_in c.args.state.now c.todo_at-g.result ≡ 2 = sym c.count_of.ensures ∙ c.if-count_of-ne2.false in
    let inside : c.todo_at-g.result < clause_count c.args.index.now =
    rw c.todo_at-g.ensures (c.requires.ready.sound.todo_inside c.args.twos c.requires.twos_bound) in
    opens_first (legible c.requires.ready.sound) _ inside (omega arith) (omega arith)

pub returns-in_default : goal.returns-in_default
returns-in_default c =
    turned_past c.requires.ready c.requires.twos_bound (λ e. rw (c.in_default.is, c.todo_at-g.ensures) at c.in_ok-low.ensures)

pub returns : goal.returns
returns c = turned_tied c.requires.ready (omega (arith, c.requires.twos_bound)) c.in_ok-tie.ensures
