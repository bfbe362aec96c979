-- By the laws of the head that is made, element by element.
use Rattle.std.proofs.Common.{◌≡◌, sym, ◌∙◌, arith, ap, nat_abs, get_or, pos, rules}
use mir.ValLaws.{to_z-of_z}
use mir.Syntax.{w16}
use Rattle.index.proofs.Heads.{next_closed, next_entry, next_ended}
use Rattle.index.proofs.next_head.Goals as goal
use Rattle.index.proofs.next_head.Goals.{After-size}

sized : (c : After-size) → c.size.result ≡ nat_abs (get_or c.args.table.now c.loop-i.i (pos 0))
sized c =
    let fits = to_z-of_z w16 (get_or c.args.table.now c.loop-i.i (pos 0)) (record { sfits = search rules }) in
    c.size.ensures ∙ ap nat_abs fits

pub returns-then-size-eq0 : goal.returns-then-size-eq0
returns-then-size-eq0 c =
    let e = sym (sized (goal.at.returns-then-size-eq0 c).After-size) ∙ c.if-size-eq0.true in
    next_closed c.args.table.now c.args.at c.loop-i.i c.loop-i.auto.i c.loop-i-test.true e ∙ c.loop-i.invariant.1

pub loop-i-preserved : goal.loop-i-preserved
loop-i-preserved c =
    let e = sized (goal.at.loop-i-preserved c).After-size in
    (omega arith, next_entry c.args.table.now c.args.at c.loop-i.i c.loop-i.auto.i c.loop-i-test.true (λ z. c.if-size-eq0.false (e ∙ z)) ∙ c.loop-i.invariant.1)

pub returns : goal.returns
returns c =
    let e : c.max-next.result ≡ c.loop-i.i = omega arith in
    rw e (next_ended c.args.table.now c.args.at c.loop-i.i c.loop-i.auto.i c.loop-i-test.false ∙ c.loop-i.invariant.1)
