-- By the laws of the list's check over what is left of it.
use Rattle.std.proofs.Common.{rules, ◌≡◌, ap, sym, ◌∙◌, get_or, pos, nat_abs}
use mir.Syntax.{w16}
use mir.ValLaws.{to_z-of_z}
use Rattle.add.specs.Add.{known}
use Rattle.add.proofs.Refusals.{unknown_end, unknown_here, unknown_next_lem}
use Rattle.add.proofs.unknown_in.Goals as goal
use Rattle.add.proofs.unknown_in.Goals.{After-known}

-- the test of an element
tested : (c : After-known) → c.known.result ≡ known c.args.n (nat_abs (get_or c.args.group.now c.loop-i.i (pos 0)))
tested c =
    let fits = to_z-of_z w16 (get_or c.args.group.now c.loop-i.i (pos 0)) (record { sfits = search rules }) in
    c.known.ensures ∙ ap (known c.args.n) (c.size.ensures ∙ ap nat_abs fits)

pub returns-then-not-known : goal.returns-then-not-known
returns-then-not-known c =
    let a = c.args in
    c.refused.ensures
    ∙ sym (unknown_here a.at a.clause.0 a.n a.group.now c.loop-i.i c.loop-i-test.true (sym (tested (goal.at.returns-then-not-known c).After-known) ∙ c.if-not-known.true))
    ∙ c.loop-i.invariant

pub loop-i-preserved : goal.loop-i-preserved
loop-i-preserved c =
    let a = c.args in
    unknown_next_lem a.at a.clause.0 a.n a.group.now c.loop-i.i c.loop-i-test.true (sym (tested (goal.at.loop-i-preserved c).After-known) ∙ c.if-not-known.false) ∙ c.loop-i.invariant

pub returns : goal.returns
returns c = sym (unknown_end c.args.at c.args.clause.0 c.args.n c.args.group.now c.loop-i.i c.loop-i-test.false) ∙ c.loop-i.invariant
