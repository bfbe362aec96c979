-- By the laws of the way back.
use Rattle.std.proofs.Common.{◌≡◌, suc, ◌-◌, ap, sym, ◌∙◌, arith, rules, add-one, nat_abs, get_or, pos}
use mir.ValLaws.{to_z-of_z}
use mir.Syntax.{w16}
use borrow.Author.Tests.{eq-eqb, ne_eqb}
use Rattle.theory.proofs.LastGroup.{back_begun, back_turned, start_front, start_zero}
use Rattle.take_back.proofs.last_start.Goals as goal
use Rattle.take_back.proofs.last_start.Goals.{After-size}

-- the element before i
sized : (c : After-size) → c.size.result ≡ nat_abs (get_or c.args.table.now (c.loop-i.i - 1) (pos 0))
sized c =
    let fits = to_z-of_z w16 (get_or c.args.table.now (c.loop-i.i - 1) (pos 0)) (record { sfits = search rules }) in
    c.size.ensures ∙ ap nat_abs fits

pub loop-i-init : goal.loop-i-init
loop-i-init c = back_begun c.args.table.now c.requires.table_value c.requires.table_nonzero

pub returns-then-size-eq0 : goal.returns-then-size-eq0
returns-then-size-eq0 c =
    let r = c.requires in
    let k : c.loop-i.i ≡ suc (c.loop-i.i - 1) = omega (arith, c.loop-i-test.true) in
    let z = eq-eqb _ 0 (sym (sized (goal.at.returns-then-size-eq0 c).After-size) ∙ c.if-size-eq0.true) in
    add-one _ ∙ sym (start_zero c.args.table.now r.table_value r.table_nonzero (c.loop-i.i - 1) (rw k at c.loop-i.invariant) z)

pub loop-i-preserved : goal.loop-i-preserved
loop-i-preserved c =
    let r = c.requires in
    let k : c.loop-i.i ≡ suc (c.loop-i.i - 1) = omega (arith, c.loop-i-test.true) in
    let e = sized (goal.at.loop-i-preserved c).After-size in
    let z = ne_eqb _ 0 (λ q. c.if-size-eq0.false (e ∙ q)) in
    back_turned c.args.table.now r.table_value r.table_nonzero (c.loop-i.i - 1) (rw k at c.loop-i.invariant) z

pub returns : goal.returns
returns c =
    let z : c.loop-i.i ≡ 0 = omega (arith, c.loop-i-test.false) in
    sym (start_front c.args.table.now c.requires.table_value c.requires.table_nonzero (rw z at c.loop-i.invariant))
