-- By the laws of Elements.
use Rattle.std.proofs.Common.{arith, rules, ◌≡◌, ap, ◌∙◌, get_or, pos}
use mir.ValLaws.{to_z-of_z}
use mir.Syntax.{w16}
use Rattle.literal.specs.Literal.{literal_of}
use Rattle.save.proofs.Elements.{begun, room, turned, ended}
use Rattle.save.proofs.put_elements.Goals as goal
use Rattle.save.proofs.put_elements.Goals.{After-from-literal}

read : (c : After-from-literal) → c.from-literal.result ≡ literal_of (get_or c.args.table.now c.loop-entry.entry-index (pos 0))
read c =
    let fits = to_z-of_z w16 (get_or c.args.table.now c.loop-entry.entry-index (pos 0)) (record { sfits = search rules }) in
    c.from-literal.ensures ∙ ap literal_of fits

pub loop-entry-init : goal.loop-entry-init
loop-entry-init c = begun _ _ _ (omega arith)

pub put_element-next-requires : goal.put_element-next-requires
put_element-next-requires c = rw (read (goal.at.put_element-next-requires c).After-from-literal) (room _ _ _ c.loop-entry.invariant c.loop-entry-test.true c.requires)

pub loop-entry-preserved : goal.loop-entry-preserved
loop-entry-preserved c =
    let e = read (goal.at.loop-entry-preserved c).After-from-literal in
    rw (c.is_open-inside.ensures, e) (turned _ _ _ c.loop-entry.invariant c.loop-entry-test.true _ _ (rw e at c.put_element-next.ensures))

pub returns : goal.returns
returns c = ended _ _ _ c.loop-entry.invariant c.loop-entry-test.false
