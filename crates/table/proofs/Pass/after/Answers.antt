-- By the laws of the pass over what is left of the part.
use Rattle.std.proofs.Common.{◌≡◌, ap, sym, ◌∙◌, get_or, pos, nat_abs, rules}
use mir.ValLaws.{to_z-of_z}
use mir.Syntax.{w16}
use Rattle.table.specs.Pass.{next}
use Rattle.table.proofs.Passes.{after_next, after_end}
use Rattle.table.proofs.Pass.after.Goals as goal

pub loop-entry-preserved : goal.loop-entry-preserved
loop-entry-preserved c =
    let p = c.loop-entry.pass in
    let t = c.args.part.now in
    let fits = to_z-of_z w16 (get_or t c.loop-entry.entry-index (pos 0)) (record { sfits = search rules }) in
    let e : c.next-pass.result ≡ next p (nat_abs (get_or t c.loop-entry.entry-index (pos 0))) = c.next-pass.ensures ∙ ap (next p) (c.size.ensures ∙ ap nat_abs fits) in
    rw e (after_next p t c.loop-entry.entry-index c.loop-entry-test.true ∙ c.loop-entry.invariant)

pub returns : goal.returns
returns c = sym (after_end c.loop-entry.pass c.args.part.now c.loop-entry.entry-index c.loop-entry-test.false) ∙ c.loop-entry.invariant
