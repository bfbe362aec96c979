-- After i elements the placements of the first i are noted.
use Rattle.std.proofs.Common.{sym, ◌<◌, length, get_or, take, pos, rules}
use Rattle.std.proofs.lemmas.List.{take_more}
use mir.Syntax.{w16}
use mir.ValLaws.{to_z-of_z}
use Rattle.mentions.proofs.Noting.{noted_none}
use Rattle.mentions.proofs.mentions_all.Goals as goal

pub loop-e-init : goal.loop-e-init
loop-e-init c = noted_none

pub loop-e-preserved : goal.loop-e-preserved
loop-e-preserved c =
    let t = c.args.table.now in
    let i = c.loop-e.e-index in
    let h : i < length t = c.loop-e-test.true in
    let s = rw (to_z-of_z w16 (get_or t i (pos 0)) (record { sfits = search rules })) at c.size.ensures in
    rw (take_more t i (pos 0) h) (c.note.ensures (take i t) _ (sym s) c.loop-e.invariant)
