-- By the laws of Tables.
use Rattle.std.proofs.Common.{arith, rules}
use Rattle.std.proofs.lemmas.Result.{err_from_is_err_and}
use mir.Syntax.{w16}
use mir.ValLaws.{to_z-of_z}
use Rattle.scan.proofs.Tables.{begun, has_cell, further, turned, wrong_there, ended}
use Rattle.scan.proofs.table.Goals as goal

pub loop-word-init : goal.loop-word-init
loop-word-init c = begun _ _ _ _ c.requires

pub returns-in_err-word-clause-cells_after : goal.returns-in_err-word-clause-cells_after
returns-in_err-word-clause-cells_after c =
    let p = err_from_is_err_and c.from_residual.result c.from_residual.ensures.1 in
    rw (p.1, p.2) (wrong_there _ _ _ _ c.loop-word.invariant _ c.in_err-word.ensures)

pub bounds-cells-used : goal.bounds-cells-used
bounds-cells-used c = has_cell _ _ _ _ c.loop-word.invariant _ (rw c.in-Some.is at c.in_ok-word.ensures)

pub loop-word-smaller : goal.loop-word-smaller
loop-word-smaller c =
    let f = further _ _ _ _ c.loop-word.invariant _ (rw c.in-Some.is at c.in_ok-word.ensures) in
    omega (arith, f.0, f.1)

pub loop-word-preserved : goal.loop-word-preserved
loop-word-preserved c =
    rw (to_z-of_z w16 c.in-Some.word.number (record { sfits = search rules })) (turned _ _ _ _ c.loop-word.invariant _ (rw c.in-Some.is at c.in_ok-word.ensures))

pub returns-clause-cells_after : goal.returns-clause-cells_after
returns-clause-cells_after c = ended _ _ _ _ c.loop-word.invariant (rw c.in_default.is at c.in_ok-word.ensures)
