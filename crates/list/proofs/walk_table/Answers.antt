-- By the laws of Starting.
use Rattle.std.specs.Prelude.{is_err}
use Rattle.theory.proofs.Tables.{accepted_sizes}
use Rattle.occurrences.proofs.Building.{within_all}
use Rattle.list.specs.Walk.{top}
use Rattle.list.proofs.Rows.{same_walked}
use Rattle.list.proofs.Starting.{start_walkable, start_run}
use Rattle.list.proofs.walk_table.Goals as goal

pub build-index-requires : goal.build-index-requires
build-index-requires c = within_all (accepted_sizes _ _ c.requires.accepted)

pub settle_and_decide-requires : goal.settle_and_decide-requires
settle_and_decide-requires c = start_walkable c.requires _ _ _ c.build-index.ensures.formula _ (is_err c.start-begun.result) c.start-begun.ensures

pub returns : goal.returns
returns c =
    let a = c.args in
    let w = c.settle_and_decide in
    let s = c.start-begun in
    same_walked (start_run c.requires c.build-index.result s.new.state s.new.work c.build-index.ensures.formula a.allowance (is_err s.result) s.ensures)
    (top a.n a.k a.allowance) a.rows.now w.new.rows w.result w.ensures
