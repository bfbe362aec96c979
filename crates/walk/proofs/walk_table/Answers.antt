-- By the laws of Starting.
use Rattle.std.proofs.Common.{◌∙◌}
use Rattle.std.specs.Prelude.{is_err}
use Rattle.theory.proofs.Tables.{accepted_sizes}
use Rattle.occurrences.proofs.Building.{within_all}
use Rattle.walk.proofs.Starting.{start_walkable, start_walk}
use Rattle.walk.proofs.walk_table.Goals as goal

pub build-index-requires : goal.build-index-requires
build-index-requires c = within_all (accepted_sizes _ _ c.requires.searchable.accepted)

pub settle_and_decide-requires-clause-walkable : goal.settle_and_decide-requires-clause-walkable
settle_and_decide-requires-clause-walkable c =
    start_walkable c.requires.searchable _ _ _ c.build-index.ensures.formula _ (is_err c.start-begun.result) c.start-begun.ensures

pub returns : goal.returns
returns c =
    c.settle_and_decide.ensures.walks ∙
    start_walk c.requires.searchable c.build-index.result c.start-begun.new.state c.start-begun.new.work c.build-index.ensures.formula c.args.allowance (is_err c.start-begun.result) c.start-begun.ensures
