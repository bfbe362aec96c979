-- The starred filings have the results that document 01 gives: one list, one fact.
use mathlib.Core.Path.{◌≡◌, refl}
use mathlib.Core.List.{map}
use Rattle.std.specs.Prelude.{option_and_then}
use Rattle.std.specs.Option.{option_or}
use Rattle.general.specs.Lists.{from}
use Rattle.general.specs.Search.{find, first_place, any}
use Rattle.theory.specs.Formula.{clauses}
use Rattle.theory.specs.State.{standing}
use Rattle.theory.specs.Rules.{occurs}
use Rattle.theory.specs.Propagation.{first_clause, first_pair, ask, propagate}
use Rattle.theory.specs.Table.{zeros, nonzeros, ends_open, check}
use Rattle.theory.specs.Tree.{tree, limited}
use Rattle.theory.specs.Search.{live_variables, lowest, branch_variable, choice_of, decide, tree_of, search}
use Rattle.theory.specs.Calls.{search_call}
use Rattle.theory.specs.Filings.{try, expected, starred}

pub starred_hold : map try starred ≡ map expected starred
unfolding starred try expected search_call check zeros nonzeros ends_open first_place search tree_of decide tree limited propagate ask first_clause first_pair standing occurs find any clauses live_variables lowest branch_variable choice_of from
starred_hold = refl
