-- The two lists' room, and then what propagation ends in.
use Rattle.std.proofs.Common.{sym, ◌∙◌}
use Rattle.theory.proofs.Tables.{accepted_sizes, accepted_within}
use Rattle.theory.proofs.Propagation.{initial_well}
use Rattle.clause.proofs.Accepted.{accepted_readable}
use Rattle.settle.proofs.Calling.{call_dead, call_rest}
use Rattle.settle.proofs.settle_accepted.Goals as goal

pub propagate-requires : goal.propagate-requires
propagate-requires c =
    let a = c.args in
    record {
      readable = accepted_readable a.n a.table.now c.requires;
      within = accepted_within a.n a.table.now c.requires;
      well_formed = rw c.initial.ensures (initial_well a.n);
      n_le_max_variables = (accepted_sizes a.n a.table.now c.requires).variables;
    }

pub returns-in-None : goal.returns-in-None
returns-in-None c =
    call_dead _ _ _ _ c.requires (sym c.at_most.ensures ∙ c.in_ok-at_most.was) (sym c.at_most-2.ensures ∙ c.in_ok-at_most-2.was) c.propagate.result _
    c.propagate.ensures c.initial.ensures _ _ c.in-None.is c.clear.ensures c.clear-in-None.ensures

pub write_state-requires-clause-n_le_max_variables : goal.write_state-requires-clause-n_le_max_variables
write_state-requires-clause-n_le_max_variables c = (accepted_sizes c.args.n c.args.table.now c.requires).variables

pub write_reasons-requires-clause-n_le_max_variables : goal.write_reasons-requires-clause-n_le_max_variables
write_reasons-requires-clause-n_le_max_variables c = (accepted_sizes c.args.n c.args.table.now c.requires).variables

pub returns-in-Some : goal.returns-in-Some
returns-in-Some c =
    call_rest _ _ _ _ c.requires (sym c.at_most.ensures ∙ c.in_ok-at_most.was) (sym c.at_most-2.ensures ∙ c.in_ok-at_most-2.was) c.propagate.result _
    c.propagate.ensures c.initial.ensures _ _ c.in-Some.is c.write_state.ensures c.write_reasons.ensures
