-- What the checks refuse changes nothing, and what passes has room.
use Rattle.std.proofs.Common.{rules, ◌≡◌, sym, ◌∙◌}
use Rattle.std.specs.Prelude.{Err}
use Rattle.theory.specs.Calls.{add_call}
use Rattle.add.proofs.add.Goals as goal

pub returns-in_err-check_added : goal.returns-in_err-check_added
unfolding add_call
returns-in_err-check_added c =
    let e : c.from_residual.result ≡ Err c.in_err-check_added.field-0.0 = search rules in
    rw (e, sym c.check_added.ensures ∙ c.in_err-check_added.was)

pub returns : goal.returns
unfolding add_call
returns c = rw (sym c.check_added.ensures ∙ c.in_ok-check_added.was, c.store.ensures)
