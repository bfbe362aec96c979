-- The outcome and the count, and the lists of a layout.
use Rattle.std.proofs.Common.{◌≡◌, ⊎_elim, arith}
use Rattle.general.specs.Appending.{append_nothing, appended_length}
use Rattle.receipt.specs.declared.Outcome.TheVariants.{NoLayout, Stopped}
use Rattle.report.proofs.Lines.{ended_appended}
use Rattle.report.proofs.put_ended.Goals as goal

pub returns-in-LaidOut : goal.returns-in-LaidOut
returns-in-LaidOut c = ended_appended _ _ _ _ c.put_outcome-word.ensures.appended c.put_count-splits.ensures.appended (rw c.in-LaidOut.is c.put_lists.ensures)

pub returns-in-NoLayout : goal.returns-in-NoLayout
returns-in-NoLayout c =
    let k = c.put_count-splits.ensures.appended in
    let nothing = append_nothing c.put_count-splits.new.out c.put_count-splits.result (omega (arith, appended_length k, k.room)) in
    ended_appended _ _ _ _ c.put_outcome-word.ensures.appended k
    (⊎_elim (λ (e : c.args.outcome ≡ NoLayout). rw e nothing) (λ (e : c.args.outcome ≡ Stopped). rw e nothing) c.in-NoLayout.is)
