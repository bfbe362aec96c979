-- The five parts of the two lists.
use Rattle.report.proofs.Lines.{lists_appended}
use Rattle.report.proofs.put_lists.Goals as goal

pub returns : goal.returns
returns c =
    lists_appended c.args.plan.now c.args.trail.now c.put_bytes-first.ensures c.put_words-choice.ensures.appended c.put_bytes-second.ensures
    c.put_words-path.ensures.appended c.put_bytes.ensures
