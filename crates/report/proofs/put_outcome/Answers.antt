-- The words of each outcome.
use Rattle.text.specs.Text.{spaced}
use Rattle.report.proofs.Lines.{outcome_appended}
use Rattle.report.proofs.put_outcome.Goals as goal

pub returns-in-LaidOut-clause-appended : goal.returns-in-LaidOut-clause-appended
unfolding spaced
returns-in-LaidOut-clause-appended c = outcome_appended _ _ c.in-LaidOut.is c.put_bytes.ensures

pub returns-in-NoLayout-clause-appended : goal.returns-in-NoLayout-clause-appended
unfolding spaced
returns-in-NoLayout-clause-appended c = outcome_appended _ _ c.in-NoLayout.is c.put_bytes-in-NoLayout.ensures

pub returns-in-Stopped-clause-appended : goal.returns-in-Stopped-clause-appended
unfolding spaced
returns-in-Stopped-clause-appended c = outcome_appended _ _ c.in-Stopped.is c.put_bytes-in-Stopped.ensures
