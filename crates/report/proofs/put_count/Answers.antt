-- The line of the count.
use Rattle.text.specs.Text.{codes}
use Rattle.text.proofs.Words.{line_appended}
use Rattle.report.proofs.put_count.Goals as goal

pub returns-clause-appended : goal.returns-clause-appended
returns-clause-appended c = rw c.from.ensures at (line_appended (codes "count") _ c.put_bytes-word.ensures c.put_number-number.ensures.appended c.put_bytes.ensures)
