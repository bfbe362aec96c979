use Rattle.text.specs.Text.{codes}
use Rattle.text.proofs.Words.{words_appended, line_appended}
use Rattle.text.proofs.put_refusal.Goals as goal

pub returns : goal.returns
returns c =
    let last = words_appended _ _ c.put_number-second.ensures.appended c.put_clause-third.ensures.appended in
    let numbers = words_appended _ _ c.put_number-first.ensures.appended last in
    rw (c.from-number.ensures, c.number.ensures) at (line_appended (codes "refused") _ c.put_bytes-word.ensures numbers c.put_bytes.ensures)
