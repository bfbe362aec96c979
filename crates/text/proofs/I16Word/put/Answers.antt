-- An entry is read back as it is, so its size has at most five digits.
use Rattle.std.proofs.Common.{◌∙◌}
use Rattle.text.proofs.Entries.{negative_entry, other_entry}
use Rattle.text.proofs.I16Word.put.Goals as goal

pub returns-then-self-lt0 : goal.returns-then-self-lt0
returns-then-self-lt0 c =
    let both = negative_entry c.args.self c.ranges.self (c.from-size.ensures ∙ c.size.ensures) c.if-self-lt0.true c.put_bytes-next.ensures c.put_digits.ensures.appended in
    record { appended = both.0; upper_bound = both.1 }

pub returns : goal.returns
returns c =
    let both = other_entry c.args.self c.ranges.self (c.from-size.ensures ∙ c.size.ensures) c.if-self-lt0.false c.put_number.ensures.appended in
    record { appended = both.0; upper_bound = both.1 }
