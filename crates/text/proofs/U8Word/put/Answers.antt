-- At most three digits.
use Rattle.std.proofs.Common.{arith}
use Rattle.text.specs.Text.{decimal}
use Rattle.text.proofs.Digits.{length_decimal}
use Rattle.text.proofs.Words.{length_spaced}
use Rattle.text.proofs.U8Word.put.Goals as goal

pub returns-clause-upper_bound : goal.returns-clause-upper_bound
returns-clause-upper_bound c =
    let v = c.from.result in
    omega (arith, c.put_number.ensures.appended.ends, length_spaced (decimal v), length_decimal v 2 (omega (arith, c.ranges.self, c.from.ensures)))
