-- io writes the digits.
use Rattle.text.proofs.Words.{digits_appended}
use Rattle.text.proofs.put_digits.Goals as goal

pub returns-clause-appended : goal.returns-clause-appended
returns-clause-appended c = search digits_appended
