-- The digits follow the space.
use Rattle.text.proofs.Words.{word_appended}
use Rattle.text.proofs.put_number.Goals as goal

pub returns-clause-appended : goal.returns-clause-appended
returns-clause-appended c = search word_appended
