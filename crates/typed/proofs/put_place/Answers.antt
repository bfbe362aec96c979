-- A line of two words.
use Rattle.text.proofs.Words.{line_appended}
use Rattle.typed.proofs.put_place.Goals as goal

pub returns : goal.returns
returns c = line_appended _ _ c.put_bytes-word.ensures c.put_number-number.ensures.appended c.put_bytes-length.ensures
