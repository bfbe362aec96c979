-- Three bytes, one after the other.
use Rattle.general.specs.Appending.{append_both}
use Rattle.save.proofs.put_command.Goals as goal

pub returns : goal.returns
returns c = append_both c.put_mark-high.ensures (append_both c.put_byte-low.ensures c.put_byte.ensures)
