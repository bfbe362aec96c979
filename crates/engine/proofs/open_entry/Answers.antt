use Rattle.engine.proofs.Two.{first_entry}
use Rattle.engine.proofs.open_entry.Goals as goal

pub returns : goal.returns
returns c = first_entry c.requires (rw c.start_of.ensures at c.open_place-i.ensures) c.value_of_code.ensures
