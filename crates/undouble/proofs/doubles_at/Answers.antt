-- `doubles_at`: what was not gathered does not hold the root.
use Rattle.std.specs.Prelude.{is_err}
use Rattle.undouble.proofs.Along.{doubles_done}
use Rattle.undouble.proofs.doubles_at.Goals as goal

pub returns : goal.returns
returns c = doubles_done c.requires c.gather-n.ensures c.undoubles.new.state c.undoubles.new.work (is_err c.undoubles.result) c.undoubles.ensures
