use Rattle.engine.proofs.Turns.{turned_looked}
use Rattle.engine.proofs.look_at_pairs.Goals as goal

pub returns : goal.returns
returns c = turned_looked c.requires.ready c.requires.twos_bound c.requires.blocks_end_nonzero (rw c.block_at-block.ensures at c.in_ok-look.ensures)
