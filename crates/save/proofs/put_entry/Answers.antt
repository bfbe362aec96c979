-- Sign by sign.
use Rattle.theory.specs.Encoding.{entry_bytes}
use Rattle.save.proofs.put_entry.Goals as goal

pub returns-in-Pos : goal.returns-in-Pos
unfolding entry_bytes
returns-in-Pos c = rw c.in-Pos.is c.put_command.ensures

pub returns-in-Neg : goal.returns-in-Neg
unfolding entry_bytes
returns-in-Neg c = rw c.in-Neg.is c.put_command-in-Neg.ensures
