-- A command takes its bytes.
use Rattle.std.proofs.Common.{arith}
use Rattle.reader.proofs.Commands.{command_stands}
use Rattle.reader_cases.proofs.walk.Goals as goal

pub loop-at-smaller : goal.loop-at-smaller
loop-at-smaller c = omega (arith, (command_stands _ _ c.in-Ok.ensures).further)
