-- No group where it is another fault.
use Rattle.std.proofs.Common.{arith}
use Rattle.general.specs.Appending.{append_nothing}
use Rattle.text.proofs.Words.{no_clause}
use Rattle.text.proofs.put_clause.Goals as goal

pub returns-in_default-clause-appended : goal.returns-in_default-clause-appended
returns-in_default-clause-appended c = no_clause c.args.fault c.in_default.not-UnknownVariable (append_nothing _ _ (omega (arith, c.requires)))
