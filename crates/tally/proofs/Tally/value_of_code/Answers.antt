-- `value_of_code` meets its contract.
use Rattle.tally.proofs.Values.{value_code}
use Rattle.tally.proofs.Tally.value_of_code.Goals as goal

pub returns : goal.returns
returns c = value_code c.args.self.now.values c.args.code c.requires
