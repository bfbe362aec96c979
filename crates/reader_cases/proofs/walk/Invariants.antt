use Rattle.std.proofs.Common.{◌-◌, length}
use Rattle.reader_cases.proofs.walk.Given as goal

abbrev pub decreases-loop-at : goal.decreases-loop-at
decreases-loop-at l = length l.strip - l.at
