use Rattle.std.proofs.Common.{◌≡◌, ◌<◌, length}
use Rattle.report_cases.proofs.repeat.Given as goal

abbrev pub invariant-loop-i : goal.invariant-loop-i
invariant-loop-i l = (l.k < length l.part) × (length l.strip ≡ length l.fn.strip)
