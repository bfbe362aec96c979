-- By the laws of Compares.
use Rattle.meet.proofs.Compares.{compares_asks, compares_goes, compares_met}
use Rattle.meet.proofs.first_met.Goals as goal

pub meet_wide-requires : goal.meet_wide-requires
meet_wide-requires c = compares_asks c.loop-i.invariant c.loop-i-test.true c.gathered_at-h.ensures

pub returns-in-Some : goal.returns-in-Some
returns-in-Some c = compares_met c.loop-i.invariant c.loop-i-test.true c.gathered_at-h.ensures c.in-Some.met c.in-Some.ensures

pub loop-i-preserved : goal.loop-i-preserved
loop-i-preserved c = compares_goes c.loop-i.invariant c.loop-i-test.true c.gathered_at-h.ensures c.in_default.ensures
