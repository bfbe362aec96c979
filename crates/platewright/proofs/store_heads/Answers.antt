-- A head in each turn, in both lists.
use Rattle.platewright.proofs.Heads.{storing_turned, storing_ended}
use Rattle.platewright.proofs.store_heads.Goals as goal

pub loop-k-preserved : goal.loop-k-preserved
loop-k-preserved c =
    let i = c.loop-k.invariant in record {
      starts = storing_turned _ _ _ _ _ _ _ i.starts _ c.next_head-next.ensures c.loop-k-test.true;
      entries = storing_turned _ _ _ _ _ _ _ i.entries _ c.next_head-next.ensures c.loop-k-test.true;
    }

pub returns : goal.returns
returns c =
    let i = c.loop-k.invariant in record {
      starts = storing_ended _ _ _ _ _ _ _ i.starts c.loop-k-test.false;
      entries = storing_ended _ _ _ _ _ _ _ i.entries c.loop-k-test.false;
    }
