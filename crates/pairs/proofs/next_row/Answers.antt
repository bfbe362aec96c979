-- By the laws of Chunks.
use Rattle.pairs.proofs.Chunks.{next_seen}
use Rattle.pairs.proofs.next_row.Goals as goal

pub returns : goal.returns
returns c = next_seen c.requires c.see_chunk-seen.ensures c.first_row.ensures
