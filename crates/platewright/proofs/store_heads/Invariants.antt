-- In both lists the heads from k on are still to be stored.
use Rattle.platewright.specs.Heads.{start_of, entries_of}
use Rattle.platewright.proofs.Heads.{Storing}
use Rattle.platewright.proofs.store_heads.Given as goal

abbrev pub invariant-loop-k : goal.invariant-loop-k
invariant-loop-k l = record {
  starts : Storing start_of l.count l.table l.fn.starts l.starts l.at l.k;
  entries : Storing entries_of l.count l.table l.fn.entries l.entries l.at l.k;
}
