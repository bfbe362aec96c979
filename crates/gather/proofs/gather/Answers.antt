-- `gather` meets its contract: the ring of a root is a stretch.
use Rattle.std.proofs.Common.{arith}
use Rattle.gather.proofs.Gathers.{ring, root_stretch, root_gathered}
use Rattle.gather.proofs.gather.Goals as goal

pub gather_stretch-requires : goal.gather_stretch-requires
gather_stretch-requires c =
    let a = c.requires in
    record { index = a.index; room = omega arith; stretch = ((ring a).others, rw c.link_of.ensures (root_stretch a)) }

pub returns : goal.returns
returns c = root_gathered c.requires (rw c.link_of.ensures at c.gather_stretch.ensures)
