-- The placements, the elements of the table and the end.
use Rattle.std.proofs.Common.{arith}
use Rattle.general.specs.Appending.{append_both, appended_length}
use Rattle.save.proofs.Elements.{strip_whole, strip_parts}
use Rattle.save.proofs.put_strip.Goals as goal

pub put_command-placements-requires : goal.put_command-placements-requires
put_command-placements-requires c =
    let r = c.requires in
    omega (arith, r.table_in_bounds, strip_parts c.args.n c.args.table.now r.table_value)

pub put_elements-groups-requires : goal.put_elements-groups-requires
put_elements-groups-requires c =
    let r = c.requires in
    let p = c.put_command-placements.ensures in
    omega (arith, r.table_in_bounds, strip_parts c.args.n c.args.table.now r.table_value, p.ends, appended_length p)

pub put_mark-requires : goal.put_mark-requires
put_mark-requires c =
    let r = c.requires in
    let p = c.put_command-placements.ensures in
    let e = c.put_elements-groups.ensures in
    omega (arith, r.table_in_bounds, strip_parts c.args.n c.args.table.now r.table_value, p.ends, e.ends, appended_length (append_both p e))

pub returns : goal.returns
returns c =
    rw (← strip_whole c.args.n c.args.table.now c.requires.table_value)
    (append_both c.put_command-placements.ensures (append_both c.put_elements-groups.ensures c.put_mark.ensures))
