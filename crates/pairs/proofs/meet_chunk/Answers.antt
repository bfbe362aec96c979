-- By the laws of Chunks.
use Rattle.std.proofs.Common.{◌≡◌, Err, rules}
use Rattle.moves.proofs.Dying.{died_after}
use Rattle.pairs.proofs.Chunks.{chunks_begin, chunks_end, chunks_go}
use Rattle.pairs.proofs.meet_chunk.Goals as goal

pub loop-rows-init : goal.loop-rows-init
loop-rows-init c = chunks_begin c.requires

pub returns-then-rows-i : goal.returns-then-rows-i
returns-then-rows-i c = chunks_end c.loop-rows.invariant c.next_row-i.result c.next_row-i.ensures c.if-rows-i.true

pub returns-in_err-meet_row : goal.returns-in_err-meet_row
returns-in_err-meet_row c =
    let e : c.from_residual.result ≡ Err c.in_err-meet_row.field-0.0 = search rules in
    rw e (died_after c.loop-rows.invariant.looking.at.steps.1 c.in_err-meet_row.ensures)

pub loop-rows-preserved : goal.loop-rows-preserved
loop-rows-preserved c =
    chunks_go c.loop-rows.invariant c.next_row-i.result c.next_row-i.ensures c.if-rows-i.false c.gathered_at-g.result c.gathered_at-g.ensures
    c.in_ok-meet_row.ensures
