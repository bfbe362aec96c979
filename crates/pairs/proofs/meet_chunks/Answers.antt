-- By the laws of Chunks.
use Rattle.std.proofs.Common.{◌≡◌, ◌+◌, Err, rules, arith}
use Rattle.moves.proofs.Dying.{died_after}
use Rattle.pairs.proofs.Chunks.{parts_begin, parts_go, parts_end}
use Rattle.pairs.proofs.meet_chunks.Goals as goal

pub loop-from-init : goal.loop-from-init
loop-from-init c = parts_begin c.requires

pub returns-in_err-meet_chunk : goal.returns-in_err-meet_chunk
returns-in_err-meet_chunk c =
    let e : c.from_residual.result ≡ Err c.in_err-meet_chunk.field-0.0 = search rules in
    rw e (died_after c.loop-from.invariant.looking.at.steps.1 c.in_err-meet_chunk.ensures)

-- another chunk is left
pub loop-from-preserved : goal.loop-from-preserved
loop-from-preserved c =
    let e : c.min-to.result ≡ c.loop-from.from + c.max-length.result = omega (arith, c.min-to.ensures) in
    rw e at (parts_go c.loop-from.invariant c.min-to.result (omega (arith, c.max-length.ensures)) c.in_ok-meet_chunk.ensures)

-- or none is
pub returns-in_ok-meet_chunk : goal.returns-in_ok-meet_chunk
returns-in_ok-meet_chunk c =
    parts_end (parts_go c.loop-from.invariant c.min-to.result (omega (arith, c.min-to.ensures, c.max-length.ensures)) c.in_ok-meet_chunk.ensures)
    (omega (arith, c.min-to.ensures))

pub returns : goal.returns
returns c = parts_end c.loop-from.invariant c.loop-from-test.false
