-- All that was decoded is copied.
use Rattle.std.proofs.Common.{◌≡◌, sym, ap, ◌∙◌, rules}
use native.Mathlib.Nat.{zero-add}
use Rattle.std.specs.Prelude.{Ok, Err}
use Rattle.strip.specs.Decoding.{decoding_of, called}
use Rattle.strip.proofs.Decodings.{in_room, in_cells, read_call_lem, refused_call}
use Rattle.strip.proofs.read.Goals as goal

pub returns-in_err-decoded : goal.returns-in_err-decoded
returns-in_err-decoded c =
    let e : c.from_residual.result ≡ Err c.in_err-decoded.field-0.0 = search rules in
    rw e (refused_call _ _ _ (rw c.in_err-decoded.was at c.decode.ensures))

pub copy-requires-clause-n_in_bounds : goal.copy-requires-clause-n_in_bounds
copy-requires-clause-n_in_bounds c = rw zero-add (in_room _ _ c.in_ok-decoded.decoded (rw c.in_ok-decoded.was at c.decode.ensures))

pub copy-requires-clause-n_in_bounds_2 : goal.copy-requires-clause-n_in_bounds_2
copy-requires-clause-n_in_bounds_2 c = in_cells _ _ c.in_ok-decoded.decoded (rw c.in_ok-decoded.was at c.decode.ensures)

pub returns : goal.returns
returns c =
    let d = c.in_ok-decoded.decoded in
    ap (called (Ok d.read)) (rw zero-add at c.copy.ensures) ∙ read_call_lem _ _ d (rw c.in_ok-decoded.was at c.decode.ensures)
