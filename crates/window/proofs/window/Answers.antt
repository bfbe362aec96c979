-- A short receipt, or what solving the strip puts on it.
use Rattle.std.proofs.Common.{ap, ◌∙◌}
use Rattle.theory.specs.Calls.{over, receipt_length, receipt_bytes}
use Rattle.window.proofs.Calling.{call_short, answer_place, call_written}
use Rattle.window.proofs.window.Goals as goal

pub returns-then-receipt-lt-RECEIPT_LENGTH : goal.returns-then-receipt-lt-RECEIPT_LENGTH
returns-then-receipt-lt-RECEIPT_LENGTH c = rw c.number.ensures (call_short _ _ _ c.args.receipt.now c.if-receipt-lt-RECEIPT_LENGTH.true)

pub write_receipt-requires-clause-place_le_max_strip :
    goal.write_receipt-requires-clause-place_le_max_strip
write_receipt-requires-clause-place_le_max_strip c = rw c.searching_receipt-written.ensures (answer_place _ _ _ _ _ _ _ c.solve-solved.ensures.call)

pub returns : goal.returns
returns c =
    let stamped = c.searching_receipt-written.ensures in
    rw stamped
    (call_written _ _ _ c.args.receipt.now _ _ _ c.solve-solved.ensures.call _ c.if-receipt-lt-RECEIPT_LENGTH.false
    (c.write_receipt.ensures ∙ ap (λ x. over receipt_length (receipt_bytes x) c.args.receipt.now) stamped))
