-- By the laws of Outputs.
use Rattle.std.proofs.Common.{ap, ◌∙◌, arith}
use Rattle.typed.specs.Typed.{message_of, filing_output}
use Rattle.typed.proofs.Outputs.{too_long, short, message_written, writes}
use Rattle.typed.proofs.strip_of.Goals as goal

pub returns-then-text-gt-MAX_TEXT : goal.returns-then-text-gt-MAX_TEXT
returns-then-text-gt-MAX_TEXT c = let w = message_written _ c.put_place.ensures (too_long _ c.if-text-gt-MAX_TEXT.true) in record { output = w.0; length = w.1 }

pub returns-in-Err : goal.returns-in-Err
returns-in-Err c =
    let read = ap filing_output c.in-Err.ensures.filing ∙ short _ c.if-text-gt-MAX_TEXT.false in
    let w = message_written _ c.put_place-in-Err.ensures read in
    record { output = w.0; length = w.1 }

pub returns-in-Ok-save : goal.returns-in-Ok-save
returns-in-Ok-save c =
    let read = ap filing_output c.in-Ok.ensures.filing ∙ short _ c.if-text-gt-MAX_TEXT.false in
    let w = writes _ _ _ (omega arith) c.in-Ok-save.ensures read in
    record { output = w.0; length = w.1 }

pub returns-in-Err-save : goal.returns-in-Err-save
returns-in-Err-save c =
    let read = ap filing_output c.in-Ok.ensures.filing ∙ short _ c.if-text-gt-MAX_TEXT.false in
    let w = writes _ _ _ (omega arith) c.in-Err-save.ensures read in
    let m = rw w.1 at (message_written (message_of c.put_refusal-length.result) c.put_refusal-length.ensures w.0) in
    record { output = m.0; length = m.1 }
