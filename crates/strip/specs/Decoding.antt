-- What decoding a strip answers, and a call of Read.
use Rattle.std.specs.Prelude.{List, ℤ, take}
use Rattle.std.specs.Prelude.{Result, Ok, Err}
use Rattle.receipt.specs.declared.Read.{Read}
use Rattle.receipt.specs.declared.Refusal.{Refusal}
use Rattle.theory.specs.Strip.{Decoding, not_read}
use Rattle.theory.specs.Calls.{ReadCall}
use Rattle.strip.specs.declared.Decoded.{Decoded}

-- the cells past the used length are free
abbrev pub decoding_of : Result Decoded Refusal → Decoding
decoding_of (Ok d) = record { reading = Ok d.read; table = take d.read.used d.cells }
decoding_of (Err r) = not_read r

-- a call of Read: its answer, and the table after it
abbrev pub called : Result Read Refusal → List ℤ → ReadCall
called r t = record { answer = r; table = t }
