-- What code asks of an element of the list, and a call of Add: its answer, and the buffer after it.
use Rattle.std.specs.Prelude.{Bool, ◌&&◌, List, ℕ, ltb, leb, ℤ}
use Rattle.std.specs.Prelude.{Result}
use Rattle.receipt.specs.declared.Refusal.{Refusal}
use Rattle.theory.specs.Calls.{AddCall}

-- an element of size k is an entry of a placement from 1 to n
abbrev pub known : ℕ → ℕ → Bool
known n k = ltb 0 k && leb k n

abbrev pub called : Result ℕ Refusal → List ℤ → AddCall
called r b = record { answer = r; buffer = b }
