-- A call of Take back: its answer, and the buffer after it.
use Rattle.std.specs.Prelude.{List, ℕ, ℤ, Result}
use Rattle.receipt.specs.declared.Refusal.{Refusal}
use Rattle.theory.specs.Calls.{TakeBackCall}

abbrev pub called : Result ℕ Refusal → List ℤ → TakeBackCall
called r b = record { answer = r; buffer = b }
