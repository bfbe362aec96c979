-- A call of Settle: its answer, and both lists after it.
use Rattle.std.specs.Prelude.{List, ℕ, ℤ, Result}
use Rattle.receipt.specs.declared.Settling.{Settling}
use Rattle.receipt.specs.declared.Refusal.{Refusal}
use Rattle.theory.specs.Calls.{SettleCall}

abbrev pub called : Result Settling Refusal → List ℤ → List ℕ → SettleCall
called r l m = record { answer = r; list = l; reasons = m }
