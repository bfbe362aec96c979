-- From one clause of a table to the next.
use Rattle.std.specs.Prelude.{◌≡◌, ℕ, ◌+◌, ◌-◌, ◌<◌, ◌≤◌, Option, None, Some, length, drop}
use Rattle.std.specs.Iterator.{Count, at_most}
use Rattle.literal.specs.declared.ClauseNumber.{ClauseNumber}
use Rattle.clause.specs.declared.Clauses.{Clauses}
use Rattle.clause.specs.Reading.{group_length}

-- the clause at which s stands is passed, and t stands at the next one
pub record Passed (s : Clauses) (clause : ClauseNumber) (at : ℕ) (t : Clauses) : Type 0 where
  pub clause_here : clause ≡ s.clause
  pub here : at ≡ s.at
  pub inside : s.at < length s.of.table.now
  pub same : t.of ≡ s.of
  pub number : t.clause.0 ≡ s.clause.0 + 1
  pub next : t.at ≡ s.at + group_length (drop s.at s.of.table.now)

abbrev pub PassesClause : Clauses → Option (ClauseNumber × ℕ) → Clauses → Type 0
PassesClause s None t = length s.of.table.now ≤ s.at
PassesClause s (Some p) t = Passed s p.0 p.1 t

-- no more clauses come than elements
abbrev pub elements_left : Clauses → Count
elements_left s = at_most (length s.of.table.now - s.at)
