-- Rules 4 and 5 for each variable in turn.
use Rattle.std.specs.Prelude.{◌≡◌, Bool, true, false, List, ℕ, ◌+◌, ◌-◌, ◌≤◌, ◌<◌}
use Rattle.literal.specs.Literal.{max_variables}
use Rattle.theory.specs.State.{initial}
use Rattle.theory.proofs.Counts.{mentions}
use Rattle.theory.proofs.DistinctBut.{DistinctBut}
use Rattle.theory.proofs.Falls.{Falls}
use Rattle.occurrences.specs.Index.{clause_count, clause_of, first_at, formula_of, occurrence_at}
use Rattle.tally.specs.Tally.{state_in}
use Rattle.moves.specs.Sound.{Sound}
use Rattle.moves.specs.Moving.{Went}
use Rattle.moves.specs.Stepping.{Died}
use Rattle.occurrences.specs.declared.Index.{Index}
use Rattle.tally.specs.declared.Tally.{Tally}
use Rattle.notes.specs.declared.Notes.{Notes}

-- what rules 4 and 5 are tried in
pub record Undoubling (ix : Index) (st : Tally) (wk : Notes) : Type 0 where
  pub sound : Sound ix st wk
  pub path : Falls (formula_of ix) initial (state_in st)

-- variable p stands at most once in each clause as it is written
abbrev pub WrittenOnce : (ix : Index) → ℕ → Type 0
WrittenOnce ix p = (g : ℕ) → g < clause_count ix → mentions p (clause_of ix g) ≤ 1

-- of variable p the occurrence at place j is that before it
pub record DoubledAt (ix : Index) (p j : ℕ) : Type 0 where
  pub after : first_at ix p < j
  pub before : j < first_at ix (p + 1)
  pub same : occurrence_at ix j ≡ occurrence_at ix (j - 1)

-- one is o
abbrev pub Doubled : (ix : Index) → ℕ → ℕ → Type 0
Doubled ix p o = (j : ℕ) × DoubledAt ix p j × (o ≡ occurrence_at ix j)

-- the variables below n stand at most once in each wide clause
pub record UndoubledBelow (ix : Index) (st : Tally) (wk : Notes) (st' : Tally) (wk' : Notes) (n : ℕ) : Type 0 where
  pub path : Falls (formula_of ix) (state_in st) (state_in st')
  pub went : Went ix st wk st' wk'
  pub distinct : DistinctBut (λ p. n ≤ p) (formula_of ix) (state_in st')

-- after a dead end (true) nothing is known of the state and the lists
abbrev pub UndoubledOf : (ix : Index) (st : Tally) (wk : Notes) (st' : Tally) (wk' : Notes) → Bool → Type 0
UndoubledOf ix st wk st' wk' true = Died (formula_of ix) (state_in st)
UndoubledOf ix st wk st' wk' false = UndoubledBelow ix st wk st' wk' (max_variables + 1)
