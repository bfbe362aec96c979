-- Of the clauses that were gathered for a tie those that hold the lower class too: only in them does its root stand twice.
use Rattle.std.specs.Prelude.{◌≡◌, Bool, true, false, List, ℕ, ◌+◌, ◌-◌, ◌/◌, ◌≤◌, ◌<◌, ltb, get_or}
use Rattle.literal.specs.Literal.{max_literals}
use Rattle.theory.specs.State.{standing}
use Rattle.theory.proofs.Counts.{mentions, Wide, Holds}
use Rattle.occurrences.specs.Index.{clause_count, clause_of, start_at}
use Rattle.tally.specs.Tally.{state_in}
use Rattle.gather.specs.Gathering.{KeptFrom}
use Rattle.occurrences.specs.declared.Index.{Index}
use Rattle.tally.specs.declared.Tally.{Tally}
use Rattle.notes.specs.declared.Notes.{Notes}

-- a clause of so many literals is read faster than the clauses of a class are stamped; where there are many, each literal fewer is worth so many more
abbrev pub short : ℕ
short = 5

abbrev pub many : ℕ
many = 8

-- n clauses such as clause g have more, or there are many
abbrev pub are_long : Index → ℕ → ℕ → Bool
are_long ix g n = ltb short (start_at ix (g + 1) - 1 - start_at ix g + n / many)

-- clause g is stamped
abbrev pub Stamped : List Bool → ℕ → Type 0
Stamped stamps g = get_or stamps g false ≡ true

-- the clauses that hold variable p are stamped as well
pub record StampedBy (ix : Index) (stamps : List Bool) (p : ℕ) (stamps' : List Bool) : Type 0 where
  pub kept : (g : ℕ) → Stamped stamps g → Stamped stamps' g
  pub all : (g : ℕ) → g < clause_count ix → Holds p (clause_of ix g) → Stamped stamps' g

-- clause g is wide and mentions r
abbrev pub WideWith : (ix : Index) (st : Tally) → ℕ → ℕ → Type 0
WideWith ix st r g = (g < clause_count ix) × Wide (standing (state_in st) (clause_of ix g)) × (0 < mentions r (standing (state_in st) (clause_of ix g)))

-- and all of these are stamped
pub record StampedAll (ix : Index) (st : Tally) (r : ℕ) (stamps : List Bool) : Type 0 where
  pub all : (g : ℕ) → WideWith ix st r g → Stamped stamps g

-- n clauses were gathered from place 0 on
pub record Keeping (wk : Notes) (clauses n : ℕ) : Type 0 where
  pub few : n ≤ max_literals
  pub inside : (i : ℕ) → i < n → get_or wk.gathered i 0 < clauses

-- the first m of them now: all of a kind, and none that were not gathered; those from place n on stay
abbrev pub Kept : (ℕ → Type 0) → Notes → ℕ → Notes → ℕ → Type 0
Kept Of wk = KeptFrom Of wk 0
