-- The clauses that rules 1, 2, 3 and 6 may fit, by their counts: all of them are noted, and two cursors say from where on.
use Rattle.std.specs.Prelude.{◌≡◌, ◌⊎◌, ℕ, ◌<◌}
use mathlib.Core.List.{Memᴰ}
use Rattle.literal.specs.declared.Literal.{Literal}
use Rattle.literal.specs.Literal.{opposite}
use Rattle.theory.specs.Formula.{Clause}
use Rattle.theory.specs.State.{standing}
use Rattle.occurrences.specs.Index.{clause_count, clause_of}
use Rattle.tally.specs.Tally.{state_in, count_in}
use Rattle.tally.specs.Counts.{one_true}
use Rattle.notes.specs.Notes.{Noted}
use Rattle.occurrences.specs.declared.Index.{Index}
use Rattle.tally.specs.declared.Tally.{Tally}
use Rattle.notes.specs.declared.Notes.{Notes}

-- one open and none true, or one true and some open: rule 2 or 3 fits
abbrev pub Unit : Tally → ℕ → Type 0
Unit st g = (count_in st g ≡ 1) ⊎ (one_true < count_in st g)

-- no clause is a dead end, and each that rule 2 or 3 fits is noted from index `at` on
pub record Units (ix : Index) (st : Tally) (wk : Notes) (at : ℕ) : Type 0 where
  pub never : (g : ℕ) → g < clause_count ix → 0 < count_in st g
  pub noted : (g : ℕ) → g < clause_count ix → Unit st g → Noted wk at g

-- a literal and its opposite stand
abbrev pub Resting : Clause → Type 0
Resting d = (y : Literal) × Memᴰ y d × Memᴰ (opposite y) d

-- and each with two open and none true that is not at rest is noted from index `next` on
pub record Short (ix : Index) (st : Tally) (wk : Notes) (at next : ℕ) : Type 0 where
  pub units : Units ix st wk at
  pub twos : (g : ℕ) → g < clause_count ix → count_in st g ≡ 2 → Resting (standing (state_in st) (clause_of ix g)) ⊎ Noted wk next g
