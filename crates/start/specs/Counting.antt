-- The first counts, of clauses all of whose literals are open.
use Rattle.std.specs.Prelude.{◌≡◌, Bool, true, false, List, ℕ, ◌≤◌, ◌<◌, get_or, length}
use Rattle.literal.specs.Literal.{variables}
use Rattle.theory.specs.State.{initial}
use Rattle.occurrences.specs.Index.{clause_of, formula_of}
use Rattle.tally.specs.Tally.{state_in}
use Rattle.moves.specs.Sound.{Sound}
use Rattle.moves.specs.Stepping.{Died}
use Rattle.engine.specs.Short.{Short}
use Rattle.start.specs.Opening.{OpenBelow}
use Rattle.occurrences.specs.declared.Index.{Index}
use Rattle.tally.specs.declared.Tally.{Tally}
use Rattle.notes.specs.declared.Notes.{Notes}

-- the clauses below n: none is empty, and those with two literals or fewer are the first `end` noted ones
pub record CountedBelow (ix : Index) (t : Tally) (w : Notes) (end n : ℕ) : Type 0 where
  pub opened : OpenBelow t variables
  pub counts : (g : ℕ) → g < n → get_or t.counts g 0 ≡ length (clause_of ix g)
  pub never : (g : ℕ) → g < n → 0 < length (clause_of ix g)
  pub noted : (g : ℕ) → g < n → length (clause_of ix g) < 3 → (i : ℕ) × (i < end) × (get_or w.todo i 0 ≡ g)
  pub inside : (i : ℕ) → i < end → get_or w.todo i 0 < n
  pub few : end ≤ n

-- no step was made, and no block is listed
pub record Fresh (ix : Index) (st : Tally) (wk : Notes) : Type 0 where
  pub initially : state_in st ≡ initial
  pub sound : Sound ix st wk
  pub short : Short ix st wk 0 0

-- an empty clause is a dead end (true)
abbrev pub CountsOf : (ix : Index) (st' : Tally) (wk' : Notes) → Bool → Type 0
CountsOf ix st' wk' true = Died (formula_of ix) initial
CountsOf ix st' wk' false = Fresh ix st' wk'
