-- Rules 4 and 5: a variable that stands more than once in a wide clause.
use Rattle.std.specs.Prelude.{◌≡◌, Bool, true, false, ℕ, ◌*◌, ◌≤◌, ◌<◌, get_or}
use Rattle.literal.specs.Literal.{literal_at, max_variables, max_literals}
use Rattle.theory.specs.State.{standing}
use Rattle.theory.specs.Rules.{occurs}
use Rattle.theory.proofs.Counts.{mentions, Wide}
use Rattle.theory.proofs.Falls.{Falls}
use Rattle.occurrences.specs.Index.{Indexed, clause_count, clause_of, formula_of}
use Rattle.tally.specs.Tally.{state_in, value_in}
use Rattle.notes.specs.Notes.{Gathered}
use Rattle.moves.specs.Sound.{Sound}
use Rattle.moves.specs.Moving.{Went}
use Rattle.moves.specs.Stepping.{Died, Fell}
use Rattle.occurrences.specs.declared.Index.{Index}
use Rattle.tally.specs.declared.Tally.{Tally}
use Rattle.notes.specs.declared.Notes.{Notes}

-- how often the literal of a code stands in clause g
abbrev pub stood : (ix : Index) (st : Tally) → ℕ → ℕ → ℕ
stood ix st g x = occurs (literal_at x) (standing (state_in st) (clause_of ix g))

-- a clause of the index, and a variable
pub record Signable (ix : Index) (g r : ℕ) : Type 0 where
  pub index : Indexed ix
  pub clause : g < clause_count ix
  pub positive : 0 < r
  pub inside : r ≤ max_variables

-- variable r stands at most once in clause g, if that is wide
abbrev pub Once : (ix : Index) (st : Tally) → ℕ → ℕ → Type 0
Once ix st r g = Wide (standing (state_in st) (clause_of ix g)) → mentions r (standing (state_in st) (clause_of ix g)) ≤ 1

-- and in every clause
abbrev pub OnceIn : (ix : Index) (st : Tally) → ℕ → Type 0
OnceIn ix st r = (g : ℕ) → g < clause_count ix → Once ix st r g

-- a clause and a variable; which may be decided
pub record Doubling (ix : Index) (st : Tally) (wk : Notes) (g r : ℕ) : Type 0 where
  pub sound : Sound ix st wk
  pub clause : g < clause_count ix
  pub positive : 0 < r
  pub inside : r ≤ max_variables

pub record Undoubled (ix : Index) (st : Tally) (wk : Notes) (g r : ℕ) (st' : Tally) (wk' : Notes) (dead : Bool) : Type 0 where
  pub fell : Fell ix st wk st' wk' dead
  pub once : dead ≡ false → Once ix st' r g

-- the clauses that were gathered
pub record DoublingAll (ix : Index) (st : Tally) (wk : Notes) (n r : ℕ) : Type 0 where
  pub sound : Sound ix st wk
  pub few : n ≤ max_literals
  pub clauses : (i : ℕ) → i < n → get_or wk.gathered i 0 < clause_count ix
  pub positive : 0 < r
  pub inside : r ≤ max_variables

pub record UndoubledAll (ix : Index) (st : Tally) (wk : Notes) (n r : ℕ) (st' : Tally) (wk' : Notes) (dead : Bool) : Type 0 where
  pub fell : Fell ix st wk st' wk' dead
  pub once : dead ≡ false → (g : ℕ) → Gathered wk 0 n g → Once ix st' r g

-- r is an open root
pub record OpenRoot (ix : Index) (st : Tally) (wk : Notes) (r : ℕ) : Type 0 where
  pub sound : Sound ix st wk
  pub positive : 0 < r
  pub inside : r ≤ max_variables
  pub root : value_in st r ≡ 2 * r

-- after a dead end (true) nothing is known of the state and the lists
abbrev pub DoublesOf : (ix : Index) (st : Tally) (wk : Notes) → ℕ → (st' : Tally) (wk' : Notes) → Bool → Type 0
DoublesOf ix st wk r st' wk' true = Died (formula_of ix) (state_in st)
DoublesOf ix st wk r st' wk' false = Falls (formula_of ix) (state_in st) (state_in st') × Went ix st wk st' wk' × OnceIn ix st' r
