-- An open literal becomes false with its class; the open literals of a clause but those of one variable do.
use Rattle.std.specs.Prelude.{◌≡◌, Bool, true, false, ◌⊎◌, ℕ, ◌+◌, ◌*◌, ◌/◌, ◌≤◌, ◌<◌}
use mathlib.Core.List.{Memᴰ}
use Rattle.literal.specs.declared.Literal.{Literal}
use Rattle.literal.specs.Literal.{FALSE, var, literal_at, codes}
use Rattle.theory.specs.Formula.{Clause}
use Rattle.theory.specs.State.{State, value, assign, standing}
use Rattle.occurrences.specs.Index.{clause_count, clause_of}
use Rattle.tally.specs.Tally.{state_in, value_in}
use Rattle.tally.specs.Counts.{trues_of, opens_of}
use Rattle.moves.specs.Sound.{Sound}
use Rattle.moves.specs.Moving.{Moved}
use Rattle.occurrences.specs.declared.Index.{Index}
use Rattle.tally.specs.declared.Tally.{Tally}
use Rattle.notes.specs.declared.Notes.{Notes}

-- "two true entries, or none true and none open": a clause of the index is a dead end
pub record DeadIn (ix : Index) (s : State) : Type 0 where
  pub clause : ℕ
  pub inside : clause < clause_count ix
  pub dead : (2 ≤ trues_of s (clause_of ix clause)) ⊎ (opens_of s (clause_of ix clause) + trues_of s (clause_of ix clause) ≡ 0)

-- x is the code of a literal of an open root
pub record Decidable (ix : Index) (st : Tally) (wk : Notes) (x : ℕ) : Type 0 where
  pub sound : Sound ix st wk
  pub opened : 1 < x
  pub below : x < codes
  pub root : value_in st (x / 2) ≡ 2 * (x / 2)

-- after a dead end (true) nothing is known of the state and the lists
abbrev pub Decided : (ix : Index) (st : Tally) (wk : Notes) → ℕ → (st' : Tally) (wk' : Notes) → Bool → Type 0
Decided ix st wk x st' wk' true = DeadIn ix (assign (literal_at x) FALSE (state_in st))
Decided ix st wk x st' wk' false = (state_in st' ≡ assign (literal_at x) FALSE (state_in st)) × Moved ix st wk st' wk'

-- open literals of c, of other variables than w, become false one by one
pub data Clearing (c : Clause) (w : ℕ) : State → State → Type 0 where
  cleared : {s : State} → Clearing c w s s
  clears : {s u : State} (x : Literal) → Memᴰ x (standing s c) → 0 < var x → (var x ≡ w → ⊥) → Clearing c w (assign x FALSE s) u → Clearing c w s u

-- clause g has no open literal but those of w
pub record Emptied (ix : Index) (st : Tally) (wk : Notes) (g w : ℕ) (st' : Tally) (wk' : Notes) : Type 0 where
  pub path : Clearing (clause_of ix g) w (state_in st) (state_in st')
  pub moved : Moved ix st wk st' wk'
  pub only : (x : Literal) → Memᴰ x (clause_of ix g) → (var (value (state_in st') x) ≡ 0) ⊎ (var (value (state_in st') x) ≡ w)

abbrev pub Cleared : (ix : Index) (st : Tally) (wk : Notes) → ℕ → ℕ → (st' : Tally) (wk' : Notes) → Bool → Type 0
Cleared ix st wk g w st' wk' true = (s : State) × Clearing (clause_of ix g) w (state_in st) s × DeadIn ix s
Cleared ix st wk g w st' wk' false = Emptied ix st wk g w st' wk'
