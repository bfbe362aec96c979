-- One literal of a clause that is cleared.
use Rattle.std.specs.Prelude.{◌≡◌, Bool, true, false, ◌⊎◌, ℕ, ◌*◌, ◌/◌, ◌<◌}
use Rattle.literal.specs.Literal.{FALSE, literal_at, codes}
use Rattle.theory.specs.State.{assign}
use Rattle.tally.specs.Tally.{state_in, value_in}
use Rattle.moves.specs.Sound.{Sound}
use Rattle.moves.specs.Moving.{Moved}
use Rattle.moves.specs.Deciding.{DeadIn}
use Rattle.occurrences.specs.declared.Index.{Index}
use Rattle.tally.specs.declared.Tally.{Tally}
use Rattle.notes.specs.declared.Notes.{Notes}

-- x is the code of a literal as it stands: a constant, or of an open root
pub record Standing (ix : Index) (st : Tally) (wk : Notes) (x : ℕ) : Type 0 where
  pub sound : Sound ix st wk
  pub below : x < codes
  pub root : 1 < x → value_in st (x / 2) ≡ 2 * (x / 2)

-- x, where it is open and not of w, has become false
abbrev pub Gone : (st : Tally) → ℕ → ℕ → (st' : Tally) → Type 0
Gone st x w st' = (1 < x) × (x / 2 ≡ w → ⊥) × (state_in st' ≡ assign (literal_at x) FALSE (state_in st))

abbrev pub Spared : (st : Tally) → ℕ → ℕ → (st' : Tally) → Type 0
Spared st x w st' = ((x < 2) ⊎ (x / 2 ≡ w)) × (state_in st' ≡ state_in st)

abbrev pub Passed : (ix : Index) (st : Tally) (wk : Notes) → ℕ → ℕ → (st' : Tally) (wk' : Notes) → Bool → Type 0
Passed ix st wk x w st' wk' true = (1 < x) × (x / 2 ≡ w → ⊥) × DeadIn ix (assign (literal_at x) FALSE (state_in st))
Passed ix st wk x w st' wk' false = Moved ix st wk st' wk' × (Spared st x w st' ⊎ Gone st x w st')
