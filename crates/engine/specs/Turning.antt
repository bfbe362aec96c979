-- Rule 6, rules 7 and 8, and one turn of the loop of all rules.
use Rattle.std.specs.Prelude.{◌≡◌, Bool, true, false, ◌⊎◌, ℕ, ◌+◌, ◌*◌, ◌≤◌, ◌<◌, Option, None, Some, Result, Ok, Err}
use Rattle.literal.specs.Literal.{max_variables}
use Rattle.theory.specs.State.{standing, WellFormed}
use Rattle.theory.proofs.Propagation.{Steps}
use Rattle.theory.proofs.Falls.{Falls}
use Rattle.occurrences.specs.Index.{clause_of, formula_of}
use Rattle.tally.specs.Tally.{state_in}
use Rattle.tally.specs.Counts.{room, roots}
use Rattle.moves.specs.Sound.{Sound}
use Rattle.moves.specs.Moving.{Moved}
use Rattle.moves.specs.Stepping.{Died}
use Rattle.engine.specs.Short.{Unit, Units, Resting}
use Rattle.engine.specs.Ready.{Ready}
use Rattle.tie.specs.Tying.{Tying}
use Rattle.occurrences.specs.declared.Index.{Index}
use Rattle.tally.specs.declared.Tally.{Tally}
use Rattle.notes.specs.declared.Notes.{Notes}
use Rattle.moves.specs.declared.DeadEnd.{DeadEnd}

-- rules 2 and 3 in clause g: they no longer fit it
abbrev pub UnitOf : (ix : Index) (st : Tally) (wk : Notes) → ℕ → (st' : Tally) (wk' : Notes) → Bool → Type 0
UnitOf ix st wk g st' wk' true = Died (formula_of ix) (state_in st)
UnitOf ix st wk g st' wk' false = Falls (formula_of ix) (state_in st) (state_in st') × Moved ix st wk st' wk' × (¬ Unit st' g)

-- rules 2 and 3 in all clauses that are noted from `at` on
pub record Unitable (ix : Index) (st : Tally) (wk : Notes) (at : ℕ) : Type 0 where
  pub sound : Sound ix st wk
  pub well : WellFormed max_variables (state_in st)
  pub units : Units ix st wk at
  pub reached : at ≤ wk.todo_end

abbrev pub UnitsOf : (ix : Index) (st : Tally) (wk : Notes) (st' : Tally) (wk' : Notes) → Bool → Type 0
UnitsOf ix st wk st' wk' true = Died (formula_of ix) (state_in st)
UnitsOf ix st wk st' wk' false = Falls (formula_of ix) (state_in st) (state_in st') × Moved ix st wk st' wk' × Units ix st' wk' wk'.todo_end

-- rule 6 in clause g, which has two open literals and none true
abbrev pub TwoOf : (ix : Index) (st : Tally) → ℕ → Result (Option (ℕ × ℕ)) DeadEnd → Type 0
TwoOf ix st g (Ok None) = Resting (standing (state_in st) (clause_of ix g))
TwoOf ix st g (Ok (Some (low, high))) = Tying ix st low high
TwoOf ix st g (Err e) = Died (formula_of ix) (state_in st)

-- what falls with each turn: listed blocks, open roots (a tie closes one and lists a block), notes and open occurrences (each pays a note)
abbrev pub weight : Index → Tally → Notes → ℕ
weight ix st wk = wk.blocks_end + 2 * roots st.values max_variables + (wk.todo_end + room ix st.values)

-- a clause or a block is listed
abbrev pub Left : Notes → ℕ → Bool → Type 0
Left wk twos true = (twos < wk.todo_end) ⊎ (0 < wk.blocks_end)
Left wk twos false = (wk.todo_end ≤ twos) × (wk.blocks_end ≡ 0)

-- the next clause is at `next`
pub record Turned (ix : Index) (st : Tally) (wk : Notes) (twos : ℕ) (st' : Tally) (wk' : Notes) (next : ℕ) : Type 0 where
  pub steps : (k : ℕ) × Steps (formula_of ix) (state_in st) (state_in st') k
  pub ready : Ready ix st' wk' wk.todo_end next
  pub grows : wk.todo_end ≤ wk'.todo_end
  pub reached : next ≤ wk.todo_end
  pub less : weight ix st' wk' + twos < weight ix st wk + next

abbrev pub TurnOf : (ix : Index) (st : Tally) (wk : Notes) → ℕ → (st' : Tally) (wk' : Notes) → Result ℕ DeadEnd → Type 0
TurnOf ix st wk twos st' wk' (Err e) = Died (formula_of ix) (state_in st)
TurnOf ix st wk twos st' wk' (Ok next) = Turned ix st wk twos st' wk' next
