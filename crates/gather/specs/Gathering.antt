-- The wide clauses of a stretch of variables, or of the class of an open root, put one after another.
use Rattle.std.specs.Prelude.{◌≡◌, Bool, true, false, ◌&&◌, List, ◌∷◌, ℕ, ◌+◌, ◌*◌, ◌≤◌, ◌<◌, eqb, ltb, get_or, length}
use Rattle.general.specs.Times.{times}
use Rattle.literal.specs.Literal.{max_variables, max_literals, variables}
use Rattle.theory.specs.State.{standing}
use Rattle.gather.specs.declared.Sign.{Sign}
use Rattle.gather.specs.declared.Sign.TheVariants.{Positive, Negative, Either}
use Rattle.theory.proofs.Counts.{mentions, Wide}
use Rattle.occurrences.specs.Index.{Indexed, clause_count, clause_of, occurrences, width}
use Rattle.tally.specs.Tally.{state_in, value_in, count_in}
use Rattle.tally.specs.Ring.{Classes}
use Rattle.tally.specs.Stretch.{Stretch, Reaches}
use Rattle.tally.specs.Counts.{Exact, one_true}
use Rattle.notes.specs.Notes.{Gathered, max_gathered, near_from, far_from}
use Rattle.occurrences.specs.declared.Index.{Index}
use Rattle.tally.specs.declared.Tally.{Tally}
use Rattle.notes.specs.declared.Notes.{Notes}

-- three or more open and none true, by a count
abbrev pub is_wide : ℕ → Bool
is_wide k = ltb 2 k && ltb k one_true

-- index and state are as between steps, and r is an open root
pub record AtRoot (ix : Index) (st : Tally) (r : ℕ) : Type 0 where
  pub index : Indexed ix
  pub exact : Exact ix st.values st.counts
  pub linked : length st.links ≡ variables
  pub classes : Classes st.values st.links
  pub opened : 0 < r
  pub inside : r ≤ max_variables
  pub root : value_in st r ≡ 2 * r

-- only the gathered clauses differ
pub record Beside (wk wk' : Notes) : Type 0 where
  pub todo : wk'.todo ≡ wk.todo
  pub todo_end : wk'.todo_end ≡ wk.todo_end
  pub blocks : wk'.blocks ≡ wk.blocks
  pub blocks_end : wk'.blocks_end ≡ wk.blocks_end

-- the n that were gathered from place 0 on hold every wide clause that mentions r
pub record Gathering (ix : Index) (st : Tally) (wk : Notes) (r : ℕ) (wk' : Notes) (n : ℕ) : Type 0 where
  pub few : n ≤ max_literals
  pub beside : Beside wk wk'
  pub sides : (i : ℕ) → near_from ≤ i → get_or wk'.gathered i 0 ≡ get_or wk.gathered i 0
  pub inside : (i : ℕ) → i < n → get_or wk'.gathered i 0 < clause_count ix
  pub all : (g : ℕ) → g < clause_count ix → Wide (standing (state_in st) (clause_of ix g)) → 0 < mentions r (standing (state_in st) (clause_of ix g)) →
      Gathered wk' 0 n g

-- clause g is wide, by its count
abbrev pub WideIn : Index → Tally → ℕ → Type 0
WideIn ix st g = (g < clause_count ix) × (is_wide (count_in st g) ≡ true)

-- variable p stands in clause g
abbrev pub Written : Index → ℕ → ℕ → Type 0
Written ix p g = (k : ℕ) × (k < 2) × (0 < times (2 * g + k) (occurrences ix p))

-- an occurrence with sign k, 0 or 1, is one of those that count
abbrev pub is_signed : Sign → ℕ → Bool
is_signed Positive k = eqb k 0
is_signed Negative k = eqb k 1
is_signed Either k = true

-- variable p stands so in clause g
abbrev pub WrittenAs : Sign → Index → ℕ → ℕ → Type 0
WrittenAs s ix p g = (k : ℕ) × (k < 2) × (is_signed s k ≡ true) × (0 < times (2 * g + k) (occurrences ix p))

-- one variable: there is room for all its occurrences
pub record Collecting (ix : Index) (wk : Notes) (p start : ℕ) : Type 0 where
  pub index : Indexed ix
  pub inside : p ≤ max_variables
  pub room : start + width ix p ≤ max_gathered

pub record Collected (ix : Index) (st : Tally) (wk : Notes) (p start : ℕ) (s : Sign) (wk' : Notes) (end : ℕ) : Type 0 where
  pub grew : start ≤ end
  pub paid : end ≤ start + width ix p
  pub beside : Beside wk wk'
  pub kept : (i : ℕ) → i < start → get_or wk'.gathered i 0 ≡ get_or wk.gathered i 0
  pub beyond : (i : ℕ) → start + width ix p ≤ i → get_or wk'.gathered i 0 ≡ get_or wk.gathered i 0
  pub inside : (i : ℕ) → start ≤ i → i < end → get_or wk'.gathered i 0 < clause_count ix
  pub all : (g : ℕ) → WideIn ix st g → WrittenAs s ix p g → Gathered wk' start end g

-- a stretch: there is room for all occurrences that there are
pub record Gatherable (ix : Index) (st : Tally) (wk : Notes) (first last start : ℕ) : Type 0 where
  pub index : Indexed ix
  pub room : start ≤ far_from
  pub stretch : (l : List ℕ) × Stretch st.links st.values first last l

pub record GatheredAlong (ix : Index) (st : Tally) (wk : Notes) (first last start : ℕ) (wk' : Notes) (end : ℕ) : Type 0 where
  pub grew : start ≤ end
  pub few : end ≤ start + max_literals
  pub beside : Beside wk wk'
  pub kept : (i : ℕ) → i < start → get_or wk'.gathered i 0 ≡ get_or wk.gathered i 0
  pub beyond : (i : ℕ) → start + max_literals ≤ i → get_or wk'.gathered i 0 ≡ get_or wk.gathered i 0
  pub inside : (i : ℕ) → start ≤ i → i < end → get_or wk'.gathered i 0 < clause_count ix
  pub all : (l : List ℕ) → Stretch st.links st.values first last l → (g : ℕ) → WideIn ix st g → Reaches (last ∷ l) (clause_of ix g) →
      Gathered wk' start end g

-- of the clauses from place `start` to `stop` all of a kind are before `end` now, and none that was not among them; those from `stop` on stay
pub record KeptFrom (Of : ℕ → Type 0) (wk : Notes) (start stop : ℕ) (wk' : Notes) (end : ℕ) : Type 0 where
  pub grew : start ≤ end
  pub fewer : end ≤ stop
  pub beside : Beside wk wk'
  pub beyond : (i : ℕ) → stop ≤ i → get_or wk'.gathered i 0 ≡ get_or wk.gathered i 0
  pub only : (i : ℕ) → start ≤ i → i < end → Gathered wk start stop (get_or wk'.gathered i 0)
  pub all : (g : ℕ) → Of g → Gathered wk start stop g → Gathered wk' start end g

-- some wide clause holds variable p
abbrev pub Stands : (ix : Index) (st : Tally) → ℕ → Bool → Type 0
Stands ix st p true = (g : ℕ) × WideIn ix st g × Written ix p g
Stands ix st p false = (g : ℕ) → WideIn ix st g → Written ix p g → ⊥

-- some wide clause mentions root r
abbrev pub StandsLive : (ix : Index) (st : Tally) → ℕ → Bool → Type 0
StandsLive ix st r true = (g : ℕ) × (g < clause_count ix) × Wide (standing (state_in st) (clause_of ix g)) × (0 < mentions r (standing (state_in st) (clause_of ix g)))
StandsLive ix st r false = (g : ℕ) → g < clause_count ix → Wide (standing (state_in st) (clause_of ix g)) → mentions r (standing (state_in st) (clause_of ix g)) ≡ 0
