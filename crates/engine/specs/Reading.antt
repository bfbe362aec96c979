-- Reading the open literals of a clause in which none is true.
use Rattle.std.specs.Prelude.{◌≡◌, ℕ, ◌+◌, ◌-◌, ◌*◌, ◌/◌, ◌≤◌, ◌<◌}
use mathlib.Core.List.{◌∷◌, Memᴰ}
use Rattle.general.specs.Lists.{from}
use Rattle.literal.specs.declared.Literal.{Literal}
use Rattle.literal.specs.Literal.{TRUE, var, literal_at, codes}
use Rattle.theory.specs.Formula.{Clause}
use Rattle.theory.specs.State.{value, standing}
use Rattle.theory.specs.Rules.{occurs}
use Rattle.theory.proofs.Counts.{open_count}
use Rattle.occurrences.specs.Index.{Indexed, clause_count, clause_of, code_at, start_at}
use Rattle.tally.specs.Tally.{state_in, value_in}
use Rattle.tally.specs.Ring.{Classes}
use Rattle.tally.specs.Counts.{Exact}
use Rattle.occurrences.specs.declared.Index.{Index}
use Rattle.tally.specs.declared.Tally.{Tally}

-- what a reader of index and state needs of them
pub record Legible (ix : Index) (st : Tally) : Type 0 where
  pub index : Indexed ix
  pub exact : Exact ix st.values st.counts
  pub classes : Classes st.values st.links

-- what is left of clause g at place i, and the literal there
abbrev pub written : Index → ℕ → Literal
written ix i = literal_at (code_at ix i)

abbrev pub rest : Index → ℕ → ℕ → Clause
rest ix g i = from (written ix) i (start_at ix (g + 1) - 1 - i)

-- place i of clause g, from which on some literals are open and none is true
pub record Opens (ix : Index) (st : Tally) (g i : ℕ) : Type 0 where
  pub legible : Legible ix st
  pub inside : g < clause_count ix
  pub begins : start_at ix g ≤ i
  pub none_true : occurs TRUE (standing (state_in st) (rest ix g i)) ≡ 0
  pub some_open : 0 < open_count (standing (state_in st) (rest ix g i))

-- the first of them stands at place r
pub record FirstOpen (ix : Index) (st : Tally) (g i r : ℕ) : Type 0 where
  pub begins : i ≤ r
  pub before : r < start_at ix (g + 1) - 1
  pub opened : 0 < var (value (state_in st) (written ix r))
  pub splits : standing (state_in st) (rest ix g i) ≡ value (state_in st) (written ix r) ∷ standing (state_in st) (rest ix g (r + 1))

-- x is the code of a literal of an open root
pub record OpenCode (st : Tally) (x : ℕ) : Type 0 where
  pub opened : 1 < x
  pub below : x < codes
  pub root : value_in st (x / 2) ≡ 2 * (x / 2)

-- and stands in clause g
pub record OpenEntry (ix : Index) (st : Tally) (g x : ℕ) : Type 0 where
  pub code : OpenCode st x
  pub stands : Memᴰ (literal_at x) (standing (state_in st) (clause_of ix g))
