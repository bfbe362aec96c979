-- One variable becomes a constant, and its occurrences are taken into the counts one by one.
use Rattle.std.specs.Prelude.{◌≡◌, Bool, ◌||◌, ℕ, ◌+◌, ◌*◌, ◌-◌, ◌%◌, ◌≤◌, ◌<◌, eqb, ltb, get_or, set, Result, Ok, Err}
use Rattle.general.specs.Booleans.{bit}
use Rattle.literal.specs.Literal.{max_variables, max_table}
use Rattle.occurrences.specs.Index.{Indexed, clause_count, width}
use Rattle.tally.specs.Tally.{state_in}
use Rattle.tally.specs.Counts.{Exact, room, one_true}
use Rattle.notes.specs.Notes.{Noted, with_todo_end}
use Rattle.moves.specs.declared.DeadEnd.{DeadEnd}
use Rattle.moves.specs.Deciding.{DeadIn}
use Rattle.occurrences.specs.declared.Index.{Index}
use Rattle.tally.specs.declared.Tally.{Tally}
use Rattle.notes.specs.declared.Notes.{Notes}

-- a count once an occurrence o of a variable that became `to` is taken in: an open literal less, and a true one more where the signs agree
abbrev pub gain_of : ℕ → ℕ → ℕ
gain_of o to = one_true * bit (eqb (o % 2) to)

abbrev pub recount_of : ℕ → ℕ → ℕ → ℕ
recount_of count o to = count + gain_of o to - 1

-- whether its clause is noted, by the new count
abbrev pub is_noted : ℕ → ℕ → ℕ → Bool
is_noted count o to = ltb count 3 || eqb (o % 2) to

abbrev pub noting : ℕ → ℕ → ℕ → ℕ
noting count o to = bit (is_noted count o to)

-- counts and notes go from t and n to u and m, and nothing else but values does
pub record Adding (ix : Index) (t : Tally) (n : Notes) (u : Tally) (m : Notes) : Type 0 where
  pub grows : n.todo_end ≤ m.todo_end
  pub kept : (i : ℕ) → i < n.todo_end → get_or m.todo i 0 ≡ get_or n.todo i 0
  pub fresh : (i : ℕ) → n.todo_end ≤ i → i < m.todo_end → get_or m.todo i 0 < clause_count ix
  pub few : (g : ℕ) → g < clause_count ix → get_or u.counts g 0 < 3 → get_or u.counts g 0 < get_or t.counts g 0 → Noted m n.todo_end g
  pub never : (g : ℕ) → g < clause_count ix → 0 < get_or t.counts g 0 → 0 < get_or u.counts g 0
  pub won : (g : ℕ) → g < clause_count ix → get_or t.counts g 0 < one_true → one_true ≤ get_or u.counts g 0 → Noted m n.todo_end g
  pub links : u.links ≡ t.links
  pub blocks : m.blocks ≡ n.blocks
  pub blocks_end : m.blocks_end ≡ n.blocks_end
  pub gathered : m.gathered ≡ n.gathered

-- counts are exact again, and each note is paid by an open occurrence
pub record Taken (ix : Index) (t : Tally) (n : Notes) (u : Tally) (m : Notes) : Type 0 where
  pub exact : Exact ix u.values u.counts
  pub adding : Adding ix t n u m
  pub paid : m.todo_end + room ix u.values ≤ n.todo_end + room ix t.values

-- variable p is open and may become `to`, TRUE or FALSE
pub record Membering (ix : Index) (t : Tally) (n : Notes) (p to : ℕ) : Type 0 where
  pub index : Indexed ix
  pub exact : Exact ix t.values t.counts
  pub known : p ≤ max_variables
  pub opened : 1 < get_or t.values p 0
  pub constant : to < 2
  pub fits : n.todo_end + width ix p ≤ max_table

-- while a class is decided the end of the list is kept beside it
abbrev pub ended : ℕ → Notes → Notes
ended end wk = with_todo_end end wk

-- variable p became `to`, and up to an end the list is as it shall be; or a dead end was met
abbrev pub Membered : (ix : Index) (st : Tally) (wk : Notes) → (from p to : ℕ) → (st' : Tally) (wk' : Notes) → Result ℕ DeadEnd → Type 0
Membered ix st wk from p to st' wk' (Ok end) = (st'.values ≡ set st.values p to) × Taken ix st (ended from wk) st' (ended end wk')
Membered ix st wk from p to st' wk' (Err e) = (st'.values ≡ set st.values p to) × DeadIn ix (state_in st')
