-- What a walk of the tree asks, and what it answers and leaves in the rows.
use Rattle.std.specs.Prelude.{◌≡◌, Bool, true, false, cond, List, [], ◌∷◌, ℕ, suc, ◌+◌, ◌*◌, ◌-◌, ◌≤◌, ◌<◌, eqb, ℤ, length, take, drop, ⊤}
use Rattle.std.specs.Prelude.{Some}
use Rattle.std.specs.Int.{w64}
use Rattle.std.proofs.Common.{Fits}
use Rattle.general.specs.Appending.{Appended}
use Rattle.literal.specs.Literal.{max_variables}
use Rattle.receipt.specs.declared.Listed.{Listed}
use Rattle.receipt.specs.declared.Outcome.TheVariants.{LaidOut, NoLayout, Stopped}
use Rattle.receipt.specs.Answers.{listed}
use Rattle.theory.specs.Formula.{Formula, Choice, Within}
use Rattle.theory.specs.Listing.{open_variable, decide_open, open_tree, row_bytes}
use Rattle.theory.specs.Search.{choice_of, split_on}
use Rattle.theory.specs.State.{State, Open, WellFormed}
use Rattle.theory.specs.Table.{Accepted}
use Rattle.theory.specs.Tree.{Run, run, choices_found, visit, tree}
use Rattle.occurrences.specs.Index.{formula_of}
use Rattle.tally.specs.Tally.{state_in}
use Rattle.engine.specs.Ready.{Ready}
use Rattle.side.specs.Side.{Calm}
use Rattle.list.specs.declared.Ending.{Ending}
use Rattle.list.specs.declared.Ending.TheVariants as ending
use Rattle.list.specs.declared.Level.{Level}
use Rattle.list.specs.declared.Walk.{Walk}
use Rattle.occurrences.specs.declared.Index.{Index}
use Rattle.tally.specs.declared.Tally.{Tally}
use Rattle.notes.specs.declared.Notes.{Notes}

-- a row may be written where one is left: there is room for all, and a number holds its index
pub record Rowable (l : Level) (bytes : List ℕ) : Type 0 where
  pub small : l.variables ≤ max_variables
  pub next : l.row ≤ l.wanted
  pub fits : l.wanted * l.variables ≤ length bytes
  pub word : Fits w64 (l.wanted * l.variables)

-- what lasts through a walk
pub record Lasting (ix : Index) (l : Level) (bytes : List ℕ) : Type 0 where
  pub within : Within l.variables (formula_of ix)
  pub rowable : Rowable l bytes

-- no variable under `from` is open
abbrev pub Shut : ℕ → State → ℕ → Type 0
Shut n s from = (p : ℕ) → p < from → ¬ Open n s p

-- a state in which an open variable is looked for
pub record Openable (st : Tally) (from n : ℕ) : Type 0 where
  pub small : n ≤ max_variables
  pub shut : Shut n (state_in st) from
  pub positive : 0 < from

-- a state to walk from: all that is to be looked at is listed
pub record Beginning (ix : Index) (st : Tally) (wk : Notes) (l : Level) : Type 0 where
  pub ready : Ready ix st wk 0 0
  pub well : WellFormed l.variables (state_in st)
  pub shut : Shut l.variables (state_in st) l.from
  pub positive : 0 < l.from

-- or a dead end was met already
abbrev pub Begins : (ix : Index) (st : Tally) (wk : Notes) → Level → Bool → Type 0
Begins ix st wk l true = ⊤
Begins ix st wk l false = Beginning ix st wk l

pub record Walkable (ix : Index) (st : Tally) (wk : Notes) (dead : Bool) (l : Level) (bytes : List ℕ) : Type 0 where
  pub lasting : Lasting ix l bytes
  pub begins : Begins ix st wk l dead

-- a state at rest, to be split on p
pub record Splittable (ix : Index) (st : Tally) (p : ℕ) (l : Level) (bytes : List ℕ) : Type 0 where
  pub lasting : Lasting ix l bytes
  pub calm : Calm ix st
  pub well : WellFormed l.variables (state_in st)
  pub branch : open_variable l.variables (state_in st) ≡ Some p

-- the level below a split on p
abbrev pub under : ℕ → ℕ → ℕ → Level → Level
under p left row l = record { variables = l.variables; from = p + 1; left = left; wanted = l.wanted; row = row }

-- so many rows and splits more
abbrev pub counted : ℕ → ℕ → Walk → Walk
counted rows splits w = record { ending = w.ending; written = rows + w.written; count = splits + w.count }

-- the rows that are left; one layout more is wanted
abbrev pub room : Level → ℕ
room l = l.wanted - l.row

-- the runs of a walk: of a leaf, from a state, or from a dead end, and from a split on p
abbrev pub leaf_run : ℕ → State → Run Choice
leaf_run n s = run (record { choice = choice_of n s; path = [] } ∷ []) 0

abbrev pub tree_run : Level → Formula → State → Run Choice
tree_run l f s = open_tree l.variables f (suc (room l)) s

abbrev pub run_from : Bool → Level → (ix : Index) (st : Tally) → Run Choice
run_from true l ix st = run [] 0
run_from false l ix st = tree_run l (formula_of ix) (state_in st)

abbrev pub split_run : ℕ → Level → Formula → State → Run Choice
split_run p l f s = let n = l.variables in visit (tree (decide_open n f) (suc n)) (suc (room l)) (split_on n s (Some p))

-- a run that is within its allowance, and so many of its layouts written, each in the next row
pub record Wrote (l : Level) (r : Run Choice) (old new : List ℕ) (w : Walk) (rows : ℕ) : Type 0 where
  pub enough : r.splits ≤ l.left
  pub count : w.count ≡ r.splits
  pub rows_is : w.written ≡ rows
  pub bytes : Appended old (l.row * l.variables) (row_bytes (take rows (choices_found r.found))) new ((l.row + rows) * l.variables)

-- "when a split is needed and the allowance is used up": what stands in the rows then is not said
pub record Halted (l : Level) (r : Run Choice) (old new : List ℕ) (w : Walk) : Type 0 where
  pub short : l.left < r.splits
  pub count : w.count ≡ l.left
  pub few : w.written ≤ room l
  pub beyond : drop (l.wanted * l.variables) new ≡ drop (l.wanted * l.variables) old

-- what a walk of the run has done, by how it ends
abbrev pub EndsIn : Ending → Level → Run Choice → (old new : List ℕ) → Walk → Type 0
EndsIn ending.All l r old new w = (length r.found ≤ room l) × Wrote l r old new w (length r.found)
EndsIn ending.More l r old new w = (length r.found ≡ suc (room l)) × Wrote l r old new w (room l)
EndsIn ending.Stopped l r old new w = Halted l r old new w

abbrev pub Walked : Level → Run Choice → (old new : List ℕ) → Walk → Type 0
Walked l r old new w = EndsIn w.ending l r old new w

-- a checked table with room for the rows
pub record Listable (n : ℕ) (t : List ℤ) (k : ℕ) (bytes : List ℕ) : Type 0 where
  pub accepted : Accepted n t
  pub fits : k * n ≤ length bytes
  pub word : Fits w64 (k * n)

abbrev pub top : ℕ → ℕ → ℕ → Level
top n k left = record { variables = n; from = 1; left = left; wanted = k; row = 0 }

-- the rows that count of those that were written, by how the walk ends
abbrev pub kept : Ending → ℕ → ℕ
kept ending.All rows = rows
kept ending.More rows = rows
kept ending.Stopped rows = 0

abbrev pub kept_rows : Walk → ℕ
kept_rows w = kept w.ending w.written

-- what is answered where so many rows count and so many splits were made
abbrev pub ended_as : Ending → ℕ → ℕ → Listed
ended_as ending.All rows count = listed (cond (eqb rows 0) NoLayout LaidOut) rows false count
ended_as ending.More rows count = listed LaidOut rows true count
ended_as ending.Stopped rows count = listed Stopped rows false count

abbrev pub answer_of : Walk → ℕ → Listed
answer_of w rows = ended_as w.ending rows w.count
