-- What a walk of the tree asks, and what it answers and leaves in the plan and, from index d on, in the trail.
use Rattle.std.specs.Prelude.{◌≡◌, Bool, true, false, List, [], ◌∷◌, ◌++◌, map, ℕ, suc, ◌+◌, ◌≤◌, ◌<◌, ℤ, length, take, drop, set, ⊤}
use Rattle.std.specs.Prelude.{Some}
use Rattle.std.specs.Int.{w32}
use Rattle.std.proofs.Common.{Fits}
use Rattle.general.specs.Booleans.{bit}
use Rattle.literal.specs.declared.Literal.{Literal}
use Rattle.literal.specs.Literal.{var, entry_of, max_variables}
use Rattle.receipt.specs.declared.Outcome.{Outcome}
use Rattle.receipt.specs.declared.Outcome.TheVariants.{LaidOut, NoLayout, Stopped}
use Rattle.theory.specs.Formula.{Formula, Choice, clauses, Within}
use Rattle.theory.specs.State.{State, initial, opens, WellFormed}
use Rattle.theory.specs.Tree.{Found, visit, tree, Limited, limited}
use Rattle.theory.specs.Search.{branch_variable, split_on, decide, tree_from}
use Rattle.theory.specs.Calls.{over}
use Rattle.theory.specs.Table.{Accepted}
use Rattle.theory.proofs.Guard.{Guard}
use Rattle.occurrences.specs.Index.{formula_of}
use Rattle.tally.specs.Tally.{state_in}
use Rattle.walk.specs.declared.Level.{Level}
use Rattle.walk.specs.declared.Walk.{Walk}
use Rattle.engine.specs.Ready.{Ready}
use Rattle.side.specs.Side.{Calm}
use Rattle.occurrences.specs.declared.Index.{Index}
use Rattle.tally.specs.declared.Tally.{Tally}
use Rattle.notes.specs.declared.Notes.{Notes}

-- what lasts through a walk: clauses of variables up to n, and room in both lists
pub record Lasting (ix : Index) (l : Level) (plan : List ℕ) (trail : List ℤ) : Type 0 where
  pub within : Within l.variables (formula_of ix)
  pub small : l.variables ≤ max_variables
  pub plan_room : l.variables ≤ length plan
  pub trail_room : l.variables ≤ length trail

-- a state to walk from: all that is to be looked at is listed, no variable under `from` will stand in a live clause, and the path has room below
pub record Beginning (ix : Index) (st : Tally) (wk : Notes) (l : Level) : Type 0 where
  pub ready : Ready ix st wk 0 0
  pub well : WellFormed l.variables (state_in st)
  pub guard : Guard (formula_of ix) (state_in st) l.from
  pub positive : 0 < l.from
  pub deep : l.depth + opens (state_in st) l.variables ≤ l.variables

-- or a dead end was met already
abbrev pub Begins : (ix : Index) (st : Tally) (wk : Notes) → Level → Bool → Type 0
Begins ix st wk l true = ⊤
Begins ix st wk l false = Beginning ix st wk l

pub record Walkable (ix : Index) (st : Tally) (wk : Notes) (dead : Bool) (l : Level) (plan : List ℕ) (trail : List ℤ) : Type 0 where
  pub lasting : Lasting ix l plan trail
  pub begins : Begins ix st wk l dead

-- a state at rest, to be split on p
pub record Splittable (ix : Index) (st : Tally) (p : ℕ) (l : Level) (plan : List ℕ) (trail : List ℤ) : Type 0 where
  pub lasting : Lasting ix l plan trail
  pub calm : Calm ix st
  pub well : WellFormed l.variables (state_in st)
  pub branch : branch_variable (formula_of ix) (state_in st) ≡ Some p
  pub deep : l.depth + opens (state_in st) l.variables ≤ l.variables

-- the level below a split on p
abbrev pub under : ℕ → ℕ → Level → Level
under p left l = record { variables = l.variables; from = p + 1; left = left; depth = l.depth + 1 }

pub record Walked : Type 0 where
  pub walk : Walk
  pub plan : List ℕ
  pub trail : List ℤ

abbrev pub walked : Walk → List ℕ → List ℤ → Walked
walked w p t = record { walk = w; plan = p; trail = t }

-- only a layout is written: the choice, and the path
abbrev pub plan_after : ℕ → List (Found Choice) → List ℕ → List ℕ
plan_after n [] p = p
plan_after n (a ∷ l) p = over n (map bit a.choice) p

abbrev pub trail_after : ℕ → List (Found Choice) → List ℤ → List ℤ
trail_after d [] t = t
trail_after d (a ∷ l) t = take d t ++ (map entry_of a.path ++ drop (d + length a.path) t)

abbrev pub walk_of : ℕ → ℕ → Limited Choice → List ℕ → List ℤ → Walked
walk_of n d r p t = walked (record { outcome = r.outcome; count = r.count }) (plan_after n r.found p) (trail_after d r.found t)

-- the walk from a state under an allowance, from a dead end, and from a split on p
abbrev pub tree_walk : Level → Formula → State → List ℕ → List ℤ → Walked
tree_walk l f s = walk_of l.variables l.depth (limited l.left (tree_from l.variables f s))

abbrev pub walk_from : Bool → Level → (ix : Index) (st : Tally) → List ℕ → List ℤ → Walked
walk_from true l ix st = walked (record { outcome = NoLayout; count = 0 })
walk_from false l ix st = tree_walk l (formula_of ix) (state_in st)

abbrev pub split_walk : ℕ → Level → (ix : Index) (st : Tally) → List ℕ → List ℤ → Walked
split_walk p l ix st =
    let n = l.variables in walk_of n l.depth (limited l.left (visit (tree (decide n (formula_of ix)) (suc n)) 1 (split_on n (state_in st) (Some p))))

-- a checked table with room for the results, and its walk from the initial state
pub record Searchable (n : ℕ) (t : List ℤ) (plan : List ℕ) (trail : List ℤ) : Type 0 where
  pub accepted : Accepted n t
  pub plan_room : n ≤ length plan
  pub trail_room : n ≤ length trail

abbrev pub table_walk : ℕ → List ℤ → ℕ → List ℕ → List ℤ → Walked
table_walk n t left = walk_of n 0 (limited left (tree_from n (clauses t) initial))

-- one side as the split passes it on: the sum of the splits is a number, and the trail has room for the side
pub record Passable (count splits : ℕ) (x : Literal) (d : ℕ) (t : List ℤ) : Type 0 where
  pub sum : Fits w32 (splits + count)
  pub room : d < length t
  pub small : var x ≤ max_variables

-- k splits more
abbrev pub counted : ℕ → Walk → Walk
counted k w = record { outcome = w.outcome; count = k + w.count }

-- a side on the path to a layout is written at its depth d; nothing else is
abbrev pub noted : Outcome → ℕ → Literal → List ℤ → List ℤ
noted LaidOut d x t = set t d (entry_of x)
noted NoLayout d x t = t
noted Stopped d x t = t
