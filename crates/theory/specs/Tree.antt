-- The split tree over any kind of state, walked until as many layouts are found as are wanted, and the allowance as a function of what the tree needs.
use Rattle.std.specs.Prelude.{cond, List, [], ◌∷◌, ◌++◌, map, ℕ, zero, suc, ◌+◌, ◌-◌, leb, length}
use Rattle.literal.specs.declared.Literal.{Literal}
use Rattle.literal.specs.declared.Literal.TheVariants.{Pos, Neg}
use Rattle.receipt.specs.declared.Outcome.{Outcome}
use Rattle.receipt.specs.declared.Outcome.TheVariants.{LaidOut, NoLayout, Stopped}

-- what is decided of a state: a dead end, a layout, or a split on a variable, with the states of its left-out and taken sides
pub data Decision (S A : Type 0) : Type 0 where
  dead : Decision S A
  done : A → Decision S A
  branch : ℕ → S → S → Decision S A

-- a layout, and the path: "the sides that lead to that layout"
pub record Found (A : Type 0) : Type 0 where
  pub choice : A
  pub path : List Literal

-- what a walk of the tree finds, and the splits met up to its end
pub record Run (A : Type 0) : Type 0 where
  pub found : List (Found A)
  pub splits : ℕ

module _ {A : Type 0} where
  abbrev pub run : List (Found A) → ℕ → Run A
  run l k = record { found = l; splits = k }

  abbrev pub through : Literal → List (Found A) → List (Found A)
  through x = map (λ a. record { choice = a.choice; path = x ∷ a.path })

  -- a split on p, of its left-out side and its taken side
  abbrev pub split : ℕ → Run A → Run A → Run A
  split p a b = run (through (Neg p) a.found ++ through (Pos p) b.found) (1 + a.splits + b.splits)

  -- what was found, without the paths
  abbrev pub choices_found : List (Found A) → List A
  choices_found = map (λ a. a.choice)

module _ {S A : Type 0} where
  -- a side is tried only where layouts are still wanted
  abbrev pub tried : (ℕ → S → Run A) → ℕ → S → Run A
  tried walk zero s = run [] 0
  tried walk (suc k) s = walk (suc k) s

  -- k layouts are wanted, one of a plain search: then the taken side is tried "only if that has no layout"
  abbrev pub visit : (ℕ → S → Run A) → ℕ → Decision S A → Run A
  visit walk k dead = run [] 0
  visit walk k (done a) = run (record { choice = a; path = [] } ∷ []) 0
  visit walk k (branch p l r) = let a = walk k l in split p a (tried walk (k - length a.found) r)

  -- "as if no allowance were set", with fuel for f - 1 splits on a path
  unfoldable pub tree : (S → Decision S A) → ℕ → ℕ → S → Run A
  tree decide zero k s = run [] 0
  tree decide (suc f) k s = visit (tree decide f) k (decide s)

-- how a search ends, its count, and what it found
pub record Limited (A : Type 0) : Type 0 where
  pub outcome : Outcome
  pub count : ℕ
  pub found : List (Found A)

module _ {A : Type 0} where
  abbrev pub result : Outcome → ℕ → List (Found A) → Limited A
  result o k l = record { outcome = o; count = k; found = l }

  abbrev pub finished : List (Found A) → Outcome
  finished [] = NoLayout
  finished (a ∷ l) = LaidOut

  abbrev pub finish : Run A → Limited A
  finish r = result (finished r.found) r.splits r.found

  -- "A stop's count is the allowance"
  abbrev pub stop : ℕ → Limited A
  stop b = result Stopped b []

  -- "A search is stopped when a split is needed and the allowance is used up"
  unfoldable pub limited : ℕ → Run A → Limited A
  limited b r = cond (leb r.splits b) (finish r) (stop b)
