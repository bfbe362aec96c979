-- "Choices are ordered from placement 1 on, 0 before 1", and the first choice with a property, or the first few.
use Rattle.std.specs.Prelude.{◌≡◌, true, false, ◌≢◌, ◌⊎◌, ℕ, ◌≤◌, length}
use mathlib.Core.List.{List, [], ◌∷◌, Memᴰ}
use Rattle.std.specs.Prelude.{Option, None, Some}
use Rattle.theory.specs.Formula.{Choice}

-- the first is the second or comes before it
unfoldable pub ◌≼◌ : Choice → Choice → Type 0
[] ≼ d = Unit {0}
(x ∷ c) ≼ [] = ⊥
(false ∷ c) ≼ (false ∷ d) = c ≼ d
(false ∷ c) ≼ (true ∷ d) = Unit {0}
(true ∷ c) ≼ (false ∷ d) = ⊥
(true ∷ c) ≼ (true ∷ d) = c ≼ d

infix 40 ◌≼◌
-- the first comes before the second
abbrev pub ◌≺◌ : Choice → Choice → Type 0
c ≺ d = (c ≼ d) × (c ≢ d)

infix 40 ◌≺◌
module _ {A : Type 0} (Le : A → A → Type 0) where
  -- a has the property, and whatever else has it is a or comes after it
  pub record Least (P : A → Type 0) (a : A) : Type 0 where
    pub member : P a
    pub least : (b : A) → P b → Le a b

  -- the answer is the least with the property, or none where nothing has it
  abbrev pub IsLeast : (A → Type 0) → Option A → Type 0
  IsLeast P None = (a : A) → ¬ P a
  IsLeast P (Some a) = Least P a

-- "it is the first such choice": the first of the solutions of a formula, or none where it has no solution
abbrev pub IsFirst : (Choice → Type 0) → Option Choice → Type 0
IsFirst P o = IsLeast ◌≼◌ P o

-- of a strict order
module _ {A : Type 0} (Lt : A → A → Type 0) where
  -- each comes before all that follow it: so none stands twice
  unfoldable pub Ascends : List A → Type 0
  Ascends [] = Unit {0}
  Ascends (a ∷ l) = ((b : A) → Memᴰ b l → Lt a b) × Ascends l

  -- the first k with the property in order, or all where there are fewer
  pub record Firsts (P : A → Type 0) (k : ℕ) (l : List A) : Type 0 where
    pub member : (a : A) → Memᴰ a l → P a
    pub ascends : Ascends l
    pub most : length l ≤ k
    pub all : (a : A) → P a → Memᴰ a l ⊎ ((length l ≡ k) × ((b : A) → Memᴰ b l → Lt b a))
