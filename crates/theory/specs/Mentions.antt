-- A3, "Placements nobody mentions": which placements a table names.
use Rattle.std.specs.Prelude.{◌≡◌, Bool, true, ◌&&◌, ℕ, zero, suc, ◌<◌, ◌≤◌, eqb, ℤ, nat_abs}
use mathlib.Core.List.{List, Memᴰ}
use Rattle.general.specs.Search.{any}
use Rattle.literal.specs.declared.Literal.{Literal}
use Rattle.literal.specs.Literal.{var}
use Rattle.theory.specs.Formula.{Clause, Formula}

-- placement p is named "in at least one entry": of either sign, in any group
abbrev pub mentions : List ℤ → ℕ → Bool
mentions t p = any (λ (e : ℤ). eqb (nat_abs e) p) t

-- "A strip must name every declared placement": each from 1 to n
unfoldable pub mentions_all : ℕ → List ℤ → Bool
mentions_all zero t = true
mentions_all (suc n) t = mentions_all n t && mentions t (suc n)

-- the table keeps the rule
abbrev pub Mentioned : ℕ → List ℤ → Type 0
Mentioned n t = mentions_all n t ≡ true

-- the same of a formula: placement p stands in a group
pub record StandsIn (f : Formula) (p : ℕ) : Type 0 where
  pub clause : Clause
  pub literal : Literal
  pub of_formula : Memᴰ clause f
  pub of_clause : Memᴰ literal clause
  pub is : var literal ≡ p

-- and so does each from 1 to n
abbrev pub AllStand : ℕ → Formula → Type 0
AllStand n f = (p : ℕ) → 0 < p → p ≤ n → StandsIn f p
