-- The clauses of an index, by their number and as elements of its formula.
use mathlib.Core.Path.{◌≡◌}
use mathlib.Core.List.{Memᴰ}
use Prim.Native.Nat.{ℕ, ◌<◌}
use native.Mathlib.Omega.{arith}
use Rattle.general.specs.Lists.{Before, mem_from, from_mem, before_from, from_before}
use Rattle.theory.specs.Formula.{Clause}
use Rattle.occurrences.specs.declared.Index.{Index}
use Rattle.occurrences.specs.Index.{clause_count, clause_of, formula_of}

module _ (ix : Index) where
  pub mem_formula : (g : ℕ) → g < clause_count ix → Memᴰ (clause_of ix g) (formula_of ix)
  mem_formula g h = mem_from (clause_of ix) 0 (clause_count ix) g (omega arith) (omega arith)

  pub formula_mem : {c : Clause} → Memᴰ c (formula_of ix) → (g : ℕ) × (g < clause_count ix) × (c ≡ clause_of ix g)
  formula_mem {c} m = let r = from_mem (clause_of ix) 0 (clause_count ix) c m in (r.0, omega (arith, r.2), r.3)

  pub index_before : (g h : ℕ) → g < h → h < clause_count ix → Before (clause_of ix g) (clause_of ix h) (formula_of ix)
  index_before g h l b = before_from (clause_of ix) 0 (clause_count ix) g h (omega arith) l (omega arith)

  pub before_index : {c d : Clause} → Before c d (formula_of ix) → (g : ℕ) × (h : ℕ) × (g < h) × (h < clause_count ix) × (c ≡ clause_of ix g) × (d ≡ clause_of ix h)
  before_index {c} {d} b = let r = from_before (clause_of ix) 0 (clause_count ix) c d b in (r.0, r.1, r.3, omega (arith, r.4), r.5, r.6)
