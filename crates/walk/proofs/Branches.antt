-- The branch variable by a walk over the variables: what stands in a wide clause of the index.
use mathlib.Core.Path.{◌≡◌, ap, sym, ◌∙◌}
use mathlib.Core.Bool.{Bool, true, false}
use mathlib.Core.List.{List}
use Rattle.std.specs.Prelude.{None, Some}
use Prim.Native.Nat.{ℕ, ◌+◌, ◌*◌, ◌≤◌, ◌<◌}
use native.Mathlib.Decide.{ℕ_discrete}
use native.Mathlib.Omega.{arith}
use Rattle.literal.specs.declared.Literal.TheVariants.{Pos}
use Rattle.literal.specs.Literal.{var}
use Rattle.theory.specs.Search.{branch_variable}
use Rattle.theory.specs.State.{value, standing}
use Rattle.theory.proofs.Clauses.{standing_mem, mem_standing}
use Rattle.theory.proofs.Counts.{holds_mentions, mentions_holds}
use Rattle.theory.proofs.States.{fixed_pos, value_fixed}
use Rattle.theory.proofs.Guard.{InWide, branch_from, branch_none}
use Rattle.occurrences.specs.Index.{clause_of, formula_of}
use Rattle.occurrences.proofs.Formulas.{mem_formula, formula_mem}
use Rattle.tally.specs.Tally.{state_in, value_in}
use Rattle.gather.specs.Gathering.{AtRoot, StandsLive}
use Rattle.side.proofs.Calm.{calm_closed, wider}
use Rattle.side.proofs.Splitting.{open_code}
use Rattle.walk.specs.Branch.{Branching, BranchesOn, Branchable}
use Rattle.occurrences.specs.declared.Index.{Index}
use Rattle.tally.specs.declared.Tally.{Tally}

module _ {ix : Index} {st : Tally} {p : ℕ} (b : Branching ix st p) where
  -- one that stands for another stands nowhere
  pub not_root : ¬ (value_in st p ≡ 2 * p) → ¬ InWide (formula_of ix) (state_in st) p
  not_root n w =
      let e : state_in st p ≡ Pos p = rw w.stands_for at (fixed_pos (state_in st) (value (state_in st) w.written) (value_fixed b.well w.written)) in
      n (open_code st p b.inside e)

  pub stands_in : (r : Bool) → StandsLive ix st p r → BranchesOn ix st p r
  stands_in true k =
      let c = clause_of ix k.0 in
      let l = mentions_holds p (standing (state_in st) c) k.3 in
      let e = standing_mem (state_in st) c l.0 l.1 in
      record { clause = c; member = mem_formula ix k.0 k.1; wide = k.2; written = e.written; written_in = e.member; stands_for = ap var e.valued ∙ l.2 }
  stands_in false k = λ w.
      let i = formula_mem ix w.member in
      let m = mem_standing (state_in st) w.clause w.written w.written_in (λ e. omega (arith, ap var e, w.stands_for, b.positive)) in
      let h = rw i.2 at (holds_mentions p (standing (state_in st) w.clause) (value (state_in st) w.written, m, w.stands_for)) in
      omega (arith, h, k i.0 i.1 (rw i.2 at w.wide))

  pub at_root : value_in st p ≡ 2 * p → AtRoot ix st p
  at_root e = let t = b.calm.tallied in
      record { index = t.index; exact = t.exact; linked = t.linked; classes = t.classes; opened = b.positive; inside = b.inside; root = e }

-- no variable from `from` on and under p stands in a wide clause
pub record Passed (ix : Index) (st : Tally) (from n p : ℕ) : Type 0 where
  pub able : Branchable ix st from n
  pub begins : from ≤ p
  pub none : (r : ℕ) → from ≤ r → r < p → ¬ InWide (formula_of ix) (state_in st) r

pub passed_begins : {ix : Index} {st : Tally} {from n : ℕ} → Branchable ix st from n → Passed ix st from n from
passed_begins k = record { able = k; begins = omega arith; none = λ r a c. absurd (omega arith) }

module _ {ix : Index} {st : Tally} {from n p : ℕ} (w : Passed ix st from n p) where
  pub passed_branching : p ≤ n → Branching ix st p
  passed_branching h = record {
    calm = w.able.calm;
    well = wider w.able.small w.able.well;
    positive = omega (arith, w.able.positive, w.begins);
    inside = omega (arith, w.able.small);
  }

  pub passed_found : InWide (formula_of ix) (state_in st) p → Some p ≡ branch_variable (formula_of ix) (state_in st)
  passed_found i = sym (branch_from w.able.guard (calm_closed w.able.calm) p (omega (arith, w.able.positive, w.begins)) i w.none)

  pub passed_all : n < p → None ≡ branch_variable (formula_of ix) (state_in st)
  passed_all h = sym (branch_none w.able.guard (calm_closed w.able.calm) w.able.within w.able.well (λ r i j. w.none r i (omega arith)))

  pub passed_more : ¬ InWide (formula_of ix) (state_in st) p → Passed ix st from n (p + 1)
  passed_more i = record {
    able = w.able;
    begins = omega (arith, w.begins);
    none = λ r a c. elim (ℕ_discrete r p) [ yes e ↦ rw e i | no e ↦ w.none r a (omega arith) ];
  }
