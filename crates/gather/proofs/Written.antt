-- A clause as it stands mentions root r exactly when a variable of the class of r stands in it; a count says which clauses are wide.
use mathlib.Core.Path.{◌≡◌, ap, ◌∙◌}
use mathlib.Core.Bool.{true}
use mathlib.Core.List.{List, Memᴰ}
use Prim.Native.Nat.{ℕ, ◌+◌, ◌*◌, ◌/◌, ◌≤◌, ◌<◌}
use native.Mathlib.Omega.{arith}
use borrow.Author.Tests.{lt-ltb, ltb-true}
use lib.ListN.{get_or}
use lib.Dec.{ltb}
use Rattle.general.specs.Booleans.{and_true, and_intro}
use Rattle.general.specs.Lists.{from_mem}
use Rattle.literal.specs.declared.Literal.{Literal}
use Rattle.literal.specs.declared.Literal.TheVariants.{Pos, Neg}
use Rattle.literal.specs.Literal.{var, literal_at, max_variables}
use Rattle.literal.proofs.Codes.{literal_at_code_of, var_at}
use Rattle.theory.specs.State.{value, standing}
use Rattle.theory.proofs.States.{value_variable}
use Rattle.theory.proofs.Clauses.{mem_occurs, occurs_mem, mem_standing}
use Rattle.theory.proofs.Counts.{mentions, Wide, holds_mentions}
use Rattle.state.specs.State.{state_of}
use Rattle.state.proofs.Values.{state_of_inside}
use Rattle.occurrences.specs.Index.{Indexed, clause_count, clause_of, code_at, start_at}
use Rattle.tally.specs.Tally.{state_in, count_in}
use Rattle.tally.specs.Counts.{Exact, one_true}
use Rattle.tally.proofs.Standing.{count_wide, wide_three, wide_low}
use Rattle.gather.specs.Gathering.{is_wide, WideIn, Written}
use Rattle.occurrences.specs.declared.Index.{Index}
use Rattle.tally.specs.declared.Tally.{Tally}

-- what variable q stands for
pub stands_for : (v : List ℕ) (q : ℕ) → q ≤ max_variables → var (state_of v q) ≡ get_or v q 0 / 2
stands_for v q h = ap var (state_of_inside v q h) ∙ var_at (get_or v q 0)

module _ {ix : Index} (index : Indexed ix) (g : ℕ) (inside : g < clause_count ix) where
  -- a literal of the clause is an occurrence of its variable
  pub known : (l : Literal) → Memᴰ l (clause_of ix g) → var l ≤ max_variables
  known l m =
      let w = from_mem (λ i. literal_at (code_at ix i)) (start_at ix g) _ l m in
      let k = index.known g w.0 inside w.1 (omega (arith, w.2, index.starts g inside)) in
      omega (arith, ap var w.3, var_at (code_at ix w.0), k.1)

  pub mem_written : (l : Literal) → Memᴰ l (clause_of ix g) → Written ix (var l) g
  mem_written l m = go l m (known l m)
    where
      go : (l : Literal) → Memᴰ l (clause_of ix g) → var l ≤ max_variables → Written ix (var l) g
      go (Pos p) m b =
          let e : literal_at (2 * p + 0) ≡ Pos p = ap literal_at (omega arith) ∙ literal_at_code_of (Pos p) in
          (0, omega arith, rw (index.each p g 0 b inside (omega arith), e) (mem_occurs (clause_of ix g) (Pos p) m))
      go (Neg p) m b = (1, omega arith, rw (index.each p g 1 b inside (omega arith), literal_at_code_of (Neg p)) (mem_occurs (clause_of ix g) (Neg p) m))

  module _ (v : List ℕ) (r : ℕ) (opened : 0 < r) where
    pub written_mentions : (q : ℕ) → q ≤ max_variables → get_or v q 0 / 2 ≡ r → Written ix q g → 0 < mentions r (standing (state_of v) (clause_of ix g))
    written_mentions q b e w =
        let l = literal_at (2 * q + w.0) in
        let lq : var l ≡ q = var_at (2 * q + w.0) ∙ omega (arith, w.1) in
        let m : Memᴰ l (clause_of ix g) = occurs_mem (clause_of ix g) l (rw (← index.each q g w.0 b inside w.1) w.2) in
        let z : var (value (state_of v) l) ≡ r = value_variable (state_of v) l ∙ ap (λ (i : ℕ). var (state_of v i)) lq ∙ stands_for v q b ∙ e in
        holds_mentions r (standing (state_of v) (clause_of ix g)) (value (state_of v) l, mem_standing (state_of v) (clause_of ix g) l m (λ q. omega (arith, ap var q)), z)

  module _ (st : Tally) (exact : Exact ix st.values st.counts) where
    pub wide_in : Wide (standing (state_in st) (clause_of ix g)) → WideIn ix st g
    wide_in w = (
      inside,
      and_intro (lt-ltb 2 (count_in st g) (omega (arith, wide_three index exact g inside w))) (lt-ltb (count_in st g) one_true (wide_low index exact g inside w)),
    )

    pub in_wide : is_wide (count_in st g) ≡ true → Wide (standing (state_in st) (clause_of ix g))
    in_wide e =
        let b = and_true (ltb 2 (count_in st g)) (ltb (count_in st g) one_true) e in
        count_wide index exact g inside (omega (arith, ltb-true 2 (count_in st g) b.0)) (ltb-true (count_in st g) one_true b.1)
