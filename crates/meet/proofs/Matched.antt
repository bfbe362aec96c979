-- What the marks of one clause and the reading of another say of rules 7 and 8.
use mathlib.Core.Path.{◌≡◌, refl, ap, sym, ◌∙◌}
use mathlib.Core.Logic.{◌⊎◌, inl, inr, ⊎_elim}
use mathlib.Core.List.{List, Memᴰ}
use Prim.Native.Nat.{ℕ, ◌*◌, ◌/◌, ◌<◌, ◌≤◌}
use native.Mathlib.Decide.{dec_lt}
use native.Mathlib.Omega.{arith}
use lib.ListN.{get_or}
use Rattle.general.specs.Lists.{Before}
use Rattle.literal.specs.declared.Literal.{Literal}
use Rattle.literal.specs.Literal.{var, opposite, code_of, literal_at, max_variables, codes}
use Rattle.literal.proofs.Codes.{literal_at_code_of, var_at}
use Rattle.theory.specs.Formula.{Clause}
use Rattle.theory.specs.State.{standing}
use Rattle.theory.proofs.Literals.{opposite_opposite, var_opposite}
use Rattle.theory.proofs.Clauses.{standing_mem}
use Rattle.theory.proofs.Closed.{NoFalse}
use Rattle.theory.proofs.Ties.{ties_higher, ties_opposite}
use Rattle.theory.proofs.Asks.{standing_no_false}
use Rattle.theory.proofs.Counts.{Distinct, Wide, not_both}
use Rattle.theory.proofs.Pairs.{Meets, asks_crossed}
use Rattle.occurrences.specs.Index.{Indexed, clause_count, clause_of, formula_of}
use Rattle.occurrences.proofs.Formulas.{index_before}
use Rattle.tally.specs.Tally.{state_in, value_in}
use Rattle.tally.specs.Ring.{Classes}
use Rattle.theory.proofs.States.{value_variable}
use Rattle.gather.proofs.Written.{known, stands_for}
use Rattle.tie.specs.Tying.{Tying}
use Rattle.meet.specs.Meeting.{Marked, Like, Across, MetBy}
use Rattle.std.specs.Prelude.{None, Some}
use Rattle.meet.specs.declared.Met.TheVariants.{Common, Crossed}
use Rattle.meet.proofs.Clauses.{wide_open, code_high}
use Rattle.occurrences.specs.declared.Index.{Index}
use Rattle.tally.specs.declared.Tally.{Tally}

-- clauses as they stand --------------------------------------------------------------------------------------------

module _ {dg dh : Clause} {marks : List ℕ} (m : Marked dg marks) (open_h : (y : Literal) → Memᴰ y dh → 0 < var y) where
  marked : (y z : Literal) → 0 < var y → var z ≡ var y → get_or marks (var y) 0 ≡ code_of z → Memᴰ z dg
  marked y z o v e =
      let n = m.only (var y) o (omega (arith, code_high z (omega arith))) in
      rw (e, literal_at_code_of z) at n

  like_there : (y : Literal) → Memᴰ y dh → Like marks y → Memᴰ y dg
  like_there y n e = marked y y (open_h y n) refl e

  across_there : (y : Literal) → Memᴰ y dh → Across marks y → Memᴰ (opposite y) dg
  across_there y n e = marked y (opposite y) (open_h y n) (var_opposite y) e

  -- a literal of g whose opposite stands in h
  crosses : (b : Literal) → Memᴰ b dg → Across marks (opposite b)
  crosses b n = rw (var_opposite b, opposite_opposite b) (m.all b n)

  module _ (wide : Wide dg × Wide dh) where
    pub apart_unmet : MetBy dh marks None → (a b : Literal) → ¬ Meets Wide dg dh a b
    apart_unmet met a b k = ⊎_elim
        (λ n. k.apart (met a (opposite b) n k.crossed_by (inl (m.all a k.left)) (crosses b k.crossing) ∙ var_opposite b))
        (λ n. k.apart (sym (var_opposite a) ∙ met (opposite a) (opposite b) n k.crossed_by (inr (crosses a k.left)) (crosses b k.crossing) ∙ var_opposite b))
        k.right

    pub common_meets : Distinct dh → (x : ℕ) → MetBy dh marks (Some (Common x)) → (b : Literal) × Meets Wide dg dh (literal_at x) b
    common_meets kh x (o, n, e, (y, j, q)) = (
      opposite y,
      record {
        both = wide;
        left = like_there (literal_at x) n e;
        right = inl n;
        crossing = across_there y j q;
        crossed_by = rw (opposite_opposite y) j;
        apart = λ v.
            let z : literal_at x ≡ opposite y = codes_same (v ∙ var_opposite y) in
            not_both kh y (open_h y j) j (rw z at n);
      },
    )
      where
        codes_same : var (literal_at x) ≡ var y → literal_at x ≡ opposite y
        codes_same v = sym (literal_at_code_of (literal_at x)) ∙ ap literal_at (sym e ∙ ap (λ (p : ℕ). get_or marks p 0) v ∙ q) ∙ literal_at_code_of (opposite y)

    pub crossed_meets : (low high : ℕ) → MetBy dh marks (Some (Crossed low high)) → Meets Wide dg dh (opposite (literal_at low)) (opposite (literal_at high))
    crossed_meets low high (o, l, (n, e), (j, q)) = record {
      both = wide;
      left = across_there (literal_at low) n e;
      right = inr (rw (opposite_opposite (literal_at low)) n);
      crossing = across_there (literal_at high) j q;
      crossed_by = rw (opposite_opposite (literal_at high)) j;
      apart = λ v. omega (arith, v, var_opposite (literal_at low), var_opposite (literal_at high), var_at low, var_at high);
    }

-- a clause does not meet itself
pub meets_self : {d : Clause} → NoFalse d → Wide d → Distinct d → (a b : Literal) → ¬ Meets Wide d d a b
meets_self f w k a b m = not_both k b (wide_open f w b m.crossing) m.crossing m.crossed_by

-- clauses of the index ---------------------------------------------------------------------------------------------

module _ (ix : Index) (st : Tally) (index : Indexed ix) (classes : Classes st.values st.links) where
  -- what stands in a clause is of a root
  pub standing_root : (g : ℕ) → g < clause_count ix → (y : Literal) → Memᴰ y (standing (state_in st) (clause_of ix g)) → (value_in st (var y) ≡ 2 * var y) × (var y ≤ max_variables)
  standing_root g h y m =
      let k = standing_mem (state_in st) (clause_of ix g) y m in
      let l = k.written in
      let b = known index g h l k.member in
      let e : var y ≡ value_in st (var l) / 2 = sym (ap var k.valued) ∙ value_variable (state_in st) l ∙ stands_for st.values (var l) b in
      rw e (classes.rooted (var l) b, omega (arith, classes.range (var l) b))

  pub code_root : (g : ℕ) → g < clause_count ix → (x : ℕ) → Memᴰ (literal_at x) (standing (state_in st) (clause_of ix g)) → (value_in st (x / 2) ≡ 2 * (x / 2)) × (x < codes)
  code_root g h x m =
      let k = rw (var_at x) at (standing_root g h (literal_at x) m) in
      (k.0, omega (arith, k.1))

  module _ (g h : ℕ) (ig : g < clause_count ix) (ih : h < clause_count ix) (distinct : Distinct (standing (state_in st) (clause_of ix h))) where
    -- two clauses that meet are two, in one order or the other
    pub before : {a b : Literal} → Meets Wide (standing (state_in st) (clause_of ix g)) (standing (state_in st) (clause_of ix h)) a b →
        Before (clause_of ix g) (clause_of ix h) (formula_of ix) ⊎ Before (clause_of ix h) (clause_of ix g) (formula_of ix)
    before {a} {b} m = elim (dec_lt g h) [
      | yes l ↦ inl (index_before ix g h l ih)
      | no l ↦ elim (dec_lt h g) [
        | yes r ↦ inr (index_before ix h g r ig)
        | no r ↦
            let e : g ≡ h = omega arith in
            absurd (meets_self (standing_no_false (state_in st) (clause_of ix h)) m.both.1 distinct a b (rw e at m))
      ]
    ]

    pub meets_tying : (low high : ℕ) → 1 < low → low / 2 < high / 2 → Memᴰ (literal_at low) (standing (state_in st) (clause_of ix h)) →
        Memᴰ (literal_at high) (standing (state_in st) (clause_of ix h)) →
        Meets Wide (standing (state_in st) (clause_of ix g)) (standing (state_in st) (clause_of ix h)) (opposite (literal_at low)) (opposite (literal_at high)) → Tying ix st low high
    meets_tying low high o l nl nh m = let a = code_root h ih low nl in let b = code_root h ih high nh in record {
      opened = o;
      order = l;
      below = b.1;
      low_root = a.0;
      high_root = b.0;
      asked = asks_crossed (λ c w. w.none_true) (state_in st) (clause_of ix g) (clause_of ix h) (before m) m (rw (opposite_opposite (literal_at low)) nl)
          (ties_opposite (ties_higher (literal_at low) (literal_at high) (omega (arith, var_at low, var_at high))));
    }
