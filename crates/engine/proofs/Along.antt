-- What steps keep of a clause; the steps of clearing a clause with a true literal.
use mathlib.Core.Path.{◌≡◌, refl, ap, sym, ◌∙◌}
use mathlib.Core.Logic.{inl, ◌≢◌}
use mathlib.Core.List.{Memᴰ}
use Prim.Native.Nat.{ℕ, ◌≤◌, ◌<◌}
use native.Mathlib.Omega.{arith}
use Rattle.literal.specs.declared.Literal.{Literal}
use Rattle.literal.specs.Literal.{TRUE, FALSE, var, opposite, literal_at, max_variables}
use Rattle.literal.proofs.Codes.{var_at}
use Rattle.theory.specs.Formula.{Clause, Formula, Within}
use Rattle.theory.specs.State.{State, value, replace, standing}
use Rattle.theory.specs.Rules.{occurs}
use Rattle.theory.proofs.Literals.{opposite_opposite, opposite_ne}
use Rattle.theory.proofs.States.{Refines, refines_value, value_opposite}
use Rattle.theory.proofs.Clauses.{standing_mem, mem_standing}
use Rattle.theory.proofs.Closed.{not_true_of}
use Rattle.theory.proofs.Asks.{by_one, one_true_lem, asks_open}
use Rattle.theory.proofs.Propagation.{Steps, none_left, one_more}
use Rattle.theory.proofs.Stepped.{mem_after, replace_constant}
use Rattle.theory.proofs.Counts.{open_count}
use Rattle.theory.proofs.Recounts.{opens_step}
use Rattle.theory.proofs.Falls.{Falls, still, falls}
use Rattle.general.specs.Lists.{from_mem}
use Rattle.occurrences.specs.Index.{Indexed, code_at, start_at, clause_of, formula_of}
use Rattle.occurrences.proofs.Formulas.{formula_mem}
use Rattle.moves.specs.Deciding.{Clearing, cleared, clears}
use Rattle.engine.specs.Short.{Resting}
use Rattle.occurrences.specs.declared.Index.{Index}

-- the literals of an index are of variables from 1 on
pub within_indexed : {ix : Index} → Indexed ix → Within max_variables (formula_of ix)
within_indexed {ix} index = record { low = λ c l mc ml. (bounds c l mc ml).0; high = λ c l mc ml. (bounds c l mc ml).1 }
  where
    bounds : (c : Clause) (l : Literal) → Memᴰ c (formula_of ix) → Memᴰ l c → (0 < var l) × (var l ≤ max_variables)
    bounds c l mc ml =
        let g = formula_mem ix mc in
        let m : Memᴰ l (clause_of ix g.0) = rw g.2 at ml in
        let i = from_mem (λ j. literal_at (code_at ix j)) (start_at ix g.0) _ l m in
        let k = index.known g.0 i.0 g.1 i.1 (omega (arith, i.2, index.starts g.0 g.1)) in
        rw (i.3, var_at (code_at ix i.0)) ((omega (arith, k.0)), omega (arith, k.1))

-- no step opens a literal
pub opens_along : {f : Formula} {s u : State} {k : ℕ} → Steps f s u k → (c : Clause) → open_count (standing u c) ≤ open_count (standing s c)
opens_along none_left c = omega arith
opens_along {s = s} (one_more x t a r) c = omega (arith, opens_along r c, opens_step s x t (asks_open a) c)

-- a literal and its opposite stay, where nothing is true
pub resting_kept : {s u : State} → Refines s u → (c : Clause) → occurs TRUE (standing u c) ≡ 0 → Resting (standing s c) → Resting (standing u c)
resting_kept {s} {u} r c z (y, my, mo) = (value u y, here, rw (value_opposite u y) at there)
  where
    -- what stood stands as what it became, unless that is false
    image : (k : Literal) → Memᴰ k (standing s c) → value u k ≢ FALSE → Memᴰ (value u k) (standing u c)
    image k m h =
        let w = standing_mem s c k m in
        let e : value u w.written ≡ value u k = sym (refines_value r w.written) ∙ ap (value u) w.valued in
        rw e at (mem_standing u c w.written w.member (λ q. h (sym e ∙ q)))

    -- and the opposite of a false literal would be true
    opened : (k l : Literal) → Memᴰ l (standing s c) → value u l ≡ opposite (value u k) → value u k ≢ FALSE
    opened k l m e q = not_true_of (standing u c) (value u l) z (image l m (λ f. opposite_ne FALSE (sym (e ∙ ap opposite q) ∙ f))) (e ∙ ap opposite q)

    here : Memᴰ (value u y) (standing u c)
    here = image y my (opened y (opposite y) mo (value_opposite u y))

    there : Memᴰ (value u (opposite y)) (standing u c)
    there = image (opposite y) mo (opened (opposite y) y my (sym (opposite_opposite (value u y)) ∙ ap opposite (sym (value_opposite u y))))

-- with a true literal, rule 2 asks that each open one becomes false
pub clearing_falls : {f : Formula} {c : Clause} {w : ℕ} {s u : State} → Memᴰ c f → Memᴰ TRUE (standing s c) → Clearing c w s u → Falls f s u
clearing_falls mc t cleared = still
clearing_falls {c = c} {s = s} mc t (clears x m o n r) =
    let e : replace x FALSE TRUE ≡ TRUE = replace_constant x FALSE o TRUE refl in
    let t' = rw e at (mem_after s x FALSE c TRUE t (λ q. opposite_ne FALSE (sym e ∙ q))) in
    falls x (inl (by_one c mc (one_true_lem t m o))) (clearing_falls mc t' r)
