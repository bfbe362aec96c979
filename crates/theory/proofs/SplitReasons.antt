-- A5, in the tree: a reason is 0 exactly where a variable is open or a split decided it, and once given it stays below a split.
use mathlib.Core.Path.{◌≡◌, refl, sym, ◌∙◌}
use mathlib.Core.Logic.{◌⊎◌, ◌≢◌, ◌↔◌, ⊎_elim}
use mathlib.Core.List.{List, ◌∷◌, Memᴰ}
use Rattle.std.specs.Prelude.{Option, None, Some}
use Prim.Native.Nat.{ℕ, suc}
use native.Mathlib.Omega.{arith}
use Rattle.literal.specs.declared.Literal.{Literal}
use Rattle.literal.specs.declared.Literal.TheVariants.{Pos}
use Rattle.literal.specs.Literal.{TRUE, FALSE, var}
use Rattle.theory.specs.Formula.{Formula, Within}
use Rattle.theory.specs.State.{Open, WellFormed}
use Rattle.theory.specs.Propagation.{step}
use Rattle.theory.specs.Propagation as settled
use Rattle.theory.specs.Tree.{branch}
use Rattle.theory.specs.Search.{branch_variable}
use Rattle.theory.specs.Reasons.{Explained, assign_by, Explanation, dead, rest, propagate_by, explain, split_on_by, ended_by, decide_by, Node, top, left_out, taken}
use Rattle.theory.proofs.States.{Valid, side_valid}
use Rattle.theory.proofs.Propagation.{Ends}
use Rattle.theory.proofs.Live.{InLive, live_open, branch_least}
use Rattle.theory.proofs.Splits.{settle_ends, rests_closed}
use Rattle.theory.proofs.Forgetting.{settle_forgets}
use Rattle.theory.proofs.Reasons.{Accounted, accounted_split, given_stays, settling_accounted, initial_accounted, reason_kept}

module _ {n : ℕ} {f : Formula} (within : Within n f) where
  -- a split, and the state that it is made in
  record Splits (e : Explained) (p : ℕ) (u v : Explained) : Type 0 where
    state : Explained
    settles : explain n f e ≡ rest state
    on_open : Open n state.state p
    left : u ≡ assign_by 0 (Pos p) FALSE state
    right : v ≡ assign_by 0 (Pos p) TRUE state

  splits : {l : List ℕ} {e u v : Explained} {p : ℕ} → Accounted n l e → decide_by n f e ≡ branch p u v → Splits e p u v
  unfolding decide_by
  splits {l} {e} {u} {v} {p} c q = ends (explain n f e) refl q
    where
      ends : (o : Explanation) → explain n f e ≡ o → ended_by n f o ≡ branch p u v → Splits e p u v
      ends dead i q = absurd (let z : ◌≡◌ {A = ℕ} 0 1 = cc in omega arith)
      ends (rest w) i q = picks (branch_variable f w.state) refl q
        where
          quiet : step f w.state ≡ None
          quiet = let h : Ends n f e.state (settled.rest w.state) = rw (← settle_forgets n f e, i) at (settle_ends within e.state c.well) in h.rests

          well : WellFormed n w.state
          well = (settling_accounted within (suc n) e w c i).well

          picks : (o : Option ℕ) → branch_variable f w.state ≡ o → split_on_by n w o ≡ branch p u v → Splits e p u v
          picks None j q = absurd (let z : ◌≡◌ {A = ℕ} 0 1 = cc in omega arith)
          picks (Some r) j q =
              let at : r ≡ p = cc in
              let live : InLive f w.state r = (rw j at (branch_least f w.state (rests_closed f w.state quiet))).member in
              record { state = w; settles = i; on_open = rw at at (live_open well within live); left = cc; right = cc }

  -- both sides of a split
  module _ {l : List ℕ} {e u v : Explained} {p : ℕ} (c : Accounted n l e) (q : decide_by n f e ≡ branch p u v) where
    split : Splits e p u v
    split = splits c q

    before : Accounted n l split.state
    before = settling_accounted within (suc n) e split.state c split.settles

    valid : (t : Literal) → var t ≡ 0 → Valid n split.state.state (Pos p) t
    valid = side_valid before.well split.on_open

    left_accounted : Accounted n (p ∷ l) u
    left_accounted = rw split.left (accounted_split before (valid FALSE refl))

    right_accounted : Accounted n (p ∷ l) v
    right_accounted = rw split.right (accounted_split before (valid TRUE refl))

    sides_stay : (k : ℕ) (w : Explained) → propagate_by k f e ≡ rest w → (r : ℕ) → w.reasons r ≢ 0 → (u.reasons r ≡ w.reasons r) × (v.reasons r ≡ w.reasons r)
    sides_stay k w i r h = (rw split.left (at FALSE refl), rw split.right (at TRUE refl))
      where
        settled_stays : split.state.reasons r ≡ w.reasons r
        settled_stays = reason_kept within k e w split.state c i split.settles r h

        at : (t : Literal) → var t ≡ 0 → (assign_by 0 (Pos p) t split.state).reasons r ≡ w.reasons r
        at t z = given_stays before (valid t z) 0 r (λ j. h (sym settled_stays ∙ j)) ∙ settled_stays

  node_accounted : {l : List ℕ} {e : Explained} → Node n f l e → Accounted n l e
  node_accounted top = initial_accounted n
  node_accounted (left_out h q) = left_accounted (node_accounted h) q
  node_accounted (taken h q) = right_accounted (node_accounted h) q

  -- a reason once given, before settling or after some of its steps, stays on both sides of the split
  pub node_stays : {l : List ℕ} {e u v : Explained} {p : ℕ} → Node n f l e → decide_by n f e ≡ branch p u v →
      (k : ℕ) (w : Explained) → propagate_by k f e ≡ rest w → (r : ℕ) → w.reasons r ≢ 0 → (u.reasons r ≡ w.reasons r) × (v.reasons r ≡ w.reasons r)
  node_stays h = sides_stay (node_accounted h)

  -- wherever the search settles, "a reason is 0 exactly where the placement is open, or a split decided it"
  pub reason_none : {l : List ℕ} {e : Explained} → Node n f l e → (k : ℕ) (u : Explained) → propagate_by k f e ≡ rest u → (p : ℕ) →
      (u.reasons p ≡ 0) ↔ ((u.state p ≡ Pos p) ⊎ Memᴰ p l)
  reason_none h k u q p =
      let c = settling_accounted within k _ u (node_accounted h) q in
      (c.none_given p, ⊎_elim (c.open_none p) (c.split_none p))
