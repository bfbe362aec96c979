-- A branch on a variable of a live clause: the side that makes its literal true closes at least three variables, so the tree needs at most N splits.
use mathlib.Core.Path.{◌≡◌, refl, ap, sym, ◌∙◌}
use mathlib.Core.Logic.{◌≢◌, ⊎_elim}
use Rattle.std.specs.Prelude.{Option, None, Some}
use mathlib.Core.List.{[], ◌∷◌, Memᴰ}
use Prim.Native.Nat.{ℕ, suc, ◌+◌, ◌-◌, ◌<◌, ◌≤◌}
use native.Mathlib.Decide.{ℕ_discrete}
use native.Mathlib.Omega.{arith}
use lib.ListN.{length}
use Rattle.literal.specs.declared.Literal.{Literal}
use Rattle.literal.specs.declared.Literal.TheVariants.{Pos, Neg}
use Rattle.literal.specs.Literal.{TRUE, FALSE, var, opposite}
use Rattle.theory.specs.Formula.{Clause, Formula, Within}
use Rattle.theory.specs.Order.{IsLeast}
use Rattle.theory.specs.State.{State, initial, value, replace, assign, standing, opens, Open, WellFormed}
use Rattle.theory.specs.Rules.{occurs}
use Rattle.theory.specs.Propagation.{step, Settled, dead, rest, settle}
use Rattle.theory.specs.Bound.{N}
use Rattle.theory.specs.Search.{branch_variable, split_on, decided, decide, tree_of}
use Rattle.theory.proofs.Literals.{literal_cases, of_variable_lem}
use Rattle.theory.proofs.States.{Based, well_based, base_true, base_false, Side, side, Valid, assign_well, value_assign, replace_same, replace_other, Refines, refines_value, refines_trans, refines_assign, refines_root, opens_le, opens_bound, opens_assign}
use Rattle.theory.proofs.Clauses.{occurs_here, occurs_tail, mem_occurs, standing_refines}
use Rattle.theory.proofs.Closed.{Alive, Closed, quiet_closed}
use Rattle.theory.proofs.Asks.{standing_no_false, standing_fixed, standing_inside, step_rests}
use Rattle.theory.proofs.Forced.{beside_true}
use Rattle.theory.proofs.Propagation.{initial_well, Ends, propagate_ends}
use Rattle.theory.proofs.Live.{InLive, live_open, branch_least}
use Rattle.theory.proofs.Bound.{N_branch}
use Rattle.theory.proofs.Tree.{Narrower, Narrow, splits_le}

-- where no rule fits every clause is closed
pub rests_closed : (f : Formula) (s : State) → step f s ≡ None → (c : Clause) → Memᴰ c f → Closed (standing s c)
rests_closed f s e c m = quiet_closed (standing s c) (standing_no_false s c) ((step_rests f s e).quiet c m)

-- two more literals of a live clause beside x ----------------------------------------------------------------------

pub record Beside (d : Clause) (x : Literal) : Type 0 where
  pub second : Literal
  pub third : Literal
  pub second_in : Memᴰ second d
  pub third_in : Memᴰ third d
  pub second_apart : second ≢ x
  pub third_apart : third ≢ x
  pub apart : third ≢ second

pub beside : (d : Clause) (x : Literal) → 3 ≤ length d → ((y : Literal) → occurs y d ≤ 1) → Beside d x
beside [] x h once = absurd (omega arith)
beside (a ∷ []) x h once = absurd (omega arith)
beside (a ∷ b ∷ []) x h once = absurd (omega arith)
beside (a ∷ b ∷ c ∷ d) x h once = ⊎_elim
    (λ (e : a ≡ x). two b c (Memᴰ.tail (Memᴰ.head refl)) (Memᴰ.tail (Memᴰ.tail (Memᴰ.head refl))) (λ q. ab (q ∙ sym e)) (λ q. ac (q ∙ sym e)) bc)
    (λ (g : a ≢ x). ⊎_elim
    (λ (e : b ≡ x). two a c (Memᴰ.head refl) (Memᴰ.tail (Memᴰ.tail (Memᴰ.head refl))) g (λ q. bc (q ∙ sym e)) ac)
    (λ (k : b ≢ x). two a b (Memᴰ.head refl) (Memᴰ.tail (Memᴰ.head refl)) g k ab)
    (literal_cases b x))
    (literal_cases a x)
  where
    two : (y z : Literal) → Memᴰ y (a ∷ b ∷ c ∷ d) → Memᴰ z (a ∷ b ∷ c ∷ d) → y ≢ x → z ≢ x → z ≢ y → Beside (a ∷ b ∷ c ∷ d) x
    two y z my mz p q r = record { second = y; third = z; second_in = my; third_in = mz; second_apart = p; third_apart = q; apart = r }

    -- the front stands once
    again : (y : Literal) → y ≡ a → Memᴰ y (b ∷ c ∷ d) → ⊥
    again y e m = omega (arith, once a, occurs_here a (b ∷ c ∷ d), rw e at (mem_occurs (b ∷ c ∷ d) y m))

    ab : b ≢ a
    ab e = again b e (Memᴰ.head refl)

    ac : c ≢ a
    ac e = again c e (Memᴰ.tail (Memᴰ.head refl))

    bc : c ≢ b
    bc e = omega (arith, once b, occurs_tail b a (b ∷ c ∷ d), occurs_here b (c ∷ d), mem_occurs (c ∷ d) b (Memᴰ.head (sym e)))

-- literals of a live clause that differ are of different variables
pub alive_differ : {d : Clause} → Alive d → (x y : Literal) → Memᴰ x d → Memᴰ y d → y ≢ x → var y ≢ var x
alive_differ {d} a x y mx my h e = ⊎_elim h
    (λ (q : y ≡ opposite x). omega (arith, a.apart x mx, rw q at (mem_occurs d y my)))
    (of_variable_lem y x e)

module _ {n : ℕ} {f : Formula} (within : Within n f) where
  -- dead, or at most m open variables
  abbrev pub AtMost : ℕ → Settled → Type 0
  AtMost m dead = Unit {0}
  AtMost m (rest u) = opens u n ≤ m

  abbrev pub Leaves : State → ℕ → Type 0
  Leaves s m = AtMost m (settle n f s)

  pub settle_ends : (s : State) → WellFormed n s → Ends n f s (settle n f s)
  settle_ends s w = propagate_ends within (suc n) s w (omega (arith, opens_bound s n))

  module _ (u : State) (w : WellFormed n u) where
    -- a side of the branch on p settles to a state with at least one open variable fewer
    module _ (p : ℕ) (h : InLive f u p) (t : Literal) (z : var t ≡ 0) where
      one : Side n u (assign (Pos p) t u)
      one = side w (live_open w within h) t z

      side_fewer : Leaves (assign (Pos p) t u) (opens u n - 1)
      side_fewer = go (settle n f (assign (Pos p) t u)) (settle_ends (assign (Pos p) t u) one.well)
        where
          go : (o : Settled) → Ends n f (assign (Pos p) t u) o → AtMost (opens u n - 1) o
          go dead e = tt
          go (rest v) e = omega (arith, e.fewer, one.closes)

    -- three literals of different open variables, closed one after the other
    record Closes (x y z : Literal) : Type 0 where
      state : State
      well : WellFormed n state
      fewer : opens state n + 3 ≡ opens u n
      kept : (q : ℕ) → u q ≡ Pos q → q ≢ var x → q ≢ var y → q ≢ var z → state q ≡ Pos q

    closes : (x y z : Literal) → Valid n u x FALSE → Valid n u y FALSE → Valid n u z FALSE → var y ≢ var x → var z ≢ var x → var z ≢ var y → Closes x y z
    closes x y z vx vy vz yx zx zy = record {
      state = assign z FALSE (assign y FALSE (assign x FALSE u));
      well = assign_well (assign_well (assign_well w vx) vy') vz'';
      fewer = omega (
        arith,
        opens_assign w vx n vx.lower vx.inside,
        opens_assign (assign_well w vx) vy' n vy.lower vy.inside,
        opens_assign (assign_well (assign_well w vx) vy') vz'' n vz.lower vz.inside,
      );
      kept = λ q e a b c.
          ap (λ (l : Literal). replace z FALSE (replace y FALSE (replace x FALSE l))) e ∙
          ap (λ (l : Literal). replace z FALSE (replace y FALSE l)) (replace_other x FALSE (Pos q) a) ∙
          ap (replace z FALSE) (replace_other y FALSE (Pos q) b) ∙
          replace_other z FALSE (Pos q) c;
    }
      where
        -- a step on another variable leaves a step valid
        still : (s : State) (k l : Literal) → WellFormed n s → Valid n s k FALSE → Valid n s l FALSE → var l ≢ var k → Valid n (assign k FALSE s) l FALSE
        still s k l ws vk vl h = record {
          fixed_x = value_assign s k FALSE l ∙ ap (replace k FALSE) vl.fixed_x ∙ replace_other k FALSE l h;
          fixed_t = base_false (well_based (assign_well ws vk));
          lower = vl.lower;
          inside = vl.inside;
        }

        vy' : Valid n (assign x FALSE u) y FALSE
        vy' = still u x y w vx vy yx

        vz'' : Valid n (assign y FALSE (assign x FALSE u)) z FALSE
        vz'' = still (assign x FALSE u) y z (assign_well w vx) vy' (still u x z w vx vz zx) zy

    module _ (p : ℕ) (h : InLive f u p) where
      abbrev d : Clause
      d = standing u h.clause

      b : Beside d h.literal
      b = beside d h.literal h.lives.three h.lives.once

      closing : (l : Literal) → Memᴰ l d → Valid n u l FALSE
      closing l m = record {
        fixed_x = standing_fixed within w h.clause l m;
        fixed_t = base_false (well_based w);
        lower = h.lives.opened l m;
        inside = standing_inside within w h.clause l h.member m;
      }

      live_closes : Closes h.literal b.second b.third
      live_closes =
          closes h.literal b.second b.third (closing h.literal h.standing_in) (closing b.second b.second_in) (closing b.third b.third_in)
          (alive_differ h.lives h.literal b.second h.standing_in b.second_in b.second_apart)
          (alive_differ h.lives h.literal b.third h.standing_in b.third_in b.third_apart)
          (alive_differ h.lives b.second b.third b.second_in b.third_in b.apart)

      -- a live clause has three open variables
      live_three : 3 ≤ opens u n
      live_three = omega (arith, live_closes.fewer)

      -- where no more are open, all open variables stand in the clause
      pub live_all : opens u n ≤ 3 → {q : ℕ} → Open n u q → (l : Literal) × Memᴰ l d × (var l ≡ q)
      live_all few {q} o = elim (ℕ_discrete (var h.literal) q) [
        | yes e ↦ (h.literal, h.standing_in, e)
        | no x ↦ elim (ℕ_discrete (var b.second) q) [
          | yes e ↦ (b.second, b.second_in, e)
          | no y ↦ elim (ℕ_discrete (var b.third) q) [
            | yes e ↦ (b.third, b.third_in, e)
            | no z ↦
                let root = live_closes.kept q o.root (λ e. x (sym e)) (λ e. y (sym e)) (λ e. z (sym e)) in
                let left = side live_closes.well (record { positive = o.positive; inside = o.inside; root = root }) TRUE refl in
                absurd (omega (arith, live_closes.fewer, left.closes))
          ]
        ]
      ]

      -- another literal of the clause
      pub live_second : (l : Literal) × Memᴰ l d × (var l ≢ var h.literal)
      live_second = (b.second, b.second_in, alive_differ h.lives h.literal b.second h.standing_in b.second_in b.second_apart)

      -- a literal with a constant for its value is not open
      shut : (v : State) (l k : Literal) → 0 < var l → value v l ≡ k → var k ≡ 0 → (q : ℕ) → v q ≡ Pos q → q ≢ var l
      shut v (Pos r) k o e i q g z = omega (arith, ap var (sym (rw z at g) ∙ e))
      shut v (Neg r) k o e i q g z = omega (arith, ap var (sym (ap opposite (rw z at g)) ∙ e))

      -- the side that makes the live clause's literal true
      module _ (t : Literal) (z : var t ≡ 0) (true_side : value (assign (Pos p) t u) h.literal ≡ TRUE) where
        side_three_fewer : Leaves (assign (Pos p) t u) (opens u n - 3)
        side_three_fewer = go (settle n f (assign (Pos p) t u)) (settle_ends (assign (Pos p) t u) (one p h t z).well)
          where
            three : Closes h.literal b.second b.third
            three = live_closes

            go : (o : Settled) → Ends n f (assign (Pos p) t u) o → AtMost (opens u n - 3) o
            go dead e = tt
            go (rest v) e =
                let r : Refines u v = refines_trans (refines_assign (Pos p) t w) e.refines in
                let base : Based v = well_based e.well in
                let k : Closed (standing v d) = rw (standing_refines r base h.clause) (rests_closed f v e.rests h.clause h.member) in
                let tx : value v h.literal ≡ TRUE = sym (refines_value e.refines h.literal) ∙ ap (value v) true_side ∙ base_true base in
                let fy = beside_true base d k b.second h.literal b.second_in h.standing_in b.second_apart tx in
                let fz = beside_true base d k b.third h.literal b.third_in h.standing_in b.third_apart tx in
                omega (
                  arith,
                  three.fewer,
                  opens_le three.state v n (λ q g.
                      three.kept q (refines_root w e.well r q g)
                      (shut v h.literal TRUE (h.lives.opened h.literal h.standing_in) tx refl q g)
                      (shut v b.second FALSE (h.lives.opened b.second b.second_in) fy refl q g)
                      (shut v b.third FALSE (h.lives.opened b.third b.third_in) fz refl q g)),
                )

      narrow_at : (m : ℕ) → opens u n ≤ m → Narrower N (WellFormed n) Leaves m (assign (Pos p) FALSE u) (assign (Pos p) TRUE u)
      narrow_at m l = go h.literal refl
        where
          -- one variable fewer on one side, three on the other
          pays : 1 + N (opens u n - 1) + N (opens u n - 3) ≤ N m
          pays = N_branch m (opens u n - 1) (opens u n - 3) (omega (arith, live_three)) (omega (arith, live_three))

          -- what the step makes of its own variable
          stepped : (t : Literal) → value (assign (Pos p) t u) (Pos p) ≡ t
          stepped t = ap (replace (Pos p) t) (live_open w within h).root ∙ replace_same (Pos p) t

          go : (x : Literal) → h.literal ≡ x → Narrower N (WellFormed n) Leaves m (assign (Pos p) FALSE u) (assign (Pos p) TRUE u)
          go (Pos q) e =
              let is : h.literal ≡ Pos p = e ∙ ap Pos (sym (h.variable ∙ ap var e)) in
              record {
                good_left = (one p h FALSE refl).well;
                good_right = (one p h TRUE refl).well;
                size_left = opens u n - 1;
                size_right = opens u n - 3;
                fits_left = side_fewer p h FALSE refl;
                fits_right = side_three_fewer TRUE refl (rw is (stepped TRUE));
                pays = pays;
              }
          go (Neg q) e =
              let is : h.literal ≡ Neg p = e ∙ ap Neg (sym (h.variable ∙ ap var e)) in
              record {
                good_left = (one p h FALSE refl).well;
                good_right = (one p h TRUE refl).well;
                size_left = opens u n - 3;
                size_right = opens u n - 1;
                fits_left = side_three_fewer FALSE refl (rw is (ap opposite (stepped FALSE)));
                fits_right = side_fewer p h TRUE refl;
                pays = omega (arith, pays);
              }

  narrow : (s : State) (m : ℕ) → WellFormed n s → Leaves s m → Narrow N (WellFormed n) Leaves m (decide n f s)
  unfolding decide
  narrow s m w h = go (settle n f s) (settle_ends s w) h
    where
      split : (u : State) → WellFormed n u → opens u n ≤ m → (o : Option ℕ) → IsLeast ◌≤◌ (InLive f u) o → Narrow N (WellFormed n) Leaves m (split_on n u o)
      split u wu l None k = tt
      split u wu l (Some p) k = narrow_at u wu p k.member m l

      go : (o : Settled) → Ends n f s o → AtMost m o → Narrow N (WellFormed n) Leaves m (decided (branch_variable f) n o)
      go dead e l = tt
      go (rest u) e l = split u e.well l (branch_variable f u) (branch_least f u (rests_closed f u e.rests))

  -- "For n placements the tree never needs more than the bound N(n)"
  pub tree_bound : (tree_of n f).splits ≤ N n
  unfolding tree_of
  tree_bound = splits_le N (WellFormed n) Leaves (decide n f) narrow (suc n) 1 n initial (initial_well n) (go (settle n f initial) (settle_ends initial (initial_well n)))
    where
      go : (o : Settled) → Ends n f initial o → AtMost n o
      go dead e = tt
      go (rest u) e = opens_bound u n
