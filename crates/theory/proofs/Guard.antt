-- Below a branch on p no open variable up to p stands in a live clause again, so the next branch variable may be looked for from p + 1 on.
use mathlib.Core.Path.{◌≡◌, refl, ap, sym, ◌∙◌}
use mathlib.Core.Logic.{◌⊎◌, inl, inr, ⊎_elim}
use Rattle.std.specs.Prelude.{Option, None, Some}
use mathlib.Core.List.Memᴰ
use mathlib.Core.List.{[], ◌∷◌, Memᴰ}
use Prim.Native.Nat.{ℕ, suc, ◌<◌, ◌≤◌}
use native.Mathlib.Omega.{arith}
use native.Mathlib.Decide.{ℕ_discrete, dec_lt}
use Rattle.general.specs.Lists.{before_left}
use Rattle.literal.specs.declared.Literal.{Literal}
use Rattle.literal.specs.declared.Literal.TheVariants.{Pos}
use Rattle.literal.specs.Literal.{var, opposite}
use Rattle.theory.specs.Formula.{Clause, Formula, Within}
use Rattle.theory.specs.Order.{IsLeast}
use Rattle.theory.specs.State.{State, value, assign, standing, WellFormed}
use Rattle.theory.specs.Search.{branch_variable}
use Rattle.theory.proofs.Literals.{var_opposite, of_variable_lem}
use Rattle.theory.proofs.Clauses.{occurs_here, mem_occurs, standing_mem, mem_standing}
use Rattle.theory.proofs.Closed.{Alive, Closed, met, resting, alive}
use Rattle.theory.proofs.Forms.{in_pair}
use Rattle.theory.proofs.Ties.{Ties, ties_above}
use Rattle.theory.proofs.Asks.{AsksOne, one_true_lem, only_one, stands_twice, opposites, only_two, common, crossed, Asks, by_one, by_two, open_step}
use Rattle.theory.proofs.Propagation.{Steps, none_left, one_more, asked_well}
use Rattle.theory.proofs.Live.{InLive, in_live, live_alive, live_open, branch_least}
use Rattle.theory.proofs.Stepped.{replace_alike, after_mem, stood}
use Rattle.theory.proofs.Counts.{Wide, holds_mentions}
use Rattle.theory.proofs.Recounts.{mentions_gone}
use Rattle.theory.proofs.ByCount.{alive_wide, live_counted}

-- nothing open under p stands in d, or d is of one variable (met, or at rest)
abbrev pub Above : ℕ → Clause → Type 0
Above p d = (x : Literal) → Memᴰ x d → 0 < var x → p ≤ var x

abbrev pub OneVariable : Clause → Type 0
OneVariable d = (x y : Literal) → Memᴰ x d → Memᴰ y d → var x ≡ var y

pub record Guard (f : Formula) (s : State) (p : ℕ) : Type 0 where
  pub at : (c : Clause) → Memᴰ c f → Above p (standing s c) ⊎ OneVariable (standing s c)

-- where it begins --------------------------------------------------------------------------------------------------

pub guard_start : (f : Formula) (s : State) → Guard f s 1
guard_start f s = record { at = λ c m. inl (λ x i o. o) }

-- at a branch on p
pub guard_branch : {p : ℕ} {f : Formula} {s : State} → ((c : Clause) → Memᴰ c f → Closed (standing s c)) → branch_variable f s ≡ Some p → Guard f s p
guard_branch {p} {f} {s} closed e = record { at = λ c m. forms (closed c m) (λ a x i o. least (var x) (in_live c m a x i)) }
  where
    least : (q : ℕ) → InLive f s q → p ≤ q
    least = (rw e at (branch_least f s closed)).least

    of_z : (z x : Literal) → Memᴰ x (z ∷ opposite z ∷ []) → var x ≡ var z
    of_z z x a = ⊎_elim (λ q. ap var q) (λ q. ap var q ∙ var_opposite z) (in_pair x a)

    forms : {d : Clause} → Closed d → (Alive d → Above p d) → Above p d ⊎ OneVariable d
    forms met i = inr (λ x y a b. ap var (Memᴰ.eq_of_singleton a ∙ sym (Memᴰ.eq_of_singleton b)))
    forms (resting z o) i = inr (λ x y a b. of_z z x a ∙ sym (of_z z y b))
    forms (alive a) i = inl (i a)

-- a step -----------------------------------------------------------------------------------------------------------

-- a step keeps it where t is a constant or not under p
pub guard_assign : {p : ℕ} {f : Formula} {s : State} (x t : Literal) → 0 < var x → (0 < var t → p ≤ var t) → Guard f s p → Guard f (assign x t s) p
guard_assign {p} {f} {s} x t opened h g = record { at = λ c m. ⊎_elim (λ a. inl (above c a)) (λ a. inr (one c a)) (g.at c m) }
  where
    above : (c : Clause) → Above p (standing s c) → Above p (standing (assign x t s) c)
    above c a y m o = elim (ℕ_discrete (var y) (var t)) [
      | yes e ↦ rw e (h (omega arith))
      | no e ↦ a y (stood s x t opened c y m e) o
    ]

    one : (c : Clause) → OneVariable (standing s c) → OneVariable (standing (assign x t s) c)
    one c a y z m k =
        let v = after_mem s x t opened c y m in
        let w = after_mem s x t opened c z k in
        sym (ap var v.2) ∙ replace_alike x t v.0 w.0 (a v.0 w.0 v.1 w.1) ∙ ap var w.2

-- both sides of the branch on p: nothing up to p
pub guard_side : {p : ℕ} {f : Formula} {s : State} (t : Literal) → 0 < p → var t ≡ 0 → Guard f s p → Guard f (assign (Pos p) t s) (suc p)
guard_side {p} {f} {s} t o z g = record { at = λ c m. ⊎_elim (λ a. inl (λ x i j. above c x i j (a x i j))) inr ((guard_assign (Pos p) t o (λ q. absurd (omega arith)) g).at c m) }
  where
    above : (c : Clause) (x : Literal) → Memᴰ x (standing (assign (Pos p) t s) c) → 0 < var x → p ≤ var x → suc p ≤ var x
    above c x m i h = elim (ℕ_discrete (var x) p) [
      | yes e ↦ absurd (omega (arith, mentions_gone s (Pos p) t o (λ q. omega arith) c, holds_mentions p (standing (assign (Pos p) t s) c) (x, m, e)))
      | no e ↦ omega arith
    ]

-- so on either side of a settled state's split
pub guard_split : {p : ℕ} {f : Formula} (s : State) → ((c : Clause) → Memᴰ c f → Closed (standing s c)) → branch_variable f s ≡ Some p → (t : Literal) → var t ≡ 0 →
    Guard f (assign (Pos p) t s) (suc p)
guard_split {p} {f} s closed e t z = guard_side t positive z (guard_branch closed e)
  where
    h : InLive f s p
    h = (rw e at (branch_least f s closed)).member

    positive : 0 < p
    positive = rw h.variable (h.lives.opened h.literal h.standing_in)

-- both sides of a tie stand in a clause of two variables
guard_ties : {p : ℕ} {d : Clause} {x t : Literal} (y z : Literal) → Above p d ⊎ OneVariable d → Memᴰ y d → Memᴰ z d → 0 < var y → 0 < var z → Ties y z x t →
    0 < var t → p ≤ var t
guard_ties {p} y z (inl a) my mz oy oz k o = ties_above p k (a y my oy) (a z mz oz) o
guard_ties y z (inr a) my mz oy oz k o = absurd (k.apart (a y z my mz))

guard_asked : {p : ℕ} {f : Formula} {s : State} {x t : Literal} → Guard f s p → Asks f s x t → 0 < var t → p ≤ var t
guard_asked {p} {f} {s} g (by_one c m a) o = go (g.at c m) a o
  where
    go : {d : Clause} {x t : Literal} → Above p d ⊎ OneVariable d → AsksOne d x t → 0 < var t → p ≤ var t
    go k (one_true_lem a b i) o = absurd (omega arith)
    go k (only_one a i) o = absurd (omega arith)
    go k (stands_twice a i) o = absurd (omega arith)
    go k (opposites y a b i j l) o = absurd (omega arith)
    go k (only_two y z e oy oz i) o = guard_ties y z k (rw e (Memᴰ.head refl)) (rw e (Memᴰ.tail (Memᴰ.head refl))) oy oz i o
guard_asked g (by_two d h b (common y xg xh yg yh i k)) o = absurd (omega arith)
guard_asked g (by_two d h b (crossed y z yg yh zg zh oy oz k)) o = guard_ties y z (g.at d (before_left b)) yg zg oy oz k o

-- every step that is asked keeps it
pub guard_steps : {n : ℕ} {f : Formula} → Within n f → {p : ℕ} {s u : State} {m : ℕ} → WellFormed n s → Steps f s u m → Guard f s p → Guard f u p
guard_steps within w none_left g = g
guard_steps within w (one_more x t k r) g = guard_steps within (asked_well within w k) r (guard_assign x t (open_step within w k) (guard_asked g k) g)

-- what it says -----------------------------------------------------------------------------------------------------

-- no open variable under p stands in a live clause
pub guard_live : {p q : ℕ} {f : Formula} {s : State} → Guard f s p → InLive f s q → p ≤ q
guard_live {p} {q} {f} {s} g k = rw k.variable (⊎_elim
    (λ a. a k.literal k.standing_in (k.lives.opened k.literal k.standing_in))
    (λ (a : OneVariable (standing s k.clause)). absurd (crowd (standing s k.clause) k.lives a))
    (g.at k.clause k.member))
  where
    crowd : (d : Clause) → Alive d → OneVariable d → ⊥
    crowd [] a o = omega (arith, a.three)
    crowd (x ∷ []) a o = omega (arith, a.three)
    crowd (x ∷ y ∷ d) a o = ⊎_elim
        (λ (e : y ≡ x). omega (arith, a.once x, occurs_here x (y ∷ d), mem_occurs (y ∷ d) x (Memᴰ.head (sym e))))
        (λ (e : y ≡ opposite x). omega (arith, a.apart x (Memᴰ.head refl), mem_occurs (x ∷ y ∷ d) (opposite x) (Memᴰ.tail (Memᴰ.head (sym e)))))
        (of_variable_lem y x (o y x (Memᴰ.tail (Memᴰ.head refl)) (Memᴰ.head refl)))

-- a literal is written in a wide clause that stands for one of variable p
pub record InWide (f : Formula) (s : State) (p : ℕ) : Type 0 where
  pub clause : Clause
  pub member : Memᴰ clause f
  pub wide : Wide (standing s clause)
  pub written : Literal
  pub written_in : Memᴰ written clause
  pub stands_for : var (value s written) ≡ p

pub live_in_wide : {f : Formula} {s : State} {p : ℕ} → InLive f s p → InWide f s p
live_in_wide {s = s} k = let w = standing_mem s k.clause k.literal k.standing_in in record {
  clause = k.clause;
  member = k.member;
  wide = alive_wide k.lives;
  written = w.written;
  written_in = w.member;
  stands_for = ap var w.valued ∙ sym k.variable;
}

-- so the branch variable may be looked for from p on
module _ {p : ℕ} {f : Formula} {s : State} (g : Guard f s p) (closed : (c : Clause) → Memᴰ c f → Closed (standing s c)) where
  wide_in_live : {q : ℕ} → 0 < q → InWide f s q → InLive f s q
  wide_in_live o k =
      let a = live_alive (closed k.clause k.member) ((live_counted (closed k.clause k.member)).1 k.wide) in
      rw k.stands_for at (in_live k.clause k.member a (value s k.written)
      (mem_standing s k.clause k.written k.written_in (λ e. omega (arith, ap var e, k.stands_for))))

  pub branch_from : (q : ℕ) → 0 < q → InWide f s q → ((r : ℕ) → p ≤ r → r < q → ¬ InWide f s r) → branch_variable f s ≡ Some q
  branch_from q o k h = go (branch_variable f s) (branch_least f s closed)
    where
      go : (b : Option ℕ) → IsLeast ◌≤◌ (InLive f s) b → b ≡ Some q
      go None l = absurd (l q (wide_in_live o k))
      go (Some r) l = elim (dec_lt r q) [
        | yes i ↦ absurd (h r (guard_live g l.member) i (live_in_wide l.member))
        | no i ↦ ap Some (let j = l.least q (wide_in_live o k) in omega arith)
      ]

  pub branch_none : {n : ℕ} → Within n f → WellFormed n s → ((r : ℕ) → p ≤ r → r ≤ n → ¬ InWide f s r) → branch_variable f s ≡ None
  branch_none within w h = go (branch_variable f s) (branch_least f s closed)
    where
      go : (o : Option ℕ) → IsLeast ◌≤◌ (InLive f s) o → o ≡ None
      go None l = refl
      go (Some r) l = absurd (h r (guard_live g l.member) (live_open w within l.member).inside (live_in_wide l.member))
