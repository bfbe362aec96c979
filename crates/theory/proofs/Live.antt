-- The live clauses where no rule fits, and the lowest variable that stands in one.
use mathlib.Core.Path.{◌≡◌, refl, ap, ◌∙◌}
use mathlib.Core.Bool.{Bool, true, false, cond}
use mathlib.Core.Logic.{◌⊎◌, inl, inr, ⊎_elim}
use Rattle.std.specs.Prelude.{Option, None, Some}
use mathlib.Core.List.Memᴰ
use mathlib.Core.List.{List, [], ◌∷◌, map, Memᴰ}
use Prim.Native.Nat.{ℕ, ◌≤◌, min}
use native.Mathlib.Omega.{arith}
use native.Mathlib.Decide.{dec_le}
use lib.ListN.{length}
use Rattle.general.specs.Booleans.{true_not_false}
use Rattle.general.specs.Lists.{mem_map, map_mem}
use Rattle.literal.specs.declared.Literal.{Literal}
use Rattle.literal.specs.Literal.{var, opposite}
use Rattle.theory.specs.Formula.{Clause, Formula, Within}
use Rattle.theory.specs.Order.{IsLeast}
use Rattle.theory.specs.State.{State, standing, Open, WellFormed}
use Rattle.theory.specs.Rules.{occurs, live}
use Rattle.theory.specs.Search.{live_variables, lower, lowest, branch_variable}
use Rattle.theory.proofs.Literals.{var_opposite}
use Rattle.theory.proofs.States.{fixed_pos}
use Rattle.theory.proofs.Closed.{Alive, Closed, met, resting, alive, alive_live}
use Rattle.theory.proofs.Asks.{standing_fixed, standing_inside}
use Rattle.theory.proofs.Idle.{idle_not_live}

-- of the clauses that no rule fits, only the third form is live ----------------------------------------------------

-- a literal and its opposite are at rest
pub resting_live : (x : Literal) → live (x ∷ opposite x ∷ []) ≡ false
resting_live x = idle_not_live (x ∷ opposite x ∷ []) (inr (record {
  literal = x;
  here = Memᴰ.head refl;
  across = Memᴰ.tail (Memᴰ.head refl);
  only = λ z m. ⊎_elim (ap var) (λ k. ap var (Memᴰ.eq_of_singleton k) ∙ var_opposite x) (Memᴰ.cases_cons m);
}))

pub live_alive : {c : Clause} → Closed c → live c ≡ true → Alive c
unfolding occurs
live_alive met e = absurd (true_not_false e refl)
live_alive (resting x h) e = absurd (true_not_false e (resting_live x))
live_alive (alive k) e = k

-- the lowest of a list -------------------------------------------------------------------------------------------

lowest_least : (l : List ℕ) → IsLeast ◌≤◌ (λ p. Memᴰ p l) (lowest l)
unfolding lowest
lowest_least [] = λ p m. Memᴰ.not-nil m
lowest_least (p ∷ l) = go (lowest l) (lowest_least l)
  where
    go : (o : Option ℕ) → IsLeast ◌≤◌ (λ q. Memᴰ q l) o → IsLeast ◌≤◌ (λ q. Memᴰ q (p ∷ l)) (lower p o)
    go None h = record {
      member = Memᴰ.head refl;
      least = λ q m. ⊎_elim (λ e. omega arith) (λ k. absurd (h q k)) (Memᴰ.cases_cons m);
    }
    go (Some r) h = record {
      member = elim (dec_le p r) [
        | yes k ↦ let e : min p r ≡ p = omega arith in Memᴰ.head e
        | no k ↦ let e : min p r ≡ r = omega arith in Memᴰ.tail (Memᴰ.cast e h.member)
      ];
      least = λ q m. ⊎_elim (λ e. omega arith) (λ k. omega (arith, h.least q k)) (Memᴰ.cases_cons m);
    }

-- the branch variable --------------------------------------------------------------------------------------------

-- p stands in a live clause
pub record InLive (f : Formula) (s : State) (p : ℕ) : Type 0 where
  pub clause : Clause
  pub member : Memᴰ clause f
  pub lives : Alive (standing s clause)
  pub literal : Literal
  pub standing_in : Memᴰ literal (standing s clause)
  pub variable : p ≡ var literal

abbrev pub in_live : {f : Formula} {s : State} (c : Clause) → Memᴰ c f → Alive (standing s c) → (x : Literal) → Memᴰ x (standing s c) → InLive f s (var x)
in_live c m k x h = record { clause = c; member = m; lives = k; literal = x; standing_in = h; variable = refl }

-- where no variable stands in a live clause there is none
pub none_alive : {f : Formula} {s : State} → ((p : ℕ) → ¬ InLive f s p) → (c : Clause) → Memᴰ c f → ¬ Alive (standing s c)
none_alive {f} {s} h c m k = go (standing s c) k.three (in_live c m k)
  where
    go : (d : Clause) → 3 ≤ length d → ((x : Literal) → Memᴰ x d → InLive f s (var x)) → ⊥
    go [] l i = omega arith
    go (x ∷ d) l i = h (var x) (i x (Memᴰ.head refl))

-- a variable of a live clause is open
pub live_open : {n : ℕ} {f : Formula} {s : State} → WellFormed n s → Within n f → {p : ℕ} → InLive f s p → Open n s p
live_open {s = s} w within h = record {
  positive = rw h.variable (h.lives.opened h.literal h.standing_in);
  inside = rw h.variable (standing_inside within w h.clause h.literal h.member h.standing_in);
  root = rw h.variable (fixed_pos s h.literal (standing_fixed within w h.clause h.literal h.standing_in));
}

live_variable : (f : Formula) (s : State) (c : Clause) → Memᴰ c f → Alive (standing s c) → (x : Literal) → Memᴰ x (standing s c) →
    Memᴰ (var x) (live_variables (map (standing s) f))
unfolding live_variables
live_variable [] s c m k x h = absurd (Memᴰ.not-nil m)
live_variable (d ∷ f) s c m k x h = ⊎_elim
    (λ (e : c ≡ d). rw (← e, alive_live k) (Memᴰ.append_left (live_variables (map (standing s) f)) (mem_map var (standing s c) x h)))
    (λ n. Memᴰ.append_right (cond (live (standing s d)) (map var (standing s d)) []) (live_variable f s c n k x h))
    (Memᴰ.cases_cons m)

variable_live : (f : Formula) (s : State) → ((c : Clause) → Memᴰ c f → Closed (standing s c)) → (p : ℕ) →
    Memᴰ p (live_variables (map (standing s) f)) → InLive f s p
unfolding live_variables
variable_live [] s closed p m = absurd (Memᴰ.not-nil m)
variable_live (c ∷ f) s closed p m =
    go (live (standing s c)) refl (Memᴰ.append_cases (cond (live (standing s c)) (map var (standing s c)) []) m)
    (variable_live f s (λ d k. closed d (Memᴰ.tail k)) p)
  where
    go : (b : Bool) → live (standing s c) ≡ b → Memᴰ p (cond b (map var (standing s c)) []) ⊎ Memᴰ p (live_variables (map (standing s) f)) →
        (Memᴰ p (live_variables (map (standing s) f)) → InLive f s p) → InLive (c ∷ f) s p
    go true e (inl k) ih =
        let x = map_mem var (standing s c) p k in
        record {
          clause = c;
          member = Memᴰ.head refl;
          lives = live_alive (closed c (Memᴰ.head refl)) e;
          literal = x.0;
          standing_in = x.1;
          variable = x.2;
        }
    go false e (inl k) ih = absurd (Memᴰ.not-nil k)
    go b e (inr k) ih =
        let h = ih k in
        record {
          clause = h.clause;
          member = Memᴰ.tail h.member;
          lives = h.lives;
          literal = h.literal;
          standing_in = h.standing_in;
          variable = h.variable;
        }

-- "the lowest open placement standing in a live group", or none where there is none
pub branch_least : (f : Formula) (s : State) → ((c : Clause) → Memᴰ c f → Closed (standing s c)) → IsLeast ◌≤◌ (InLive f s) (branch_variable f s)
unfolding branch_variable
branch_least f s closed = go (lowest (live_variables (map (standing s) f))) (lowest_least (live_variables (map (standing s) f)))
  where
    stood : (p : ℕ) → InLive f s p → Memᴰ p (live_variables (map (standing s) f))
    stood p k = Memᴰ.cast k.variable (live_variable f s k.clause k.member k.lives k.literal k.standing_in)

    go : (o : Option ℕ) → IsLeast ◌≤◌ (λ p. Memᴰ p (live_variables (map (standing s) f))) o → IsLeast ◌≤◌ (InLive f s) o
    go None h = λ p k. h p (stood p k)
    go (Some p) h = record { member = variable_live f s closed p h.member; least = λ q k. h.least q (stood q k) }
