-- Choices made from values of the open variables, and the first of them: where no clause is live, open variables are left out.
use mathlib.Core.Path.{◌≡◌, refl, ap, sym, ◌∙◌}
use mathlib.Core.Bool.{true}
use mathlib.Core.List.{Memᴰ}
use Prim.Native.Nat.{ℕ, zero, suc, ◌<◌, ◌≤◌}
use native.Mathlib.Omega.{arith}
use native.Mathlib.Decide.{ℕ_discrete, dec_lt}
use lib.ListN.{length}
use borrow.Author.Tests.{eqb-true}
use Rattle.general.specs.Booleans.{bit_not}
use Rattle.general.specs.Lists.{up_to, length_from}
use Rattle.literal.specs.declared.Literal.{Literal}
use Rattle.literal.specs.declared.Literal.TheVariants.{Pos}
use Rattle.literal.specs.Literal.{var}
use Rattle.theory.specs.Formula.{Clause, Formula, Assignment, holds, true_count, Met, Choice, assignment, Within}
use Rattle.theory.specs.Order.{◌≼◌, Least}
use Rattle.theory.specs.State.{State, standing, Agrees, WellFormed}
use Rattle.theory.specs.Search.{only_constant, choice_of}
use Rattle.theory.proofs.States.{Fixed, fixed_pos, well_based}
use Rattle.theory.proofs.Closed.{Alive, Closed, met, resting, alive}
use Rattle.theory.proofs.Asks.{standing_fixed, standing_inside}
use Rattle.theory.proofs.Order.{assignment_up_to, ≼-by}
use Rattle.theory.proofs.Agreement.{Extends, holds_opposite, holds_alike, count_alike, count_standing}
use Rattle.theory.proofs.Live.{InLive, none_alive}

-- the choice that values of the open variables give: "tied ones follow"
abbrev pub choice_from : ℕ → State → Assignment → Choice
choice_from n s v = up_to (λ p. holds v (s p)) n

pub choice_long : (n : ℕ) (s : State) → length (choice_of n s) ≡ n
unfolding choice_of
choice_long n s = length_from (λ p. holds only_constant (s p)) 1 n

module _ {n : ℕ} {s : State} (w : WellFormed n s) where
  -- where two choices that agree with s first differ, they differ at an open variable
  pub ≼-roots : (c d : Choice) → length c ≡ n → length d ≡ n → Agrees (assignment c) s → Agrees (assignment d) s →
      ((p : ℕ) → 0 < p → p ≤ n → s p ≡ Pos p → ((q : ℕ) → q < p → assignment c q ≡ assignment d q) → assignment c p ≡ true → assignment d p ≡ true) → c ≼ d
  ≼-roots c d e f g h roots = ≼-by n c d e f (λ p low high alike taken. elim (ℕ_discrete (var (s p)) p) [
    | yes r ↦ roots p low high (rw r at (fixed_pos s (s p) (w.fixed p))) alike taken
    | no r ↦ h.at p ∙ sym (holds_alike (assignment c) (assignment d) (s p) (alike (var (s p)) (omega (arith, w.low p)))) ∙ sym (g.at p) ∙ taken
  ])

  module _ (v : Assignment) (base : v 0 ≡ true) where
    pub choice_root : (p : ℕ) → s p ≡ Pos p → p ≤ n → assignment (choice_from n s v) p ≡ v p
    choice_root zero e h = sym base
    choice_root (suc p) e h = assignment_up_to (λ p. holds v (s p)) n (suc p) (omega arith) h ∙ ap (holds v) e

    choice_literal : (l : Literal) → Fixed s l → var l ≤ n → assignment (choice_from n s v) (var l) ≡ v (var l)
    choice_literal l e h = choice_root (var l) (fixed_pos s l e) h

    pub choice_agrees : Agrees (assignment (choice_from n s v)) s
    choice_agrees = record { at = at }
      where
        at : (p : ℕ) → assignment (choice_from n s v) p ≡ holds (assignment (choice_from n s v)) (s p)
        at zero = sym (ap (holds (assignment (choice_from n s v))) (well_based w).base)
        at (suc p) = elim (dec_lt n (suc p)) [
          | yes h ↦ sym (ap (holds (assignment (choice_from n s v))) (w.beyond (suc p) h))
          | no h ↦
              assignment_up_to (λ p. holds v (s p)) n (suc p) (omega arith) (omega arith) ∙
              sym (holds_alike (assignment (choice_from n s v)) v (s (suc p))
              (choice_literal (s (suc p)) (w.fixed (suc p)) (omega (arith, w.low (suc p)))))
        ]

-- a clause that no rule fits is met if it is live and met: the other two forms always are
met_by : (v : Assignment) → v 0 ≡ true → {c : Clause} → Closed c → (Alive c → Met v c) → Met v c
unfolding true_count
met_by v base met h = rw base
met_by v base (resting x k) h = rw (holds_opposite v x) (omega (arith, bit_not (holds v x)))
met_by v base (alive k) h = h k

-- a state that no rule fits
module _ {n : ℕ} {f : Formula} {s : State} (w : WellFormed n s) (within : Within n f) (closed : (c : Clause) → Memᴰ c f → Closed (standing s c)) where
  -- values that meet the live clauses give a solution
  pub choice_extends : (v : Assignment) → v 0 ≡ true → ((c : Clause) → Memᴰ c f → Alive (standing s c) → Met v (standing s c)) →
      Extends n f s (choice_from n s v)
  choice_extends v base meets = record {
    solves = record {
      long = length_from (λ p. holds v (s p)) 1 n;
      satisfies = λ c m.
          sym (count_standing (choice_agrees w v base) refl c) ∙
          count_alike (assignment (choice_from n s v)) v (standing s c)
          (λ l k. choice_literal w v base l (standing_fixed within w c l k) (standing_inside within w c l m k)) ∙
          met_by v base (closed c m) (meets c m);
    };
    agrees = choice_agrees w v base;
  }

  -- "No live group: open placements are left out, tied ones follow"
  pub leaf_first : ((p : ℕ) → ¬ InLive f s p) → Least ◌≼◌ (Extends n f s) (choice_of n s)
  unfolding choice_of
  leaf_first quiet = record {
    member = first;
    least = λ d e. ≼-roots w (choice_from n s only_constant) d first.solves.long e.solves.long first.agrees e.agrees
        (λ p low high root alike taken. absurd (omega (arith, eqb-true p 0 (sym (choice_root w only_constant refl p root high) ∙ taken))));
  }
    where
      first : Extends n f s (choice_from n s only_constant)
      first = choice_extends only_constant refl (λ c m k. absurd (none_alive quiet c m k))
