-- One turn of settling: what the step that is asked says of where settling ends, and with which reasons.
use mathlib.Core.Path.{◌≡◌, ap, sym, fun_ext}
use mathlib.Core.List.{List}
use Rattle.std.specs.Prelude.{None, Some}
use Prim.Native.Nat.{ℕ, ◌<◌, ◌≤◌}
use native.Mathlib.Decide.{ℕ_discrete}
use native.Mathlib.Omega.{arith}
use borrow.Author.Tests.{eq-eqb, ne_eqb}
use lib.ListN.{length, set, replicate}
use lib.Seq.{get_or-set_same, get_or-set_other}
use Rattle.general.specs.Lists.{get_or_throughout}
use Rattle.literal.specs.declared.Literal.{Literal}
use Rattle.literal.specs.Literal.{var}
use Rattle.theory.specs.declared.Asked.{Asked}
use Rattle.theory.specs.declared.Step.TheVariants.{DeadEnd, Becomes}
use Rattle.theory.specs.Formula.{Formula, Within}
use Rattle.theory.specs.State.{State, assign, opens, WellFormed}
use Rattle.theory.specs.Propagation.{step}
use Rattle.theory.specs.Reasons.{Explained, explained, unexplained, credit, assign_by, dead, rest, propagate_by, explain}
use Rattle.theory.proofs.States.{Valid}
use Rattle.theory.proofs.Asks.{Asks, valid_step, asked_allowed}
use Rattle.theory.proofs.Propagation.{asked_well, asked_closes}
use Rattle.theory.proofs.Reasons.{explain_step}
use Rattle.propagate.specs.Code.{reasons_of}

-- x becomes t by clause k, and settling goes on
pub record Turn (n : ℕ) (f : Formula) (e : Explained) (k : ℕ) (x t : Literal) : Type 0 where
  pub same_end : explain n f (assign_by k x t e) ≡ explain n f e
  pub well : WellFormed n (assign x t e.state)
  pub fewer : opens (assign x t e.state) n < opens e.state n
  pub x_open : 0 < var x
  pub x_inside : var x ≤ n
  pub t_inside : var t ≤ n

module _ (n : ℕ) (f : Formula) (e : Explained) where
  -- no rule fits
  pub settle_rest : None ≡ step f e.state → rest e ≡ explain n f e
  unfolding propagate_by
  settle_rest q = rw (← q)

  module _ (a : Asked) (asked : Some a ≡ step f e.state) where
    pub settle_dead : a.step ≡ DeadEnd → dead ≡ explain n f e
    unfolding propagate_by
    settle_dead q = rw (← asked, q)

    pub settle_more : {x t : Literal} → a.step ≡ Becomes x t → Within n f → WellFormed n e.state → Turn n f e a.clause.0 x t
    settle_more {x} {t} i within w =
        let q : Asks f e.state x t = asked_allowed f e.state a (sym asked) i in
        let v : Valid n e.state x t = valid_step within w q in
        let less = asked_closes within w q in
        record {
          same_end = explain_step within e w a (sym asked) i;
          well = asked_well within w q;
          fewer = omega (arith, less);
          x_open = omega (arith, v.lower);
          x_inside = v.inside;
          t_inside = omega (arith, v.inside, v.lower);
        }

-- no reason is given
pub uncredited : (n : ℕ) (s : State) → explained s (reasons_of (replicate n 0)) ≡ unexplained s
uncredited n s = ap (explained s) (fun_ext (λ p. get_or_throughout n p 0))

-- one element of the reasons is written
pub credited : (m : List ℕ) (k : ℕ) (x : Literal) → var x < length m → reasons_of (set m (var x) k) ≡ credit k x (reasons_of m)
credited m k x h = fun_ext (λ p. elim (ℕ_discrete p (var x)) [
  | yes e ↦ rw (eq-eqb p (var x) e, e) (get_or-set_same m (var x) k 0 h)
  | no e ↦ rw (ne_eqb p (var x) e) (get_or-set_other m (var x) p k 0 e)
])
