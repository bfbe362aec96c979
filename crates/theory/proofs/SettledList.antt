-- The list that Settle writes says the state that settling ended in, and the choices that remain in that state are the layouts.
use mathlib.Core.Path.{◌≡◌, refl, ap, sym, ◌∙◌, fun_ext}
use mathlib.Core.Logic.{◌↔◌}
use mathlib.Core.List.{List}
use Prim.Native.Nat.{ℕ, zero, suc, ◌<◌, ◌≤◌}
use native.Mathlib.Decide.{dec_lt}
use native.Mathlib.Omega.{arith}
use borrow.Author.Tests.{lt-ltb, le-ltb, ne_eqb}
use lib.IntN.{ℤ, pos as posℤ}
use lib.ListN.{get_or, drop, get_or-append}
use Rattle.general.specs.Lists.{up_to, length_from, get_or_from}
use Rattle.literal.specs.declared.Literal.{Literal}
use Rattle.literal.specs.declared.Literal.TheVariants.{Pos, Neg}
use Rattle.literal.specs.Literal.{var, max_variables}
use Rattle.theory.specs.Formula.{Formula, Choice, assignment, Solution, Within}
use Rattle.theory.specs.State.{State, initial, WellFormed}
use Rattle.theory.specs.Propagation.{dead, rest, settle}
use Rattle.theory.specs.Calls.{over, state_entry}
use Rattle.theory.specs.SettledList.{told, decided, state_in, Remains}
use Rattle.theory.proofs.Agreement.{count_standing}
use Rattle.theory.proofs.Propagation.{initial_well, Ends}
use Rattle.theory.proofs.Solutions.{Sol, Keeps, settling_keeps_solutions}
use Rattle.theory.proofs.Splits.{settle_ends}
use Rattle.theory.proofs.States.{well_based, opens_bound}

told_entry : (x : Literal) → var x ≤ max_variables → told (state_entry x) ≡ x
told_entry (Pos zero) h = refl
told_entry (Neg zero) h = refl
told_entry (Pos (suc r)) h = rw (ne_eqb (suc r) decided (λ e. omega arith))
told_entry (Neg (suc r)) h = rw (ne_eqb (suc r) decided (λ e. omega arith))

-- +p says that placement p is open, and nothing else does
pub entry_open : (x : Literal) (i : ℕ) → var x ≤ max_variables → i < max_variables → (state_entry x ≡ posℤ (suc i)) ↔ (x ≡ Pos (suc i))
entry_open x i h k =
    let plain : told (posℤ (suc i)) ≡ Pos (suc i) = rw (ne_eqb (suc i) decided (λ e. omega arith)) in
    (λ e. sym (told_entry x h) ∙ ap told e ∙ plain, ap state_entry)

-- the element of a written list at an index below n
pub written_at : {A : Type 0} (g : ℕ → A) (n : ℕ) (l : List A) (i : ℕ) (d : A) → i < n → get_or (over n (up_to g n) l) i d ≡ g (suc i)
written_at g n l i d h = get_or-append (up_to g n) (drop n l) d i (omega (arith, length_from g 1 n)) ∙ get_or_from g 1 n i d h ∙ ap g (omega arith)

module _ {n : ℕ} {s : State} (few : n ≤ max_variables) (w : WellFormed n s) (l : List ℤ) where
  abbrev entry : ℕ → ℤ
  entry p = state_entry (s p)

  abbrev list : List ℤ
  list = over n (up_to entry n) l

  -- nothing is lost in writing
  pub list_read : state_in n list ≡ s
  unfolding state_in
  list_read = fun_ext at
    where
      at : (p : ℕ) → state_in n list p ≡ s p
      at zero = sym (well_based w).base
      at (suc i) = elim (dec_lt i n) [
        | yes h ↦ rw (lt-ltb i n h, written_at entry n l i (posℤ 0) h) (told_entry (s (suc i)) (omega (arith, w.low (suc i))))
        | no h ↦ rw (le-ltb i n (omega arith)) (sym (w.beyond (suc i) (omega arith)))
      ]

-- what settling of a filing from nothing known ends in
module _ {n : ℕ} {f : Formula} (within : Within n f) where
  keeps : Keeps f initial (settle n f initial)
  keeps = settling_keeps_solutions within (suc n) initial (initial_well n) (omega (arith, opens_bound initial n))

  layout : (c : Choice) → Solution n f c → Sol f initial (assignment c)
  layout c h = record { constant = refl; satisfies = h.satisfies; agrees = record { at = λ p. refl } }

  pub dead_end_none : settle n f initial ≡ dead → (c : Choice) → ¬ Solution n f c
  dead_end_none e c h = let k : Keeps f initial dead = rw e at keeps in k (assignment c) (layout c h)

  module _ (u : State) (e : settle n f initial ≡ rest u) where
    pub settled_well : WellFormed n u
    settled_well = let h : Ends n f initial (rest u) = rw e at (settle_ends within initial (initial_well n)) in h.well

    -- "Simplifying never gains or loses a choice."
    pub settled_remains : (c : Choice) → Solution n f c ↔ Remains n f u c
    settled_remains c = (
      λ h.
          let k : Keeps f initial (rest u) = rw e at keeps in
          let g = ((k (assignment c)).0 (layout c h)).agrees in
          record { long = h.long; agrees = g; met = λ d m. count_standing g refl d ∙ h.satisfies d m },
      λ h. record { long = h.long; satisfies = λ d m. sym (count_standing h.agrees refl d) ∙ h.met d m },
    )
