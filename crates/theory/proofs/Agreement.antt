-- Assignments that agree with a state: they count a clause as it stands like the clause itself, and a step asks of them one equation more.
use mathlib.Core.Path.{◌≡◌, refl, ap, sym, ◌∙◌}
use mathlib.Core.Bool.{true, not, not-not}
use mathlib.Core.Logic.{◌↔◌}
use mathlib.Core.List.{[], ◌∷◌, Memᴰ}
use Prim.Native.Nat.{ℕ, ◌+◌}
use native.Mathlib.Omega.{arith}
use Rattle.general.specs.Booleans.{bit}
use Rattle.literal.specs.declared.Literal.{Literal}
use Rattle.literal.specs.declared.Literal.TheVariants.{Pos, Neg}
use Rattle.literal.specs.Literal.{var, opposite}
use Rattle.theory.specs.Formula.{Clause, Formula, Assignment, holds, true_count, Choice, assignment, Solution}
use Rattle.theory.specs.State.{State, value, replace, assign, stand, standing, Agrees}
use Rattle.theory.proofs.States.{replace_same, replace_ind, value_assign, Fixed}
use Rattle.theory.proofs.Clauses.{stand_ind}

-- a solution that agrees with s
pub record Extends (n : ℕ) (f : Formula) (s : State) (c : Choice) : Type 0 where
  pub solves : Solution n f c
  pub agrees : Agrees (assignment c) s

-- truth ----------------------------------------------------------------------------------------------------------

pub holds_opposite : (a : Assignment) (l : Literal) → holds a (opposite l) ≡ not (holds a l)
holds_opposite a (Pos p) = refl
holds_opposite a (Neg p) = sym (not-not (a p))

pub holds_alike : (a b : Assignment) (l : Literal) → a (var l) ≡ b (var l) → holds a l ≡ holds b l
holds_alike a b (Pos p) e = e
holds_alike a b (Neg p) e = ap not e

pub count_alike : (a b : Assignment) (c : Clause) → ((l : Literal) → Memᴰ l c → a (var l) ≡ b (var l)) → true_count a c ≡ true_count b c
unfolding true_count
count_alike a b [] e = refl
count_alike a b (l ∷ c) e = rw (holds_alike a b l (e l (Memᴰ.head refl)), count_alike a b c (λ k m. e k (Memᴰ.tail m)))

-- agreement ------------------------------------------------------------------------------------------------------

pub agrees_value : {a : Assignment} {s : State} → Agrees a s → (l : Literal) → holds a (value s l) ≡ holds a l
agrees_value g (Pos p) = sym (g.at p)
agrees_value {a} {s} g (Neg p) = holds_opposite a (s p) ∙ ap not (sym (g.at p))

-- a clause has as many true occurrences as it stands: what is dropped is false
pub count_standing : {a : Assignment} {s : State} → Agrees a s → a 0 ≡ true → (c : Clause) → true_count a (standing s c) ≡ true_count a c
unfolding standing true_count
count_standing g t [] = refl
count_standing {a} {s} g t (l ∷ c) = counted (value s l) ∙ rw (agrees_value g l, count_standing g t c)
  where
    counted : (v : Literal) → true_count a (stand v (standing s c)) ≡ bit (holds a v) + true_count a (standing s c)
    counted = stand_ind (λ v d. true_count a d ≡ bit (holds a v) + true_count a (standing s c)) (standing s c) (rw t (omega arith)) (λ v h. refl)

holds_replace : (a : Assignment) (x t : Literal) → holds a x ≡ holds a t → (l : Literal) → holds a (replace x t l) ≡ holds a l
holds_replace a x t e =
    replace_ind (λ l m. holds a m ≡ holds a l) x t (sym e) (holds_opposite a t ∙ ap not (sym e) ∙ sym (holds_opposite a x)) (λ l h. refl)

-- agreement after a step is agreement before it, with both sides of the step alike
module _ (s : State) (x t : Literal) (fixed : Fixed s x) where
  pub agrees_assign : (a : Assignment) → Agrees a (assign x t s) ↔ (Agrees a s × (holds a x ≡ holds a t))
  agrees_assign a = (
    λ g. (record { at = λ p. g.at p ∙ holds_replace a x t (alike g) (s p) }, alike g),
    λ g. record { at = λ p. g.0.at p ∙ sym (holds_replace a x t g.1 (s p)) },
  )
    where
      alike : Agrees a (assign x t s) → holds a x ≡ holds a t
      alike g = sym (agrees_value g x) ∙ ap (holds a) (value_assign s x t x ∙ ap (replace x t) fixed ∙ replace_same x t)

  pub extends_assign : (n : ℕ) (f : Formula) (c : Choice) → Extends n f (assign x t s) c ↔ (Extends n f s c × (holds (assignment c) x ≡ holds (assignment c) t))
  extends_assign n f c = (
    λ e. let g = (agrees_assign (assignment c)).0 e.agrees in (record { solves = e.solves; agrees = g.0 }, g.1),
    λ e. record { solves = e.0.solves; agrees = (agrees_assign (assignment c)).1 (e.0.agrees, e.1) },
  )
