-- A5, "Which rule settled it": settling that keeps, beside what each variable stands for, the number of the clause that settled or tied it.
use Rattle.std.specs.Prelude.{◌≡◌, cond, ℕ, zero, suc, ◌-◌, ◌<◌, ◌≤◌, eqb, ℤ, length, get_or}
use mathlib.Core.List.{List, [], ◌∷◌, Memᴰ}
use Rattle.std.specs.Prelude.{Option, None, Some}
use Rattle.literal.specs.declared.Literal.{Literal}
use Rattle.literal.specs.declared.Literal.TheVariants.{Pos}
use Rattle.literal.specs.Literal.{TRUE, FALSE, var}
use Rattle.theory.specs.declared.Asked.{Asked}
use Rattle.theory.specs.declared.Step.{Step}
use Rattle.theory.specs.declared.Step.TheVariants.{DeadEnd, Becomes}
use Rattle.theory.specs.Formula.{Clause, Formula, Choice, clauses}
use Rattle.theory.specs.State.{State, initial, assign, standing}
use Rattle.theory.specs.Rules.{rule1, rule2, rule3, rule4, rule5, rule6, rule7, rule8}
use Rattle.theory.specs.Propagation.{asked_by, step, Settled, propagate}
use Rattle.theory.specs.Propagation as settled
use Rattle.theory.specs.Tree.{Decision, done, branch, Run, tree, Limited, limited}
use Rattle.theory.specs.Tree as t
use Rattle.theory.specs.Search.{branch_variable, choice_of}

-- a clause number for each variable, "0 while open or when decided by a split"
abbrev pub Reasons : Type 0
Reasons = ℕ → ℕ

-- "The state kept for each placement gains the number of the group that settled or tied it"
pub record Explained : Type 0 where
  pub state : State
  pub reasons : Reasons

abbrev pub explained : State → Reasons → Explained
explained s r = record { state = s; reasons = r }

-- a state in which no clause has settled or tied anything
abbrev pub unexplained : State → Explained
unexplained s = explained s (λ p. 0)

-- clause k settles or ties the variable of x; "A follower keeps the group that first tied it"
abbrev pub credit : ℕ → Literal → Reasons → Reasons
credit k x r p = cond (eqb p (var x)) k (r p)

-- x becomes t by clause k, or by none where k is 0
abbrev pub assign_by : ℕ → Literal → Literal → Explained → Explained
assign_by k x t e = explained (assign x t e.state) (credit k x e.reasons)

-- Settling --------------------------------------------------------------------------------------------------------

-- where settling ends: a dead end, or a state that no rule fits, with its reasons
pub data Explanation : Type 0 where
  dead : Explanation
  rest : Explained → Explanation

abbrev pub act_by : (Explained → Explanation) → Explained → ℕ → Step → Explanation
act_by go e k DeadEnd = dead
act_by go e k (Becomes x t) = go (assign_by k x t e)

-- each step carries its clause, of a pair "the later of the two"
abbrev pub follow_by : (Explained → Explanation) → Explained → Option Asked → Explanation
follow_by go e None = rest e
follow_by go e (Some a) = act_by go e a.clause.0 a.step

-- the steps are those of settling as it was
unfoldable pub propagate_by : ℕ → Formula → Explained → Explanation
propagate_by zero f e = rest e
propagate_by (suc k) f e = follow_by (propagate_by k f) e (step f e.state)

-- as for `settle`, fuel n + 1 is enough
abbrev pub explain : ℕ → Formula → Explained → Explanation
explain n f e = propagate_by (suc n) f e

-- the reasons forgotten
abbrev pub forget : Explanation → Settled
forget dead = settled.dead
forget (rest e) = settled.rest e.state

-- What a reason says ---------------------------------------------------------------------------------------------

-- the clause with number k, counted from 1
abbrev pub numbered : Formula → ℕ → Clause
numbered f k = get_or f (k - 1) []

abbrev pub clause_rules : List (Clause → Option Step)
clause_rules = rule1 ∷ rule2 ∷ rule3 ∷ rule4 ∷ rule5 ∷ rule6 ∷ []

abbrev pub pair_rules : List (Clause → Clause → Option Step)
pair_rules = rule7 ∷ rule8 ∷ []

-- a rule asks a step of clause k alone, or "for rules 7 and 8 the later of the two" is clause k, and j the earlier
pub data AskedOf (f : Formula) (s : State) (k : ℕ) (d : Step) : Type 0 where
  alone : (rule : Clause → Option Step) → Memᴰ rule clause_rules → rule (standing s (numbered f k)) ≡ Some d → AskedOf f s k d
  paired : (rule : Clause → Clause → Option Step) → Memᴰ rule pair_rules → (j : ℕ) → 0 < j → j < k →
      rule (standing s (numbered f j)) (standing s (numbered f k)) ≡ Some d → AskedOf f s k d

-- clause k holds p, or a variable that is tied to p in the state
pub record Holds (f : Formula) (s : State) (k p : ℕ) : Type 0 where
  pub from_one : 0 < k
  pub is_clause : k ≤ length f
  pub entry : Literal
  pub in_clause_lem : Memᴰ entry (numbered f k)
  pub tied : var (s (var entry)) ≡ p

-- what a reason says: after some steps of settling p is open, and clause k, which holds it, asks the next step, which settles or ties p
pub record SettledBy (f : Formula) (p k : ℕ) : Type 0 where
  pub steps : ℕ
  pub state : State
  pub reached : propagate steps f initial ≡ settled.rest state
  pub is_open : state p ≡ Pos p
  pub literal : Literal
  pub becomes : Literal
  pub asked : step f state ≡ Some (asked_by k (Becomes literal becomes))
  pub its_variable : var literal ≡ p
  pub asker : AskedOf f state k (Becomes literal becomes)
  pub holder : Holds f state k p

-- The search, were it to keep reasons -----------------------------------------------------------------------------

-- "0 .. when decided by a split"
abbrev pub split_on_by : ℕ → Explained → Option ℕ → Decision Explained Choice
split_on_by n e None = done (choice_of n e.state)
split_on_by n e (Some p) = branch p (assign_by 0 (Pos p) FALSE e) (assign_by 0 (Pos p) TRUE e)

abbrev pub ended_by : ℕ → Formula → Explanation → Decision Explained Choice
ended_by n f dead = t.dead
ended_by n f (rest e) = split_on_by n e (branch_variable f e.state)

unfoldable pub decide_by : ℕ → Formula → Explained → Decision Explained Choice
decide_by n f e = ended_by n f (explain n f e)

unfoldable pub tree_by : ℕ → Formula → Run Choice
tree_by n f = tree (decide_by n f) (suc n) 1 (unexplained initial)

unfoldable pub search_by : ℕ → List ℤ → ℕ → Limited Choice
search_by n t b = limited b (tree_by n (clauses t))

-- a state from which that search settles, with the variables that splits decided on the way to it
pub data Node (n : ℕ) (f : Formula) : List ℕ → Explained → Type 0 where
  top : Node n f [] (unexplained initial)
  left_out : {l : List ℕ} {e u v : Explained} {p : ℕ} → Node n f l e → decide_by n f e ≡ branch p u v → Node n f (p ∷ l) u
  taken : {l : List ℕ} {e u v : Explained} {p : ℕ} → Node n f l e → decide_by n f e ≡ branch p u v → Node n f (p ∷ l) v
