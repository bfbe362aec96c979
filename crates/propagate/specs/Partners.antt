-- Partners of a clause by rule 7 or 8: later clauses that the rule fits it with. Code notes which clauses have none.
use Rattle.std.specs.Prelude.{◌≡◌, Bool, true, false, ◌⊎◌, ℕ, ◌+◌, ◌<◌, ℤ, length, get_or, drop}
use mathlib.Core.List.{List, Memᴰ}
use Rattle.std.specs.Prelude.{Option, None}
use Rattle.literal.specs.declared.Literal.{Literal}
use Rattle.literal.specs.Literal.{var, max_table}
use Rattle.theory.specs.declared.Asked.{Asked}
use Rattle.theory.specs.declared.Step.{Step}
use Rattle.theory.specs.declared.Step.TheVariants.{DeadEnd, Becomes}
use Rattle.theory.specs.Formula.{Clause, clauses}
use Rattle.theory.specs.State.{State, assign, standing}
use Rattle.theory.specs.Propagation.{first_clause}
use Rattle.state.specs.State.{state_of}
use Rattle.clause.specs.Reading.{group, group_length, clause_at, clauses_from}
use Rattle.rules.specs.declared.PairRule.{PairRule}
use Rattle.rules.specs.declared.PairRule.TheVariants.{Seven, Eight}
use Rattle.rules.specs.Rules.{pair_rule, pair_step, Without}
use Rattle.propagate.specs.declared.Alone.{Alone as Notes}

-- the index after the clause that begins at another
abbrev pub next_of : List ℤ → ℕ → ℕ
next_of t i = i + group_length (drop i t)

-- what the later clauses are asked with the one at an index, which has number k
abbrev pub first_partner : List ℤ → List ℕ → PairRule → ℕ → ℕ → Option Asked
first_partner t v rule k i = first_clause (pair_rule rule (clause_at t v i)) (k + 1) (clauses_from t v (next_of t i))

-- the clause at an index has no partner
abbrev pub Alone : List ℤ → State → PairRule → ℕ → Type 0
Alone t s rule i = (h : Clause) → Memᴰ h (clauses (drop (next_of t i) t)) → pair_rule rule (standing s (group (drop i t))) (standing s h) ≡ None

-- what is noted of a rule, by the index at which a clause begins
pub record Noted (t : List ℤ) (v : List ℕ) (rule : PairRule) (m : List Bool) : Type 0 where
  pub room : length m ≡ max_table
  pub alone : (i : ℕ) → get_or m i false ≡ true → Alone t (state_of v) rule i

-- of both rules
pub record NotedOf (t : List ℤ) (v : List ℕ) (a : Notes) : Type 0 where
  pub seven : Noted t v Seven a.seven
  pub eight : Noted t v Eight a.eight

-- of the first n indices
abbrev pub NoneNoted : ℕ → List Bool → Type 0
NoneNoted n m = (i : ℕ) → i < n → get_or m i false ≡ false

-- what was noted where it still is, with what else is known there
pub record Kept (P : ℕ → Type 0) (before after : List Bool) : Type 0 where
  pub room : length after ≡ length before
  pub each : (i : ℕ) → get_or after i false ≡ true → (get_or before i false ≡ true) × P i

-- the rule does not fit the clauses at h and i
abbrev pub Apart : List ℤ → List ℕ → PairRule → ℕ → ℕ → Type 0
Apart t v rule h i = pair_step rule (clause_at t v h) (clause_at t v i) ≡ None

-- a clause c in which y's variable stood in a state v has no partner, in w, in the clause at i
abbrev pub Parted : List ℤ → List ℕ → List ℕ → PairRule → Literal → ℕ → Clause → Type 0
Parted t v w rule y i c = Without y (standing (state_of v) c) ⊎ (pair_step rule (standing (state_of w) c) (clause_at t w i) ≡ None)

abbrev pub PartedAll : List ℤ → List ℕ → List ℕ → PairRule → Literal → ℕ → Type 0
PartedAll t v w rule y i = (c : Clause) → Memᴰ c (clauses t) → Parted t v w rule y i c

-- what is noted after a step from v to w; a dead end is none
abbrev pub NotedAfter : List ℤ → List ℕ → List ℕ → PairRule → Step → List Bool → Type 0
NotedAfter t v w rule DeadEnd m = Noted t v rule m
NotedAfter t v w rule (Becomes x y) m = 0 < var x → state_of w ≡ assign x y (state_of v) → Noted t w rule m

pub record NotedAfterOf (t : List ℤ) (v w : List ℕ) (step : Step) (a : Notes) : Type 0 where
  pub seven : NotedAfter t v w Seven step a.seven
  pub eight : NotedAfter t v w Eight step a.eight
