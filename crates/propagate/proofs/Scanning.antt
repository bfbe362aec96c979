-- A rule over the clauses of a table, and over its pairs: the clause at an index, and else the later ones.
use mathlib.Core.Path.{◌≡◌, refl}
use mathlib.Core.Bool.{false}
use mathlib.Core.List.{List, [], ◌∷◌}
use Rattle.std.specs.Prelude.{Option, None, Some}
use Rattle.std.specs.Option.{option_or}
use Prim.Native.Nat.{ℕ, suc, ◌≤◌}
use native.Mathlib.Numerals.{add-one}
use lib.ListN.{length}
use Rattle.literal.specs.declared.ClauseNumber.{ClauseNumber}
use Rattle.theory.specs.declared.Asked.{Asked}
use Rattle.theory.specs.declared.Step.{Step}
use Rattle.theory.specs.Formula.{Clause}
use Rattle.theory.specs.Rules.{live}
use Rattle.theory.specs.Propagation.{first_clause, first_pair}
use Rattle.clause.specs.declared.Clauses.{Clauses}
use Rattle.clause.specs.Clauses.{Passed}
use Rattle.clause.specs.Literals.{clause_of}
use Rattle.clause.proofs.Advancing.{Advances, passed_advances, none_left}
use Rattle.rules.specs.declared.PairRule.{PairRule}
use Rattle.rules.specs.Rules.{pair_rule}
use Rattle.rules.proofs.Pairs.{pair_live}
use Rattle.propagate.specs.Code.{asks_ahead, pairs_ahead}
use Rattle.propagate.specs.Partners.{first_partner}

-- from s on to t, past the clause at an index
module _ {s t : Clauses} {clause : ClauseNumber} {at : ℕ} (p : Passed s clause at t) where
  advance : Advances s.of.table.now s.at t.at
  advance = passed_advances p

  module _ (rule : Clause → Option Step) where
    pub ahead_asks : {x : Step} → Some x ≡ rule (clause_of s.of at) → Some (record { clause = clause; step = x }) ≡ asks_ahead rule s
    unfolding first_clause
    ahead_asks e = rw (p.clause_here, advance.first s.of.state.now.values, ← (rw p.here at e))

    pub ahead_passes : None ≡ rule (clause_of s.of at) → asks_ahead rule t ≡ asks_ahead rule s
    unfolding first_clause
    ahead_passes e = rw (p.same, p.number, advance.first s.of.state.now.values, ← (rw p.here at e), add-one)

  module _ (rule : PairRule) where
    -- the first partner of the clause that was passed
    pub partner_ahead : asks_ahead (pair_rule rule (clause_of t.of at)) t ≡ first_partner s.of.table.now s.of.state.now.values rule s.clause.0 at
    partner_ahead = rw (p.same, p.number, p.next, p.here)

    by_first : option_or (first_partner s.of.table.now s.of.state.now.values rule s.clause.0 at) (pairs_ahead rule t) ≡ pairs_ahead rule s
    unfolding first_pair
    by_first = rw (advance.first s.of.state.now.values, p.same, p.number, p.here, ← p.next, add-one)

    pub pair_asks : {x : Asked} → Some x ≡ first_partner s.of.table.now s.of.state.now.values rule s.clause.0 at → Some x ≡ pairs_ahead rule s
    pair_asks e = rw (← e) at by_first

    pub pair_passes : None ≡ first_partner s.of.table.now s.of.state.now.values rule s.clause.0 at → pairs_ahead rule t ≡ pairs_ahead rule s
    pair_passes e = rw (← e) at by_first

-- past the last clause
module _ (s : Clauses) (h : length s.of.table.now ≤ s.at) where
  pub ahead_end : (rule : Clause → Option Step) → None ≡ asks_ahead rule s
  unfolding first_clause
  ahead_end rule = rw (none_left s.of.table.now s.of.state.now.values s.at h)

  pub pair_end : (rule : PairRule) → None ≡ pairs_ahead rule s
  unfolding first_pair
  pair_end rule = rw (none_left s.of.table.now s.of.state.now.values s.at h)

-- no pair of a clause that is not live
pub no_partner : (rule : PairRule) (g : Clause) → live g ≡ false → (k : ℕ) (l : List Clause) → first_clause (pair_rule rule g) k l ≡ None
unfolding first_clause
no_partner rule g e k [] = refl
no_partner rule g e k (h ∷ l) = rw (pair_live rule g h, e) (no_partner rule g e (suc k) l)
