-- Rules 4 and 5 for each variable in turn: one that is decided stands nowhere, and none stands more often than it is written.
use mathlib.Core.Path.{◌≡◌, ap, sym, ◌∙◌}
use mathlib.Core.Bool.{Bool, true, false}
use mathlib.Core.Logic.{◌≢◌}
use mathlib.Core.List.{List, Memᴰ}
use Prim.Native.Nat.{ℕ, ◌+◌, ◌*◌, ◌/◌, ◌%◌, ◌<◌, ◌≤◌}
use native.Mathlib.Decide.{dec_lt, ℕ_discrete as dec_eq}
use native.Mathlib.Omega.{arith}
use Rattle.literal.specs.declared.Literal.TheVariants.{Pos, Neg}
use Rattle.literal.specs.Literal.{FALSE, var, code_of, literal_at, max_variables}
use Rattle.literal.proofs.Codes.{literal_at_code_of, code_of_literal_at, var_at}
use Rattle.theory.specs.Formula.{Clause, Formula, Within}
use Rattle.theory.specs.State.{State, assign, standing, WellFormed}
use Rattle.theory.specs.Rules.{occurs}
use Rattle.theory.proofs.States.{Fixed, fixed_opposite, fixed_pos}
use Rattle.theory.proofs.Clauses.{occurs_image}
use Rattle.theory.proofs.Recounts.{mentions_gone}
use Rattle.theory.proofs.Asks.{standing_fixed, standing_inside}
use Rattle.theory.proofs.Counts.{mentions, Wide, Holds, mentions_holds}
use Rattle.theory.proofs.DistinctBut.{DistinctBut, distinct_weaken, distinct_looked}
use Rattle.theory.proofs.Propagation.{initial_well}
use Rattle.theory.proofs.Falls.{Falls, still, falls_trans, falls_well, falls_mentions, falls_distinct}
use Rattle.state.proofs.Values.{state_of_inside}
use Rattle.occurrences.specs.Index.{clause_count, clause_of, formula_of, occurrence_at}
use Rattle.occurrences.proofs.Ends.{occurrence_inside}
use Rattle.occurrences.proofs.Formulas.{formula_mem}
use Rattle.tally.specs.Tally.{state_in, value_in}
use Rattle.moves.specs.Sound.{Sound}
use Rattle.moves.specs.Moving.{Went}
use Rattle.moves.specs.Deciding.{Decidable, Decided}
use Rattle.moves.proofs.Moves.{went_refl, went_trans}
use Rattle.engine.proofs.Along.{within_indexed}
use Rattle.undouble.specs.Doubling.{stood, Doubling, OnceIn, DoublesOf}
use Rattle.undouble.proofs.Undoubling.{undouble_decidable, undoubled_decided}
use Rattle.start.specs.Undoubling.{Undoubling, WrittenOnce, DoubledAt, UndoubledBelow}
use Rattle.start.proofs.Initial.{mentions_initial}
use Rattle.start.proofs.Repeating.{doubled_twice}
use Rattle.occurrences.specs.declared.Index.{Index}
use Rattle.tally.specs.declared.Tally.{Tally}
use Rattle.notes.specs.declared.Notes.{Notes}

undoubling_well : {ix : Index} {st : Tally} {wk : Notes} → Undoubling ix st wk → WellFormed max_variables (state_in st)
undoubling_well u = falls_well (within_indexed u.sound.index) (initial_well max_variables) u.path

-- a variable that is no open root stands nowhere
closed_once : {ix : Index} {st : Tally} {wk : Notes} → Undoubling ix st wk → (p : ℕ) → p ≤ max_variables → value_in st p ≢ 2 * p → OnceIn ix st p
closed_once {ix} {st} u p h n g i w = elim (dec_lt 0 (mentions p (standing (state_in st) (clause_of ix g)))) [
  | yes k ↦ absurd (n (root (mentions_holds p (standing (state_in st) (clause_of ix g)) k)))
  | no k ↦ omega arith
]
  where
    root : Holds p (standing (state_in st) (clause_of ix g)) → value_in st p ≡ 2 * p
    root (l, m, e) =
        let s : state_in st p ≡ Pos p = rw e at (fixed_pos (state_in st) l (standing_fixed (within_indexed u.sound.index) (undoubling_well u) (clause_of ix g) l m)) in
        sym (code_of_literal_at (value_in st p)) ∙ ap code_of (sym (state_of_inside st.values p h) ∙ s)

pub closed_doubles : {ix : Index} {st : Tally} {wk : Notes} → Undoubling ix st wk → (p : ℕ) → p ≤ max_variables → value_in st p ≢ 2 * p → DoublesOf ix st wk p st wk false
closed_doubles u p h n = (still, went_refl u.sound, closed_once u p h n)

-- one that is written at most once in each clause stands at most once
pub written_doubles : {ix : Index} {st : Tally} {wk : Notes} → Undoubling ix st wk → (p : ℕ) → 0 < p → WrittenOnce ix p → DoublesOf ix st wk p st wk false
written_doubles {ix} u p o h =
    (still, went_refl u.sound, λ g b w. omega (arith, falls_mentions u.path (clause_of ix g) p o, mentions_initial p (clause_of ix g), h g b))

-- one of which a literal is written twice in a clause: that literal becomes false, and the variable stands nowhere
module _ {ix : Index} {st : Tally} {wk : Notes} (u : Undoubling ix st wk) (r : ℕ) (positive : 0 < r) (inside : r ≤ max_variables) (root : value_in st r ≡ 2 * r) where
  open_pos : Fixed (state_in st) (Pos r)
  open_pos = state_of_inside st.values r inside ∙ ap literal_at root ∙ literal_at_code_of (Pos r)

  open_literal : (k : ℕ) → k < 2 → Fixed (state_in st) (literal_at (2 * r + k))
  open_literal k h = elim (dec_eq k 0) [
    | yes e ↦ let q : literal_at (2 * r + k) ≡ Pos r = ap literal_at (omega arith) ∙ literal_at_code_of (Pos r) in rw q open_pos
    | no e ↦
        let z : 2 * r + k ≡ 2 * r + 1 = omega arith in
        let q : literal_at (2 * r + k) ≡ Neg r = ap literal_at z ∙ literal_at_code_of (Neg r) in
        rw q (fixed_opposite (state_in st) (Pos r) open_pos)
  ]

  module _ (j : ℕ) (d : DoubledAt ix r j) (x : ℕ) (is : x ≡ 2 * r + occurrence_at ix j % 2) where
    abbrev g : ℕ
    g = occurrence_at ix j / 2

    abbrev k : ℕ
    k = occurrence_at ix j % 2

    clause : g < clause_count ix
    clause = omega (arith, occurrence_inside u.sound.index r j inside d.before)

    written : 2 ≤ occurs (literal_at (2 * r + k)) (clause_of ix g)
    written = doubled_twice u.sound.index inside d g k clause (omega arith) (omega arith)

    doubling : Doubling ix st wk g r
    doubling = record { sound = u.sound; clause = clause; positive = positive; inside = inside }

    of_r : x / 2 ≡ r
    of_r = omega arith

    opened : 0 < var (literal_at x)
    opened = omega (arith, var_at x, of_r, positive)

    twice : 1 < stood ix st g x
    twice = omega (
      arith,
      written,
      ap (λ (y : ℕ). occurs (literal_at y) (clause_of ix g)) is,
      occurs_image (state_in st) (literal_at x) (λ e. omega (arith, opened, ap var e)) (literal_at x) (rw is (open_literal k (omega arith))) (clause_of ix g),
    )

    pub doubled_decidable : Decidable ix st wk x
    doubled_decidable = undouble_decidable doubling x of_r twice

    gone : (h : ℕ) → mentions r (standing (assign (literal_at x) FALSE (state_in st)) (clause_of ix h)) ≡ 0
    gone h = rw (var_at x ∙ of_r) at (mentions_gone (state_in st) (literal_at x) FALSE opened (λ i. omega (arith, opened)) (clause_of ix h))

    pub doubled_decided : (st' : Tally) (wk' : Notes) (b : Bool) → Decided ix st wk x st' wk' b → DoublesOf ix st wk r st' wk' b
    doubled_decided st' wk' true e = (undoubled_decided doubling x of_r twice st' wk' true e).fell
    doubled_decided st' wk' false e =
        let f = (undoubled_decided doubling x of_r twice st' wk' false e).fell in
        (f.0, f.1.went, λ h i w. rw e.0 (omega (arith, gone h)))

pub undoubled_begins : {ix : Index} {st : Tally} {wk : Notes} → Sound ix st wk → UndoubledBelow ix st wk st wk 1
undoubled_begins s = record { path = still; went = went_refl s; distinct = record { by = λ c m w p o h. o } }

module _ {ix : Index} {st : Tally} {wk : Notes} (u : Undoubling ix st wk) where
  module _ {st' : Tally} {wk' : Notes} {n : ℕ} (b : UndoubledBelow ix st wk st' wk' n) where
    pub undoubled_on : Undoubling ix st' wk'
    undoubled_on = record { sound = b.went.sound; path = falls_trans u.path b.path }

    pub undoubled_well : WellFormed max_variables (state_in st')
    undoubled_well = undoubling_well undoubled_on

    pub undoubled_goes : {st'' : Tally} {wk'' : Notes} → Falls (formula_of ix) (state_in st') (state_in st'') → Went ix st' wk' st'' wk'' → OnceIn ix st'' n →
        UndoubledBelow ix st wk st'' wk'' (n + 1)
    undoubled_goes {st''} r w once = record {
      path = falls_trans b.path r;
      went = went_trans b.went w;
      distinct = distinct_weaken (distinct_looked (falls_distinct r b.distinct) n look) (λ p k. omega (arith, k.0, k.1));
    }
      where
        look : (c : Clause) → Memᴰ c (formula_of ix) → Wide (standing (state_in st'') c) → mentions n (standing (state_in st'') c) ≤ 1
        look c m w = let g = formula_mem ix m in rw g.2 (once g.0 g.1 (rw g.2 at w))

-- no variable past the last one stands
pub undoubled_all : {f : Formula} {s : State} → Within max_variables f → WellFormed max_variables s → DistinctBut (λ p. max_variables + 1 ≤ p) f s → DistinctBut (λ p. ⊥) f s
undoubled_all {s = s} within w k = record {
  by = λ c m wide p o h.
      let l = mentions_holds p (standing s c) (omega arith) in
      omega (arith, k.by c m wide p o h, standing_inside within w c l.0 m l.1, l.2);
}
