-- A state at rest that is split on an open variable: how its sides begin, and that they have fewer open variables.
use mathlib.Core.Path.{◌≡◌, ap, sym, ◌∙◌}
use mathlib.Core.Bool.{Bool, true, false}
use mathlib.Core.List.{List}
use Prim.Native.Nat.{ℕ, ◌+◌, ◌*◌, ◌/◌, ◌≤◌, ◌<◌}
use native.Mathlib.Omega.{arith}
use Rattle.literal.specs.declared.Literal.{Literal}
use Rattle.literal.specs.declared.Literal.TheVariants.{Pos}
use Rattle.literal.specs.Literal.{FALSE, var, code_of, literal_at, max_variables}
use Rattle.literal.proofs.Codes.{literal_at_code_of, code_of_literal_at}
use Rattle.theory.specs.Formula.{Within}
use Rattle.theory.specs.Propagation.{dead, settle}
use Rattle.theory.specs.State.{State, assign, opens, Open, WellFormed}
use Rattle.theory.proofs.AtRest.{settled_dead}
use Rattle.theory.proofs.Propagation.{none_left}
use Rattle.theory.proofs.States.{side}
use Rattle.occurrences.specs.Index.{formula_of}
use Rattle.state.proofs.Values.{state_of_inside}
use Rattle.tally.specs.Tally.{state_in, value_in}
use Rattle.moves.proofs.Dying.{dies_in}
use Rattle.side.specs.Side.{Calm, Siding, Begun}
use Rattle.side.proofs.Calm.{wider}
use Rattle.occurrences.specs.declared.Index.{Index}
use Rattle.tally.specs.declared.Tally.{Tally}
use Rattle.notes.specs.declared.Notes.{Notes}

-- what falls with each call of a walk: none of it is left at a dead end
abbrev pub walk_weight : Bool → State → ℕ → ℕ
walk_weight true s n = 0
walk_weight false s n = 2 * opens s n + 1

-- an open variable stands for itself
module _ (st : Tally) (p : ℕ) (h : p ≤ max_variables) where
  pub open_code : state_in st p ≡ Pos p → value_in st p ≡ 2 * p
  open_code e = sym (code_of_literal_at (value_in st p)) ∙ ap code_of (sym (state_of_inside st.values p h) ∙ e)

  pub code_open : value_in st p ≡ 2 * p → state_in st p ≡ Pos p
  code_open e = state_of_inside st.values p h ∙ ap literal_at e ∙ literal_at_code_of (Pos p)

module _ {ix : Index} {st : Tally} {n p : ℕ} (calm : Calm ix st) (small : n ≤ max_variables) (well : WellFormed n (state_in st)) (o : Open n (state_in st) p) where
  -- both its literals may be made false
  pub side_siding : (x : ℕ) → x / 2 ≡ p → Siding ix st x
  side_siding x e = record {
    calm = calm;
    well = wider small well;
    opened = omega (arith, o.positive);
    below = omega (arith, o.inside);
    root = rw e (open_code st p (omega (arith, o.inside)) o.root);
  }

  -- making the literal of code x false gives p the value t
  module _ (x : ℕ) (t : Literal) (constant : var t ≡ 0) (is : assign (literal_at x) FALSE (state_in st) ≡ assign (Pos p) t (state_in st)) (st' : Tally) (wk' : Notes) where
    -- the side begins in that state,
    pub side_begins : Begun ix st x st' wk' false → state_in st' ≡ assign (Pos p) t (state_in st)
    side_begins b = b.0 ∙ is

    -- or that state settles to a dead end
    pub side_dead : Within n (formula_of ix) → Begun ix st x st' wk' true → settle n (formula_of ix) (assign (Pos p) t (state_in st)) ≡ dead
    side_dead within b = settled_dead within (side well o t constant).well none_left (rw is at (dies_in b))

    pub side_falls : (r : Bool) → Begun ix st x st' wk' r → walk_weight r (state_in st') n < 2 * opens (state_in st) n
    side_falls true b = omega (arith, (side well o t constant).closes)
    side_falls false b = rw (side_begins b) (omega (arith, (side well o t constant).closes))
