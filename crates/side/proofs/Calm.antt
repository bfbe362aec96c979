-- A state at rest, where every clause has one of the three forms, is what propagation leaves; and the two literals of a variable to split on, by their codes.
use mathlib.Core.Path.{◌≡◌}
use mathlib.Core.List.{List, Memᴰ}
use Prim.Native.Nat.{ℕ, ◌≤◌}
use native.Mathlib.Omega.{arith}
use Rattle.literal.specs.declared.Literal.TheVariants.{Pos, Neg}
use Rattle.literal.specs.Literal.{TRUE, FALSE, code_of, literal_at}
use Rattle.literal.proofs.Codes.{literal_at_code_of}
use Rattle.theory.specs.Formula.{Clause}
use Rattle.theory.specs.State.{State, assign, standing, WellFormed}
use Rattle.theory.proofs.Asks.{standing_no_false}
use Rattle.theory.proofs.ByCount.{counted_closed}
use Rattle.theory.proofs.Closed.{Closed}
use Rattle.theory.proofs.Stepped.{assign_turned}
use Rattle.occurrences.specs.Index.{clause_of, formula_of}
use Rattle.occurrences.proofs.Formulas.{formula_mem}
use Rattle.tally.specs.Tally.{state_in}
use Rattle.moves.specs.Sound.{Sound}
use Rattle.engine.specs.Ready.{Rested}
use Rattle.side.specs.Side.{Tallied, Calm}
use Rattle.occurrences.specs.declared.Index.{Index}
use Rattle.tally.specs.declared.Tally.{Tally}
use Rattle.notes.specs.declared.Notes.{Notes}

sound_tallied : {ix : Index} {st : Tally} {wk : Notes} → Sound ix st wk → Tallied ix st
sound_tallied s = record {
  index = s.index;
  exact = s.exact;
  linked = s.linked;
  classes = s.classes;
  room = omega (arith, s.todo_room);
  roots = omega (arith, s.blocks_room);
}

pub rested_calm : {ix : Index} {st st' : Tally} {wk' : Notes} → Rested ix st st' wk' → Calm ix st'
rested_calm r = record { tallied = sound_tallied r.sound; counted = r.counted; distinct = r.distinct; pairs = r.pairs }

-- every clause of a state at rest has one of the three forms
pub calm_closed : {ix : Index} {st : Tally} → Calm ix st → (c : Clause) → Memᴰ c (formula_of ix) → Closed (standing (state_in st) c)
calm_closed {ix} {st} k c m =
    let w = formula_mem ix m in
    rw w.2 (counted_closed (standing (state_in st) (clause_of ix w.0)) (standing_no_false (state_in st) (clause_of ix w.0)) (k.counted w.0 w.1))

-- a state of n variables is one of more
pub wider : {n m : ℕ} {s : State} → n ≤ m → WellFormed n s → WellFormed m s
wider h w = record { low = w.low; fixed = w.fixed; beyond = λ p i. w.beyond p (omega arith) }

-- the two literals of the branch variable, by their codes
pub out_assigns : (p x : ℕ) → x ≡ code_of (Pos p) → (s : State) → assign (literal_at x) FALSE s ≡ assign (Pos p) FALSE s
out_assigns p x e s = rw (e, literal_at_code_of (Pos p))

pub taken_assigns : (p x : ℕ) → x ≡ code_of (Neg p) → (s : State) → assign (literal_at x) FALSE s ≡ assign (Pos p) TRUE s
taken_assigns p x e s = rw (e, literal_at_code_of (Neg p)) (assign_turned s (Pos p) TRUE)
