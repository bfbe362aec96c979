-- A look at a clause and those from place a to b: what holds at the loop's head, at the start, after a step and at the end.
use mathlib.Core.Path.{◌≡◌, ap, sym, ◌∙◌}
use mathlib.Core.Bool.{Bool, true, false}
use Prim.Native.Nat.{ℕ, ◌≤◌, ◌<◌}
use native.Mathlib.Decide.{dec_lt}
use native.Mathlib.Omega.{arith}
use Rattle.theory.proofs.Paired.{looked_by}
use Rattle.occurrences.specs.Index.{clause_count, clause_of, formula_of}
use Rattle.tally.specs.Tally.{state_in, count_in}
use Rattle.notes.specs.Notes.{near_from}
use Rattle.moves.specs.Listing.{Carried}
use Rattle.moves.specs.Stepping.{Died}
use Rattle.moves.proofs.Dying.{died_after}
use Rattle.gather.specs.Gathering.{is_wide}
use Rattle.tie.specs.Tying.{Tied, Tying, Tieable}
use Rattle.meet.specs.Meeting.{Readable}
use Rattle.meet.specs.Looking.{Lookable, Looking}
use Rattle.meet.specs.Places.{clause_at, Placed, Unmet, Comparing, FirstAt, FacedBy, ClearOf}
use Rattle.meet.specs.Places.{Row, RowOf}
use Rattle.std.specs.Prelude.{None}
use Rattle.meet.proofs.Widths.{not_wide, is_wide_lem, distinct_in}
use Rattle.meet.proofs.Looking.{looking_as, looking_fell, looking_tied, looking_none, looking_steps}
use Rattle.occurrences.specs.declared.Index.{Index}
use Rattle.tally.specs.declared.Tally.{Tally}
use Rattle.notes.specs.declared.Notes.{Notes}

-- steps leave the clauses that were gathered for a look
module _ {st : Tally} {wk : Notes} {st' : Tally} {wk' : Notes} (c : Carried st wk st' wk') (ix : Index) where
  pub clause_carried : (i : ℕ) → near_from ≤ i → clause_at ix wk i ≡ clause_at ix wk' i
  clause_carried i h = ap (clause_of ix) (sym (c.gathered i h))

  pub placed_carried : {a b : ℕ} → Placed ix wk a b → Placed ix wk' a b
  placed_carried p = record { late = p.late; room = p.room; inside = λ i l h. rw (c.gathered i (omega (arith, p.late))) (p.inside i l h) }

pub placed_within : {ix : Index} {wk : Notes} {a b c d : ℕ} → Placed ix wk a b → a ≤ c → d ≤ b → Placed ix wk c d
placed_within p l r = record { late = omega (arith, p.late); room = omega (arith, p.room); inside = λ i x y. p.inside i (omega arith) (omega arith) }

-- those before place k were looked at
pub record Rows (ix : Index) (st : Tally) (wk : Notes) (g a b : ℕ) (st' : Tally) (wk' : Notes) (k : ℕ) : Type 0 where
  pub looking : Looking (Row ix wk g a k) ix st wk st' wk'
  pub placed : Placed ix wk a b
  pub inside : g < clause_count ix
  pub from : a ≤ k

pub rows_begin : {ix : Index} {st : Tally} {wk : Notes} {g a b : ℕ} → Comparing ix st wk g a b → Rows ix st wk g a b st wk a
rows_begin c = record {
  looking = looking_as (λ o. looked_by o (λ g h p q l m (e, (j, x, y, f)). omega arith)) (looking_none c.lookable);
  placed = c.placed;
  inside = c.inside;
  from = omega arith;
}

module _ {ix : Index} {st : Tally} {wk : Notes} {g a b : ℕ} {st' : Tally} {wk' : Notes} {k : ℕ} (o : Rows ix st wk g a b st' wk' k) where
  lookable : Lookable ix st' wk'
  lookable = o.looking.at.lookable

  pub rows_ask : Comparing ix st' wk' g k b
  rows_ask = record { lookable = lookable; placed = placed_within (placed_carried o.looking.carried ix o.placed) o.from (omega arith); inside = o.inside }

  pub rows_tie : (low high : ℕ) → Tying ix st' low high → Tieable ix st' wk' low high
  rows_tie low high t = record { tying = t; sound = lookable.sound; distinct = lookable.distinct; blocks = lookable.blocks }

  -- those from place k to i do not meet the clause
  further : (i : ℕ) → ((j : ℕ) → k ≤ j → j < i → Unmet ix st' wk' g j) → Looking (Row ix wk g a i) ix st wk st' wk'
  further i never = looking_as
      (λ l. looked_by l (λ c d p q n m (e, (j, x, y, f)). elim (dec_lt j k) [
        | yes h ↦ (e, (j, x, h, f))
        | no h ↦ absurd (never j (omega arith) y (rw (e, f ∙ clause_carried o.looking.carried ix j (omega (arith, o.placed.late))) at m))
      ]))
      o.looking

  -- all of them, since it is not wide, or since none does
  module _ {x : ℕ} {m : Bool} (counts : x ≡ count_in st' g) (tested : m ≡ is_wide x) where
    pub rows_narrow : m ≡ false → RowOf ix st wk g a b st' wk' false
    rows_narrow z = further b (λ j l h e. not_wide ix st' lookable.sound.index lookable.sound.exact g o.inside _ _ counts tested z e.meets.both.0)

    pub rows_readable : m ≡ true → Readable ix st' g
    rows_readable on =
        let w = is_wide_lem ix st' lookable.sound.index lookable.sound.exact g o.inside _ _ counts tested on in record {
          index = lookable.sound.index;
          classes = lookable.sound.classes;
          inside = o.inside;
          wide = w;
          distinct = distinct_in ix st' lookable.distinct g o.inside w;
        }

  pub rows_apart : FacedBy ix st' wk' g k b None → RowOf ix st wk g a b st' wk' false
  rows_apart f = further b f

  pub rows_dead : Died (formula_of ix) (state_in st') → Died (formula_of ix) (state_in st)
  rows_dead d = died_after o.looking.at.steps.1 d

  -- after a step the look goes on at the same clause
  module _ {i : ℕ} (first : FirstAt ix st' wk' g k b i) {st'' : Tally} {wk'' : Notes} where
    stepped : Looking (λ c d. ⊥) ix st' wk' st'' wk'' → Rows ix st wk g a b st'' wk'' i
    stepped l = record { looking = looking_steps (further i first.before) l; placed = o.placed; inside = o.inside; from = omega (arith, o.from, first.from) }

    pub rows_cleared : ClearOf ix st' wk' st'' wk'' false → Rows ix st wk g a b st'' wk'' i
    rows_cleared d = stepped (looking_fell lookable d.0 d.1)

    pub rows_tied : Tied ix st' wk' st'' wk'' → Rows ix st wk g a b st'' wk'' i
    rows_tied t = stepped (looking_tied t)
