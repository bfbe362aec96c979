-- The first counts: each clause is counted by its length, and an empty one is a dead end.
use mathlib.Core.Path.{◌≡◌, ap, sym, ◌∙◌}
use mathlib.Core.Logic.{inr, ⊎_elim}
use mathlib.Core.List.{List}
use Prim.Native.Nat.{ℕ, ◌+◌, ◌≤◌, ◌<◌}
use native.Mathlib.Decide.{dec_lt}
use native.Mathlib.Omega.{arith}
use borrow.Author.Tests.{lt-ltb}
use lib.Dec.{ltb}
use lib.ListN.{get_or, set, length, length-take, length-drop}
use lib.Seq.{get_or-set_same, get_or-set_other}
use Rattle.general.specs.Booleans.{bit}
use Rattle.general.specs.Bits.{bit_le}
use Rattle.literal.specs.Literal.{max_clauses, max_variables, max_table, variables}
use Rattle.theory.specs.State.{initial}
use Rattle.theory.proofs.Propagation.{none_left}
use Rattle.occurrences.specs.Index.{Indexed, clause_count, clause_of, formula_of}
use Rattle.occurrences.proofs.Formulas.{mem_formula}
use Rattle.tally.specs.Tally.{with_count}
use Rattle.tally.specs.Counts.{Exact}
use Rattle.tally.proofs.Standing.{clause_length}
use Rattle.notes.specs.Notes.{with_todo, with_todo_end, with_blocks_end}
use Rattle.moves.specs.Stepping.{Died}
use Rattle.engine.proofs.Along.{within_indexed}
use Rattle.start.specs.Opening.{OpenBelow}
use Rattle.start.specs.Counting.{CountedBelow, Fresh}
use Rattle.start.proofs.Rooms.{roots_few, room_few}
use Rattle.start.proofs.Opening.{set_below, open_counted, open_initial, open_classes}
use Rattle.start.proofs.Initial.{Opens, opens_initial, trues_initial, standing_empty}
use Rattle.occurrences.specs.declared.Index.{Index}
use Rattle.tally.specs.declared.Tally.{Tally}
use Rattle.notes.specs.declared.Notes.{Notes}

pub counted_begins : {ix : Index} {t : Tally} {w : Notes} → OpenBelow t variables → CountedBelow ix t w 0 0
counted_begins o = record {
  opened = o;
  counts = λ g h. absurd (omega arith);
  never = λ g h. absurd (omega arith);
  noted = λ g h k. absurd (omega arith);
  inside = λ i h. absurd (omega arith);
  few = omega arith;
}

-- clause n is written past the last note, and is one where the end moves on
module _ {ix : Index} {t : Tally} {w : Notes} {end n : ℕ} (c : CountedBelow ix t w end n) (inside : n < max_clauses) (long : length w.todo ≡ max_table) (x : ℕ)
    (is : x ≡ length (clause_of ix n)) where
  kept : (i : ℕ) → i < end → get_or (set w.todo end n) i 0 ≡ get_or w.todo i 0
  kept i h = get_or-set_other w.todo end i n 0 (λ q. omega arith)

  last : get_or (set w.todo end n) end 0 ≡ n
  last = get_or-set_same w.todo end n 0 (omega (arith, c.few))

  pub counted_goes : 0 < x → CountedBelow ix (with_count n x t) (with_todo end n w) (end + bit (ltb x 3)) (n + 1)
  counted_goes o = record {
    opened = open_counted n x c.opened;
    counts = set_below t.counts n x (λ g. length (clause_of ix g)) (omega (arith, c.opened.long_counts)) is c.counts;
    never = λ g h. elim (dec_lt g n) [
      | yes b ↦ c.never g b
      | no b ↦ let e : g ≡ n = omega arith in rw (e, ← is) o
    ];
    noted = λ g h k. elim (dec_lt g n) [
      | yes b ↦ let i = c.noted g b k in (i.0, omega (arith, i.1), kept i.0 i.1 ∙ i.2)
      | no b ↦
          let e : g ≡ n = omega arith in
          let l : x < 3 = rw (e, ← is) at k in
          (end, omega (arith, ap bit (lt-ltb x 3 l)), last ∙ sym e)
    ];
    inside = λ i h. elim (dec_lt i end) [
      | yes b ↦ rw (kept i b) (omega (arith, c.inside i b))
      | no b ↦ let e : i ≡ end = omega (arith, bit_le (ltb x 3)) in rw (e, last) (omega arith)
    ];
    few = omega (arith, bit_le (ltb x 3), c.few);
  }

pub empty_dies : (ix : Index) (g : ℕ) → g < clause_count ix → length (clause_of ix g) ≡ 0 → Died (formula_of ix) initial
empty_dies ix g h e = record {
  state = initial;
  count = 0;
  steps = none_left;
  dies = record { clause = clause_of ix g; member = mem_formula ix g h; dead_end = inr (standing_empty (clause_of ix g) e) };
}

module _ {ix : Index} (st : Tally) {w : Notes} {end : ℕ} (index : Indexed ix) (c : CountedBelow ix st w end (clause_count ix)) where
  clause_opens : (g : ℕ) → g < clause_count ix → Opens (clause_of ix g)
  clause_opens g h l m = (within_indexed index).low (clause_of ix g) l (mem_formula ix g h) m

  exact : Exact ix st.values st.counts
  exact = record {
    long_values = c.opened.long_values;
    long_counts = c.opened.long_counts;
    is = λ g h. rw (open_initial c.opened, opens_initial (clause_of ix g) (clause_opens g h), trues_initial (clause_of ix g) (clause_opens g h)) (omega (arith, c.counts g h));
    low = λ g h. omega (arith, c.counts g h, clause_length index g h);
  }

  pub counted_ends : {wk : Notes} → wk ≡ with_blocks_end 0 (with_todo_end end w) → Fresh ix st wk
  counted_ends {wk} is = record {
    initially = open_initial c.opened;
    sound = record {
      index = index;
      exact = exact;
      linked = c.opened.long_links;
      classes = open_classes c.opened;
      todo_room = omega (arith, ends, c.few, index.few, room_few index st.values);
      blocks_room = omega (arith, none, roots_few st.values max_variables);
      todo_inside = λ i h. rw todo (c.inside i (omega (arith, ends)));
    };
    short = record {
      units = record {
        never = λ g h. omega (arith, c.counts g h, c.never g h);
        noted = λ g h u. noted g h (⊎_elim (λ e. omega (arith, c.counts g h)) (λ o. absurd (omega (arith, c.counts g h, clause_length index g h))) u);
      };
      twos = λ g h e. inr (noted g h (omega (arith, c.counts g h)));
    };
  }
    where
      ends : wk.todo_end ≡ end
      ends = ap (λ (k : Notes). k.todo_end) is

      none : wk.blocks_end ≡ 0
      none = ap (λ (k : Notes). k.blocks_end) is

      todo : wk.todo ≡ w.todo
      todo = ap (λ (k : Notes). k.todo) is

      noted : (g : ℕ) → g < clause_count ix → length (clause_of ix g) < 3 → (i : ℕ) × (0 ≤ i) × (i < wk.todo_end) × (get_or wk.todo i 0 ≡ g)
      noted g h k = let i = c.noted g h k in (i.0, omega arith, omega (arith, ends, i.1), rw todo i.2)
