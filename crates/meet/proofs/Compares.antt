-- A clause and those from place a to b: what holds at the loop's head, after a turn and where two meet.
use mathlib.Core.Path.{◌≡◌}
use mathlib.Core.List.{List, Memᴰ}
use Prim.Native.Nat.{ℕ, ◌+◌, ◌<◌, ◌≤◌}
use native.Mathlib.Decide.{ℕ_discrete as dec_eq}
use native.Mathlib.Omega.{arith}
use Rattle.literal.specs.declared.Literal.{Literal}
use Rattle.literal.specs.Literal.{var, literal_at}
use Rattle.theory.specs.State.{standing}
use Rattle.theory.proofs.Asks.{standing_no_false}
use Rattle.theory.proofs.Counts.{Wide}
use Rattle.occurrences.specs.Index.{clause_count, clause_of}
use Rattle.tally.specs.Tally.{state_in}
use Rattle.meet.specs.Meeting.{Readable, Marked, Meetable, MetWide}
use Rattle.meet.specs.Places.{number_at, Unmet, Comparing, FirstAt, FacedBy}
use Rattle.std.specs.Prelude.{None, Some}
use Rattle.meet.specs.declared.Met.{Met}
use Rattle.meet.specs.declared.Met.TheVariants.{Common, Crossed}
use Rattle.meet.proofs.Clauses.{wide_open}
use Rattle.meet.proofs.Matched.{apart_unmet, common_meets, crossed_meets, meets_tying}
use Rattle.meet.proofs.Widths.{distinct_in}
use Rattle.occurrences.specs.declared.Index.{Index}
use Rattle.tally.specs.declared.Tally.{Tally}
use Rattle.notes.specs.declared.Notes.{Notes}

pub record Compares (ix : Index) (st : Tally) (wk : Notes) (g a b : ℕ) (marks : List ℕ) (i : ℕ) : Type 0 where
  pub comparing : Comparing ix st wk g a b
  pub readable : Readable ix st g
  pub marked : Marked (standing (state_in st) (clause_of ix g)) marks
  pub from : a ≤ i
  pub apart : (j : ℕ) → a ≤ j → j < i → Unmet ix st wk g j

pub compares_begins : {ix : Index} {st : Tally} {wk : Notes} {g a b : ℕ} {marks : List ℕ} → Comparing ix st wk g a b → Readable ix st g →
    Marked (standing (state_in st) (clause_of ix g)) marks → Compares ix st wk g a b marks a
compares_begins c r m = record { comparing = c; readable = r; marked = m; from = omega arith; apart = λ j x y. absurd (omega arith) }

module _ {ix : Index} {st : Tally} {wk : Notes} {g a b : ℕ} {marks : List ℕ} {i : ℕ} (o : Compares ix st wk g a b marks i) where
  module _ (more : i < b) {h : ℕ} (next : h ≡ number_at wk i) where
    inside : h < clause_count ix
    inside = rw next (o.comparing.placed.inside i o.from more)

    pub compares_asks : Meetable ix st marks h
    compares_asks = record {
      index = o.comparing.lookable.sound.index;
      exact = o.comparing.lookable.sound.exact;
      classes = o.comparing.lookable.sound.classes;
      inside = inside;
      distinct = distinct_in ix st o.comparing.lookable.distinct h inside;
      unseen = o.marked.unseen;
    }

    opened : Wide (standing (state_in st) (clause_of ix h)) → (y : Literal) → Memᴰ y (standing (state_in st) (clause_of ix h)) → 0 < var y
    opened = wide_open (standing_no_false (state_in st) (clause_of ix h))

    other : Wide (standing (state_in st) (clause_of ix h)) → Readable ix st h
    other w = record {
      index = o.comparing.lookable.sound.index;
      classes = o.comparing.lookable.sound.classes;
      inside = inside;
      wide = w;
      distinct = compares_asks.distinct w;
    }

    pub compares_goes : MetWide (standing (state_in st) (clause_of ix h)) marks None → Compares ix st wk g a b marks (i + 1)
    compares_goes met = record {
      comparing = o.comparing;
      readable = o.readable;
      marked = o.marked;
      from = omega (arith, o.from);
      apart = λ j x y. elim (dec_eq j i) [
        | yes e ↦ λ m. let w = rw (e, ← next) at m.meets in apart_unmet o.marked (opened w.both.1) w.both (met w.both.1) m.shared m.crossing w
        | no e ↦ o.apart j x (omega arith)
      ];
    }

    first : FirstAt ix st wk g a b i
    first = record { from = o.from; below = more; before = o.apart }

    pub compares_met : (met : Met) → MetWide (standing (state_in st) (clause_of ix h)) marks (Some met) → FacedBy ix st wk g a b (Some (i, met))
    compares_met (Common x) (v, met) =
        let m = common_meets o.marked (opened v) (o.readable.wide, v) (compares_asks.distinct v) x met in
        (first, rw (← next) (record { one = o.readable; other = other v; common = literal_at x; crossing = m.0; meets = m.1; shared = met.1 }))
    compares_met (Crossed low high) (v, met) =
        let m = crossed_meets o.marked (opened v) (o.readable.wide, v) low high met in (
          first,
          meets_tying ix st o.comparing.lookable.sound.index o.comparing.lookable.sound.classes g h o.comparing.inside inside
              (compares_asks.distinct v) low high met.0 met.1 met.2.0 met.3.0 m,
        )

  pub compares_ends : b ≤ i → FacedBy ix st wk g a b None
  compares_ends e j x y = o.apart j x (omega arith)
