-- Looks at two ranges of clauses that were gathered: the next row that may meet a chunk, a chunk row by row, and others chunk by chunk.
use mathlib.Core.Path.{◌≡◌, ap, sym, subst, ◌∙◌}
use mathlib.Core.Bool.{Bool, true, false}
use mathlib.Core.Logic.{inl, inr}
use mathlib.Core.List.{List}
use Prim.Native.Nat.{ℕ, ◌+◌, ◌-◌, ◌≤◌, ◌<◌}
use native.Mathlib.Decide.{dec_lt, ℕ_discrete as dec_eq}
use native.Mathlib.Omega.{arith}
use Rattle.general.specs.Sets.{Has, has_none}
use Rattle.theory.proofs.Paired.{Meet, looked_by, looked_then, looked_turned}
use Rattle.occurrences.specs.Index.{clause_of}
use Rattle.tally.specs.Tally.{state_in}
use Rattle.pairs.specs.declared.Range.{Range}
use Rattle.meet.specs.Looking.{Looking}
use Rattle.meet.specs.Places.{number_at, clause_at, RowOf, Comparing}
use Rattle.pairs.specs.Seen.{SeenAll, MayMeet, FirstRow, Seeing}
use Rattle.pairs.specs.Sides.{Facing, FacingOf, Chunkable, NextRow}
use Rattle.meet.proofs.Looking.{looking_as, looking_none, looking_then}
use Rattle.meet.proofs.Rows.{clause_carried, placed_carried, placed_within}
use Rattle.occurrences.specs.declared.Index.{Index}
use Rattle.tally.specs.declared.Tally.{Tally}
use Rattle.notes.specs.declared.Notes.{Notes}

-- the next row ------------------------------------------------------------------------------------------------------

-- a row more that meets none
pub row_more : {ix : Index} {st : Tally} {wk : Notes} {seen : List ℕ} {a b i : ℕ} → FirstRow ix st wk seen a b i → i < b → (g : ℕ) → g ≡ number_at wk i → (set : ℕ) → MayMeet ix st seen g set → set ≡ 0 →
    FirstRow ix st wk seen a b (i + 1)
row_more {ix} {st} {wk} {seen} {i = i} o more g is set m z = record {
  from = omega (arith, o.from);
  within = omega arith;
  apart = λ k l h. elim (dec_eq k i) [
    | yes e ↦ λ w c s n. subst (λ (x : ℕ). Has x w) z (m w c s (subst (λ (x : ℕ). Meet (state_in st) (clause_of ix x) c) (ap (number_at wk) e ∙ sym is) n))
    | no e ↦ o.apart k l (omega arith)
  ];
}

module _ {ix : Index} {st : Tally} {wk : Notes} {rows chunk : Range} (c : Chunkable ix st wk rows chunk) where
  pub chunk_seeing : Seeing ix st wk chunk.from chunk.to
  chunk_seeing = record { index = c.lookable.sound.index; exact = c.lookable.sound.exact; classes = c.lookable.sound.classes; placed = c.chunk }

  pub rows_seeing : Seeing ix st wk rows.from rows.to
  rows_seeing = record { index = c.lookable.sound.index; exact = c.lookable.sound.exact; classes = c.lookable.sound.classes; placed = c.placed }

  -- the first row itself
  pub next_alone : NextRow ix st wk rows chunk rows.from
  next_alone = record { from = omega arith; within = c.ordered; apart = λ i a b. absurd (omega arith) }

  pub next_seen : {seen : List ℕ} → SeenAll ix st wk chunk.from chunk.to seen → {r : ℕ} → FirstRow ix st wk seen rows.from rows.to r → NextRow ix st wk rows chunk r
  next_seen s f = record {
    from = f.from;
    within = f.within;
    apart = λ i a b j x y m. has_none _ (f.apart i a b _ (clause_at ix wk j) (s.all j x y m.meets.both.1) m);
  }

-- a chunk ------------------------------------------------------------------------------------------------------------

-- the rows before place `from` were looked at
pub record Chunks (ix : Index) (st : Tally) (wk : Notes) (rows chunk : Range) (st' : Tally) (wk' : Notes) (from : ℕ) : Type 0 where
  pub looking : Looking (Facing ix wk rows.from from chunk.from chunk.to) ix st wk st' wk'
  pub able : Chunkable ix st wk rows chunk
  pub begun : rows.from ≤ from
  pub within : from ≤ rows.to

pub chunks_begin : {ix : Index} {st : Tally} {wk : Notes} {rows chunk : Range} → Chunkable ix st wk rows chunk → Chunks ix st wk rows chunk st wk rows.from
chunks_begin k = record {
  looking = looking_as (λ o. looked_by o (λ g h p q l m ((i, x, y, e), f). omega arith)) (looking_none k.lookable);
  able = k;
  begun = omega arith;
  within = k.ordered;
}

module _ {ix : Index} {st : Tally} {wk : Notes} {rows chunk : Range} {st' : Tally} {wk' : Notes} {from : ℕ} (o : Chunks ix st wk rows chunk st' wk' from) where
  pub chunks_ask : Chunkable ix st' wk' (record { from = from; to = rows.to }) chunk
  chunks_ask = record {
    lookable = o.looking.at.lookable;
    ordered = o.within;
    placed = placed_within (placed_carried o.looking.carried ix o.able.placed) o.begun (omega arith);
    others_ordered = o.able.others_ordered;
    chunk = placed_carried o.looking.carried ix o.able.chunk;
  }

  module _ (i : ℕ) (n : NextRow ix st' wk' (record { from = from; to = rows.to }) chunk i) where
    -- the rows to place i meet none
    further : Looking (Facing ix wk rows.from i chunk.from chunk.to) ix st wk st' wk'
    further = looking_as
        (λ l. looked_by l (λ c d p q u m ((x, a, b, e), (y, s, t, f)). elim (dec_lt x from) [
          | yes h ↦ ((x, a, h, e), (y, s, t, f))
          | no h ↦ absurd (n.apart x (omega arith) b y s t (rw (
            e ∙ clause_carried o.looking.carried ix x (omega (arith, o.able.placed.late)),
            f ∙ clause_carried o.looking.carried ix y (omega (arith, o.able.chunk.late)),
          ) at m))
        ]))
        o.looking

    pub chunks_end : rows.to ≤ i → FacingOf ix st wk rows chunk st' wk' false
    chunks_end h = looking_as (λ l. looked_by l (λ c d p q u m ((x, a, b, e), f). ((x, a, omega arith, e), f))) further

    pub chunks_row : i < rows.to → (g : ℕ) → g ≡ number_at wk' i → Comparing ix st' wk' g chunk.from chunk.to
    chunks_row more g is = record { lookable = o.looking.at.lookable; placed = chunks_ask.chunk; inside = rw is (chunks_ask.placed.inside i n.from more) }

    pub chunks_go : i < rows.to → (g : ℕ) → g ≡ number_at wk' i → {st'' : Tally} {wk'' : Notes} → RowOf ix st' wk' g chunk.from chunk.to st'' wk'' false →
        Chunks ix st wk rows chunk st'' wk'' (i + 1)
    chunks_go more g is r = record {
      looking = looking_then
          (λ a b. looked_by (looked_then a b) (λ c d p q u m ((x, k, l, e), (y, s, t, f)). elim (dec_eq x i) [
            | yes h ↦
                let z : clause_at ix wk x ≡ clause_of ix g = clause_carried o.looking.carried ix x (omega (arith, o.able.placed.late)) ∙ ap (clause_at ix wk') h ∙ ap (clause_of ix) (sym is) in
                inr (e ∙ z, (y, s, t, f ∙ clause_carried o.looking.carried ix y (omega (arith, o.able.chunk.late))))
            | no h ↦ inl ((x, k, omega arith, e), (y, s, t, f))
          ]))
          further r;
      able = o.able;
      begun = omega (arith, o.begun, n.from);
      within = omega arith;
    }

-- chunk by chunk -----------------------------------------------------------------------------------------------------

-- the others before place `from` were looked at
pub record Parts (ix : Index) (st : Tally) (wk : Notes) (rows others : Range) (st' : Tally) (wk' : Notes) (from : ℕ) : Type 0 where
  pub looking : Looking (Facing ix wk rows.from rows.to others.from from) ix st wk st' wk'
  pub able : Chunkable ix st wk rows others
  pub begun : others.from ≤ from

pub parts_begin : {ix : Index} {st : Tally} {wk : Notes} {rows others : Range} → Chunkable ix st wk rows others → Parts ix st wk rows others st wk others.from
parts_begin k = record {
  looking = looking_as (λ o. looked_by o (λ g h p q l m (e, (j, x, y, f)). omega arith)) (looking_none k.lookable);
  able = k;
  begun = omega arith;
}

module _ {ix : Index} {st : Tally} {wk : Notes} {rows others : Range} {st' : Tally} {wk' : Notes} {from : ℕ} (o : Parts ix st wk rows others st' wk' from) where
  pub parts_ask : (to : ℕ) → from < to → to ≤ others.to → Chunkable ix st' wk' rows (record { from = from; to = to })
  parts_ask to more within = record {
    lookable = o.looking.at.lookable;
    ordered = o.able.ordered;
    placed = placed_carried o.looking.carried ix o.able.placed;
    others_ordered = omega arith;
    chunk = placed_within (placed_carried o.looking.carried ix o.able.chunk) o.begun within;
  }

  pub parts_go : (to : ℕ) → from < to → {st'' : Tally} {wk'' : Notes} → FacingOf ix st' wk' rows (record { from = from; to = to }) st'' wk'' false →
      Parts ix st wk rows others st'' wk'' to
  parts_go to more d = record {
    looking = looking_then
        (λ a b. looked_by (looked_then a b) (λ c e p q u m ((x, k, l, f), (y, s, t, h)). elim (dec_lt y from) [
          | yes i ↦ inl ((x, k, l, f), (y, s, i, h))
          | no i ↦ inr (
            (x, k, l, f ∙ clause_carried o.looking.carried ix x (omega (arith, o.able.placed.late))),
            (y, omega arith, t, h ∙ clause_carried o.looking.carried ix y (omega (arith, o.able.chunk.late))),
          )
        ]))
        o.looking d;
    able = o.able;
    begun = omega (arith, o.begun);
  }

  pub parts_end : others.to ≤ from → FacingOf ix st wk rows others st' wk' false
  parts_end h = looking_as (λ l. looked_by l (λ c d p q u m (e, (y, s, t, f)). (e, (y, s, omega arith, f)))) o.looking

-- the fewer ----------------------------------------------------------------------------------------------------------

module _ {ix : Index} {st : Tally} {wk : Notes} {rows others : Range} (c : Chunkable ix st wk rows others) where
  pub turned : Chunkable ix st wk others rows
  turned = record { lookable = c.lookable; ordered = c.others_ordered; placed = c.chunk; others_ordered = c.ordered; chunk = c.placed }

  module _ (one : rows.to - rows.from ≡ 1) (g : ℕ) (is : g ≡ number_at wk rows.from) where
    pub one_row : Comparing ix st wk g others.from others.to
    one_row = record { lookable = c.lookable; placed = c.chunk; inside = rw is (c.placed.inside rows.from (omega arith) (omega (arith, c.ordered))) }

    pub one_facing : (st' : Tally) (wk' : Notes) (r : Bool) → RowOf ix st wk g others.from others.to st' wk' r → FacingOf ix st wk rows others st' wk' r
    one_facing st' wk' true d = d
    one_facing st' wk' false d = looking_as
        (λ l. looked_by l (λ a b p q u m ((x, k, j, e), f).
        let z : x ≡ rows.from = omega (arith, c.ordered) in
        (e ∙ ap (clause_at ix wk) z ∙ ap (clause_of ix) (sym is), f)))
        d

  pub facing_turned : (st' : Tally) (wk' : Notes) (r : Bool) → FacingOf ix st wk others rows st' wk' r → FacingOf ix st wk rows others st' wk' r
  facing_turned st' wk' true d = d
  facing_turned st' wk' false d = looking_as (λ l. looked_turned (looked_by l (λ g h p q u m (e, f). (f, e)))) d
