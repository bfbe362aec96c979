-- The two sides of a block are gathered, and the look goes over their pairs.
use mathlib.Core.Path.{◌≡◌, refl, ap, sym, ◌∙◌}
use mathlib.Core.Bool.{Bool, true, false}
use mathlib.Core.Logic.{◌≢◌, ⊎_elim}
use mathlib.Core.List.{List, ◌∷◌, Memᴰ}
use Prim.Native.Nat.{ℕ, ◌+◌, ◌*◌, ◌<◌, ◌≤◌}
use native.Mathlib.Omega.{arith}
use Rattle.general.specs.Times.{times}
use Rattle.literal.specs.declared.Literal.{Literal}
use Rattle.literal.specs.declared.Literal.TheVariants.{Pos, Neg}
use Rattle.literal.specs.Literal.{literal_at, max_variables}
use Rattle.literal.proofs.Codes.{literal_at_code_of}
use Rattle.theory.specs.Formula.{Clause}
use Rattle.theory.specs.State.{standing}
use Rattle.theory.proofs.Clauses.{mem_occurs}
use Rattle.theory.proofs.Counts.{Wide}
use Rattle.theory.proofs.Paired.{looked_by}
use Rattle.occurrences.specs.Index.{clause_of, formula_of, occurrences}
use Rattle.occurrences.proofs.Formulas.{formula_mem}
use Rattle.tally.specs.Tally.{state_in}
use Rattle.tally.specs.Stretch.{Stretch, Reaches}
use Rattle.tally.specs.Block.{Sides}
use Rattle.tally.proofs.Blocks.{lists_signs, lists_sides}
use Rattle.notes.specs.declared.Block.{Block}
use Rattle.notes.specs.Notes.{near_from, far_from}
use Rattle.moves.specs.Listing.{ListsIn, SpansIn}
use Rattle.gather.specs.declared.Sign.{Sign}
use Rattle.gather.specs.declared.Sign.TheVariants.{Positive, Negative}
use Rattle.gather.specs.Gathering.{is_signed, Beside, Collected, GatheredAlong, Collecting, Gatherable}
use Rattle.gather.proofs.Collects.{beside_trans}
use Rattle.gather.proofs.Written.{wide_in}
use Rattle.meet.specs.Looking.{Lookable, LookOf}
use Rattle.meet.specs.Places.{Among}
use Rattle.pairs.specs.declared.Range.{Range}
use Rattle.pairs.specs.Sides.{FacingOf, Chunkable, near_side, far_side, SideOf}
use Rattle.meet.proofs.Looking.{looked_at_as, looking_none, lookable_beside, looked_beside}
use Rattle.occurrences.specs.declared.Index.{Index}
use Rattle.tally.specs.declared.Tally.{Tally}
use Rattle.notes.specs.declared.Notes.{Notes}

-- gathering ---------------------------------------------------------------------------------------------------------

module _ {ix : Index} {st : Tally} {wk : Notes} (l : Lookable ix st wk) (block : Block) (spans : SpansIn st block) where
  -- a variable, with one sign
  module _ (zero : block.last ≡ 0) where
    inside : block.first ≤ max_variables
    inside = ⊎_elim (λ (z, h). h) (λ k. absurd (omega (arith, k.positive))) spans

    pub signs_ask : (start : ℕ) → start ≤ far_from → Collecting ix wk block.first start
    signs_ask start h = record { index = l.sound.index; inside = inside; room = omega (arith, l.sound.index.ends (block.first + 1) (omega (arith, inside))) }

    pub signs_side : {P : Clause → Type 0} (s : Sign) (k : ℕ) → k < 2 → is_signed s k ≡ true → (y : Literal) → literal_at (2 * block.first + k) ≡ y →
        ((c : Clause) → P c → Memᴰ y c) → {start : ℕ} {wk' : Notes} {end : ℕ} → Collected ix st wk block.first start s wk' end → SideOf P ix st wk start wk' end
    signs_side s k h t y e holds a = record {
      grew = a.grew;
      few = omega (arith, a.paid, l.sound.index.ends (block.first + 1) (omega (arith, inside)));
      beside = a.beside;
      kept = a.kept;
      inside = a.inside;
      all = λ g w p.
          let written : 0 < times (2 * g + k) (occurrences ix block.first) =
          rw (l.sound.index.each block.first g k inside w.0 h, e) (mem_occurs (clause_of ix g) y (holds (clause_of ix g) p)) in
          a.all g w (k, h, t, written);
    }

    pub near_signs : {wk' : Notes} {end : ℕ} → Collected ix st wk block.first near_from Positive wk' end → SideOf (near_side st block) ix st wk near_from wk' end
    near_signs =
        let p = Pos block.first in
        signs_side Positive 0 (omega arith) refl p (ap literal_at (omega arith) ∙ literal_at_code_of p) (λ c (h, r). (lists_signs zero r).0)

    pub far_signs : {wk' : Notes} {end : ℕ} → Collected ix st wk block.first far_from Negative wk' end → SideOf (far_side st block) ix st wk far_from wk' end
    far_signs = let p = Neg block.first in signs_side Negative 1 (omega arith) refl p (literal_at_code_of p) (λ c (g, r). (lists_signs zero r).1)

  -- a stretch
  pub stretch_ask : {a b : ℕ} {m : List ℕ} → Stretch st.links st.values a b m → (start : ℕ) → start ≤ far_from → Gatherable ix st wk a b start
  stretch_ask {m = m} s start h = record { index = l.sound.index; room = h; stretch = (m, s) }

  pub stretch_side : {a b : ℕ} {m : List ℕ} → Stretch st.links st.values a b m → {P : Clause → Type 0} → ((c : Clause) → P c → Reaches (b ∷ m) c) →
      {start : ℕ} {wk' : Notes} {end : ℕ} → GatheredAlong ix st wk a b start wk' end → SideOf P ix st wk start wk' end
  stretch_side {m = m} s reaches k = record {
    grew = k.grew;
    few = k.few;
    beside = k.beside;
    kept = k.kept;
    inside = k.inside;
    all = λ g w p. k.all m s g w (reaches (clause_of ix g) p);
  }

  module _ (positive : block.last ≢ 0) where
    pub sides : Sides st.links st.values block.first block.last block.from block.to
    sides = ⊎_elim (λ (z, h). absurd (positive z)) (λ k. k) spans

    pub near_stretch : {wk' : Notes} {end : ℕ} → GatheredAlong ix st wk block.first block.last near_from wk' end → SideOf (near_side st block) ix st wk near_from wk' end
    near_stretch = stretch_side sides.near_is (λ c (h, r). (lists_sides sides r).0)

    pub far_stretch : {wk' : Notes} {end : ℕ} → GatheredAlong ix st wk block.from block.to far_from wk' end → SideOf (far_side st block) ix st wk far_from wk' end
    far_stretch = stretch_side sides.far_is (λ c (g, r). (lists_sides sides r).1)

-- a wide clause of a side has a place
among : {P : Clause → Type 0} {ix : Index} {st : Tally} {wk : Notes} {start : ℕ} {wk' : Notes} {end : ℕ} → Lookable ix st wk → SideOf P ix st wk start wk' end → (c : Clause) →
    Memᴰ c (formula_of ix) → Wide (standing (state_in st) c) → P c → Among ix wk' start end c
among {ix = ix} {st} l side c m w p =
    let g = formula_mem ix m in
    let i = side.all g.0 (wide_in l.sound.index g.0 g.1 st l.sound.exact (rw g.2 at w)) (rw g.2 at p) in
    (i.0, i.1, i.2, g.2 ∙ ap (clause_of ix) (sym i.3))

-- the look ----------------------------------------------------------------------------------------------------------

module _ {ix : Index} {st : Tally} {wk : Notes} (l : Lookable ix st wk) (block : Block) {wk₁ : Notes} {near : ℕ} (n : SideOf (near_side st block) ix st wk near_from wk₁ near) where
  pub near_lookable : Lookable ix st wk₁
  near_lookable = lookable_beside l n.beside

  -- an empty side has no pair
  pub look_none : near ≡ near_from → LookOf (ListsIn st block) ix st wk st wk₁ false
  look_none z = looked_beside l n.beside (looked_at_as
      (λ o. looked_by o (λ g h p q m i r. let a = among l n g p m.meets.both.0 (h, r) in omega (arith, a.1, a.2)))
      (looking_none near_lookable).at)

  module _ {wk₂ : Notes} {far : ℕ} (f : SideOf (far_side st block) ix st wk₁ far_from wk₂ far) where
    abbrev pub near_range : Range
    near_range = record { from = near_from; to = near }

    abbrev pub far_range : Range
    far_range = record { from = far_from; to = far }

    both : Beside wk wk₂
    both = beside_trans n.beside f.beside

    pub sides_able : Chunkable ix st wk₂ near_range far_range
    sides_able = record {
      lookable = lookable_beside l both;
      ordered = n.grew;
      placed = record { late = omega arith; room = omega (arith, n.few); inside = λ i a b. rw (f.kept i (omega (arith, n.few))) (n.inside i a b) };
      others_ordered = f.grew;
      chunk = record { late = omega arith; room = omega (arith, f.few); inside = f.inside };
    }

    -- each pair of the block that meets is one of the two ranges
    pub look_sides : (st' : Tally) (wk' : Notes) (r : Bool) → FacingOf ix st wk₂ near_range far_range st' wk' r → LookOf (ListsIn st block) ix st wk st' wk' r
    look_sides st' wk' true d = d
    look_sides st' wk' false d = looked_beside l both (looked_at_as
        (λ a. looked_by a (λ g h p q m i r.
        let u = among l n g p m.meets.both.0 (h, r) in
        ((u.0, u.1, u.2, u.3 ∙ ap (clause_of ix) (sym (f.kept u.0 (omega (arith, u.2, n.few))))), among near_lookable f h q m.meets.both.1 (g, r))))
        d.at)
