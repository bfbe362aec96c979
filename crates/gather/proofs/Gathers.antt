-- Walks along a stretch: gathering its wide clauses, and looking for one in the class of an open root.
use mathlib.Core.Path.{◌≡◌, refl, ap, ◌∙◌}
use mathlib.Core.Bool.{true, false}
use mathlib.Core.Logic.{◌≢◌}
use mathlib.Core.List.{List, ◌∷◌}
use Prim.Native.Nat.{ℕ, ◌+◌, ◌≤◌, ◌<◌}
use native.Mathlib.Decide.{dec_lt, ℕ_discrete as dec_eq}
use native.Mathlib.Omega.{arith}
use lib.ListN.{get_or}
use Rattle.general.specs.Sums.{sum}
use Rattle.literal.specs.Literal.{max_literals}
use Rattle.theory.specs.State.{standing}
use Rattle.theory.proofs.Counts.{mentions, Wide, Holds, mentions_holds}
use Rattle.occurrences.specs.Index.{Indexed, clause_count, clause_of, width}
use Rattle.tally.specs.Tally.{state_in, link_in}
use Rattle.tally.specs.Ring.{Ring}
use Rattle.tally.specs.Stretch.{Stretch, Reaches}
use Rattle.tally.proofs.Stretches.{ring_class, ring_stretch, holds_reached, stretch_goes, stretch_unique}
use Rattle.notes.specs.Notes.{Gathered, far_from}
use Rattle.gather.specs.declared.Sign.TheVariants.{Either}
use Rattle.gather.specs.Gathering.{AtRoot, Beside, Gathering, WideIn, Written, Collecting, Collected, Gatherable, GatheredAlong, Stands, StandsLive}
use Rattle.gather.proofs.Written.{mem_written, written_mentions, wide_in, in_wide}
use Rattle.gather.proofs.Placed.{distinct_width}
use Rattle.gather.proofs.Along.{Along, along_begins, along_known, along_among, along_goes, along_ends}
use Rattle.gather.proofs.Collects.{beside_refl, beside_trans}
use Rattle.occurrences.specs.declared.Index.{Index}
use Rattle.tally.specs.declared.Tally.{Tally}
use Rattle.notes.specs.declared.Notes.{Notes}

-- a clause that holds p is an occurrence of it
holds_written : {ix : Index} → Indexed ix → (p g : ℕ) → g < clause_count ix → Holds p (clause_of ix g) → Written ix p g
holds_written index p g h (l, m, e) = rw e at (mem_written index g h l m)

-- gathering -----------------------------------------------------------------------------------------------------

-- the occurrences of the next variable are among those of what is left
next_width : (w : ℕ → ℕ) {link v : List ℕ} {p e : ℕ} {rest : List ℕ} → Stretch link v p e rest → w p ≤ sum w (e ∷ rest)
unfolding sum
next_width w {p = p} {e = e} {rest = rest} s = elim (dec_eq p e) [
  | yes i ↦ rw i (omega arith)
  | no i ↦ let k = stretch_goes s i in rw k.1 (omega arith)
]

pub record Gathers (ix : Index) (st : Tally) (wk : Notes) (first last start : ℕ) (wk' : Notes) (end p : ℕ) : Type 0 where
  pub index : Indexed ix
  pub room : start ≤ far_from
  pub others : List ℕ
  pub stretch : Stretch st.links st.values first last others
  pub along : Along ix st (Gathered wk' start end) (last ∷ others) p last
  pub spent : end + sum (width ix) (last ∷ along.rest) ≤ start + max_literals
  pub grew : start ≤ end
  pub beside : Beside wk wk'
  pub kept : (i : ℕ) → i < start → get_or wk'.gathered i 0 ≡ get_or wk.gathered i 0
  pub beyond : (i : ℕ) → start + max_literals ≤ i → get_or wk'.gathered i 0 ≡ get_or wk.gathered i 0
  pub inside : (i : ℕ) → start ≤ i → i < end → get_or wk'.gathered i 0 < clause_count ix

pub gathers_begins : {ix : Index} {st : Tally} {wk : Notes} {first last start : ℕ} → Gatherable ix st wk first last start → Gathers ix st wk first last start wk start first
unfolding along_begins
gathers_begins {last = last} k = record {
  index = k.index;
  room = k.room;
  others = k.stretch.0;
  stretch = k.stretch.1;
  along = along_begins k.stretch.1;
  spent = omega (arith, distinct_width k.index (last ∷ k.stretch.0) k.stretch.1.once k.stretch.1.inside);
  grew = omega arith;
  beside = beside_refl;
  kept = λ i h. refl;
  beyond = λ i h. refl;
  inside = λ i a b. absurd (omega arith);
}

module _ {ix : Index} {st : Tally} {wk : Notes} {first last start : ℕ} {wk' : Notes} {end p : ℕ} (o : Gathers ix st wk first last start wk' end p) where
  fits : end + width ix p ≤ start + max_literals
  fits = omega (arith, o.spent, next_width (width ix) o.along.left)

  pub gathers_asks : Collecting ix wk' p end
  gathers_asks = record { index = o.index; inside = along_known o.along; room = omega (arith, fits, o.room) }

  module _ {wk'' : Notes} {top : ℕ} (c : Collected ix st wk' p end Either wk'' top) where
    keeps : (g : ℕ) → Gathered wk' start end g → Gathered wk'' start top g
    keeps g d = (d.0, d.1, omega (arith, d.2, c.grew), c.kept d.0 d.2 ∙ d.3)

    fresh : (g : ℕ) → WideIn ix st g → Holds p (clause_of ix g) → Gathered wk'' start top g
    fresh g w h =
        let k = holds_written o.index p g w.0 h in
        let d = c.all g w (k.0, k.1, refl, k.2) in
        (d.0, omega (arith, d.1, o.grew), d.2, d.3)

    inside_more : (i : ℕ) → start ≤ i → i < top → get_or wk''.gathered i 0 < clause_count ix
    inside_more i a h = elim (dec_lt i end) [ yes l ↦ rw (c.kept i l) (o.inside i a l) | no l ↦ c.inside i (omega arith) h ]

    kept_more : (i : ℕ) → i < start → get_or wk''.gathered i 0 ≡ get_or wk.gathered i 0
    kept_more i h = c.kept i (omega (arith, o.grew)) ∙ o.kept i h

    beyond_more : (i : ℕ) → start + max_literals ≤ i → get_or wk''.gathered i 0 ≡ get_or wk.gathered i 0
    beyond_more i h = c.beyond i (omega (arith, fits)) ∙ o.beyond i h

    pub gathers_goes : p ≢ last → (n : ℕ) → n ≡ link_in st p → Gathers ix st wk first last start wk'' top n
    unfolding sum along_goes
    gathers_goes on n next = record {
      index = o.index;
      room = o.room;
      others = o.others;
      stretch = o.stretch;
      along = along_goes o.along on n next keeps fresh;
      spent = omega (arith, o.spent, c.paid, ap (sum (width ix)) (stretch_goes o.along.left on).1);
      grew = omega (arith, o.grew, c.grew);
      beside = beside_trans o.beside c.beside;
      kept = kept_more;
      beyond = beyond_more;
      inside = inside_more;
    }

    pub gathers_ends : p ≡ last → GatheredAlong ix st wk first last start wk'' top
    gathers_ends back = record {
      grew = omega (arith, o.grew, c.grew);
      few = omega (arith, c.paid, fits);
      beside = beside_trans o.beside c.beside;
      kept = kept_more;
      beyond = beyond_more;
      inside = inside_more;
      all = λ l s g w k. along_ends o.along back keeps fresh g w (rw (stretch_unique l o.others s o.stretch) at k);
    }

-- the class of an open root ------------------------------------------------------------------------------------------

module _ {ix : Index} {st : Tally} {r : ℕ} (a : AtRoot ix st r) where
  abbrev pub ring : Ring st.links st.values r
  ring = a.classes.rings r a.opened a.root

  pub root_stretch : Stretch st.links st.values (link_in st r) r ring.others
  root_stretch = ring_stretch a.exact.long_values a.opened ring

  -- what mentions the root is reached by its ring
  pub mentioned : {Done : ℕ → Type 0} → ((g : ℕ) → WideIn ix st g → Reaches (r ∷ ring.others) (clause_of ix g) → Done g) →
      (g : ℕ) → g < clause_count ix → Wide (standing (state_in st) (clause_of ix g)) → 0 < mentions r (standing (state_in st) (clause_of ix g)) → Done g
  mentioned done g h w m = done g (wide_in a.index g h st a.exact w)
      (holds_reached a.exact.long_values a.opened ring (clause_of ix g) a.inside (mentions_holds r (standing (state_in st) (clause_of ix g)) m))

  pub root_gathered : {wk wk' : Notes} {n : ℕ} → GatheredAlong ix st wk (link_in st r) r 0 wk' n → Gathering ix st wk r wk' n
  root_gathered k = record {
    few = omega (arith, k.few);
    beside = k.beside;
    sides = λ i h. k.beyond i (omega arith);
    inside = λ i h. k.inside i (omega arith) h;
    all = mentioned (k.all ring.others root_stretch);
  }

-- looking --------------------------------------------------------------------------------------------------------

pub record Looks (ix : Index) (st : Tally) (r p : ℕ) : Type 0 where
  pub at_root : AtRoot ix st r
  pub along : Along ix st (λ g. ⊥) (r ∷ (ring at_root).others) p r

pub looks_begins : {ix : Index} {st : Tally} {r : ℕ} → AtRoot ix st r → (p : ℕ) → p ≡ link_in st r → Looks ix st r p
looks_begins a p e = record { at_root = a; along = along_begins (rw e (root_stretch a)) }

module _ {ix : Index} {st : Tally} {r p : ℕ} (o : Looks ix st r p) where
  abbrev root : AtRoot ix st r
  root = o.at_root

  pub looks_finds : Stands ix st p true → StandsLive ix st r true
  looks_finds (g, w, i) = (
    g,
    w.0,
    in_wide root.index g w.0 st root.exact w.1,
    written_mentions root.index g w.0 st.values r root.opened p (along_known o.along)
        (ring_class root.exact.long_values root.opened (ring root) p (along_among o.along)) i,
  )

  unheld : Stands ix st p false → (g : ℕ) → WideIn ix st g → Holds p (clause_of ix g) → ⊥
  unheld none g w h = none g w (holds_written root.index p g w.0 h)

  pub looks_goes : Stands ix st p false → p ≢ r → (n : ℕ) → n ≡ link_in st p → Looks ix st r n
  looks_goes none on n next = record { at_root = root; along = along_goes o.along on n next (λ g d. d) (unheld none) }

  pub looks_ends : Stands ix st p false → p ≡ r → StandsLive ix st r false
  looks_ends none back g h w = elim (dec_lt 0 (mentions r (standing (state_in st) (clause_of ix g)))) [
    | yes m ↦ absurd (mentioned root (along_ends o.along back (λ g d. d) (unheld none)) g h w m)
    | no m ↦ omega arith
  ]
