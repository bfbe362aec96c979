-- What a walk may ask of the state that propagation leaves and of the two sides of a split.
use mathlib.Core.Path.{◌≡◌, ap, sym, ◌∙◌}
use mathlib.Core.Bool.{Bool, true, false}
use mathlib.Core.List.{List, []}
use Rattle.std.specs.Prelude.{Some}
use Prim.Native.Nat.{ℕ, ◌+◌, ◌≤◌}
use native.Mathlib.Omega.{arith}
use lib.ListN.{length}
use Rattle.literal.specs.declared.Literal.{Literal}
use Rattle.literal.specs.declared.Literal.TheVariants.{Pos}
use Rattle.literal.specs.Literal.{FALSE, var, literal_at}
use Rattle.theory.specs.Listing.{open_variable}
use Rattle.theory.specs.Order.{Least}
use Rattle.theory.specs.State.{State, replace, assign, opens, Open, WellFormed}
use Rattle.theory.specs.Tree.{run}
use Rattle.theory.proofs.Listing.{open_least, open_picking}
use Rattle.theory.proofs.Picking.{at_dead_end}
use Rattle.theory.proofs.Propagation.{steps_well, steps_close, steps_refine}
use Rattle.theory.proofs.States.{side, Refines, refines_root, refines_assign, replace_same}
use Rattle.occurrences.specs.Index.{formula_of}
use Rattle.tally.specs.Tally.{state_in}
use Rattle.moves.specs.Stepping.{Died}
use Rattle.engine.specs.Ready.{Rested}
use Rattle.engine.proofs.Settles.{died_settles}
use Rattle.side.specs.Side.{Begun}
use Rattle.side.proofs.Calm.{rested_calm}
use Rattle.side.proofs.Splitting.{side_begins, side_dead}
use Rattle.list.specs.declared.Level.{Level}
use Rattle.list.specs.Walk.{Lasting, Shut, Openable, Beginning, Begins, Walkable, Splittable, under, tree_run, run_from}
use Rattle.occurrences.specs.declared.Index.{Index}
use Rattle.tally.specs.declared.Tally.{Tally}
use Rattle.notes.specs.declared.Notes.{Notes}

-- what is not open does not become open
shut_refines : {n m : ℕ} {s u : State} (from : ℕ) → WellFormed n s → WellFormed n u → Refines s u → Shut m s from → Shut m u from
shut_refines from w v r h p i o = h p i (record { positive = o.positive; inside = o.inside; root = refines_root w v r p o.root })

-- propagation -------------------------------------------------------------------------------------------------------

module _ {ix : Index} {st : Tally} {wk : Notes} {l : Level} {bytes : List ℕ} (k : Lasting ix l bytes) (b : Beginning ix st wk l) where
  -- "Dead end: no layout here."
  pub died_run : Died (formula_of ix) (state_in st) → tree_run l (formula_of ix) (state_in st) ≡ run [] 0
  died_run d = at_dead_end k.within (open_picking k.within) _ (state_in st) b.well (died_settles k.within b.well d)

  module _ {st' : Tally} {wk' : Notes} (r : Rested ix st st' wk') where
    rested_well : WellFormed l.variables (state_in st')
    rested_well = steps_well k.within r.steps.1 b.well

    pub rested_fewer : opens (state_in st') l.variables ≤ opens (state_in st) l.variables
    rested_fewer = omega (arith, steps_close k.within r.steps.1 b.well)

    pub rested_openable : Openable st' l.from l.variables
    rested_openable = record {
      small = k.rowable.small;
      shut = shut_refines l.from b.well rested_well (steps_refine k.within r.steps.1 b.well) b.shut;
      positive = b.positive;
    }

    pub rested_splittable : (p : ℕ) → open_variable l.variables (state_in st') ≡ Some p → Splittable ix st' p l bytes
    rested_splittable p e = record { lasting = k; calm = rested_calm r; well = rested_well; branch = e }

-- the sides of a split -----------------------------------------------------------------------------------------------

module _ {ix : Index} {st : Tally} {p : ℕ} {l : Level} {bytes : List ℕ} (k : Splittable ix st p l bytes) where
  lowest : Least ◌≤◌ (Open l.variables (state_in st)) p
  lowest = rw k.branch at (open_least l.variables (state_in st))

  pub branch_open : Open l.variables (state_in st) p
  branch_open = lowest.member

  module _ (x : ℕ) (t : Literal) (constant : var t ≡ 0) (is : assign (literal_at x) FALSE (state_in st) ≡ assign (Pos p) t (state_in st)) (st' : Tally) (wk' : Notes) where
    abbrev side_state : State
    side_state = assign (Pos p) t (state_in st)

    side_well : WellFormed l.variables side_state
    side_well = (side k.well branch_open t constant).well

    -- p was the lowest open variable, and is not open any more
    side_shut : Shut l.variables side_state (p + 1)
    side_shut q i o =
        let root : state_in st q ≡ Pos q = refines_root k.well side_well (refines_assign (Pos p) t k.well) q o.root in
        let least : p ≤ q = lowest.least q (record { positive = o.positive; inside = o.inside; root = root }) in
        let same : q ≡ p = omega arith in
        let now : side_state q ≡ t = rw same (ap (replace (Pos p) t) branch_open.root ∙ replace_same (Pos p) t) in
        omega (arith, ap var (sym now ∙ o.root), o.positive)

    -- a side may be walked, from a row that is left or past the last
    pub side_walkable : (r : Bool) → Begun ix st x st' wk' r → (left row : ℕ) (bytes' : List ℕ) → row ≤ l.wanted → length bytes' ≡ length bytes →
        Walkable ix st' wk' r (under p left row l) bytes'
    side_walkable r b left row bytes' h e = record {
      lasting = record {
        within = k.lasting.within;
        rowable = record { small = k.lasting.rowable.small; next = h; fits = omega (arith, k.lasting.rowable.fits); word = k.lasting.rowable.word };
      };
      begins = go r b;
    }
      where
        go : (r : Bool) → Begun ix st x st' wk' r → Begins ix st' wk' (under p left row l) r
        go true b = tt
        go false b =
            let is_side = side_begins k.calm k.lasting.rowable.small k.well branch_open x t constant is st' wk' b in
            record { ready = b.1; well = rw is_side side_well; shut = rw is_side side_shut; positive = omega arith }

    -- whether its first step met a dead end or not, the side is walked
    pub side_run : (r : Bool) → Begun ix st x st' wk' r → (left row : ℕ) → tree_run (under p left row l) (formula_of ix) side_state ≡ run_from r (under p left row l) ix st'
    side_run true b left row =
        at_dead_end k.lasting.within (open_picking k.lasting.within) _ side_state side_well
        (side_dead k.calm k.lasting.rowable.small k.well branch_open x t constant is st' wk' k.lasting.within b)
    side_run false b left row = rw (side_begins k.calm k.lasting.rowable.small k.well branch_open x t constant is st' wk' b)
