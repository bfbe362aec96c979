-- What a walk from a state comes to, by what propagation ends in.
use Rattle.std.proofs.Common.{◌≡◌, Bool, true, false, List, ℕ, suc, ◌*◌, ◌<◌, arith}
use Rattle.std.specs.Prelude.{Option, Some}
use Rattle.theory.specs.Listing.{open_variable, decide_open}
use Rattle.theory.specs.Search.{split_on}
use Rattle.theory.specs.State.{opens}
use Rattle.theory.specs.Tree.{tree, visit}
use Rattle.theory.proofs.Listing.{open_picking}
use Rattle.theory.proofs.Picking.{at_rest}
use Rattle.occurrences.specs.Index.{formula_of}
use Rattle.tally.specs.Tally.{state_in}
use Rattle.moves.specs.Stepping.{Died}
use Rattle.engine.specs.Ready.{Rested, Propagated}
use Rattle.engine.proofs.Settles.{rested_settles}
use Rattle.side.proofs.Splitting.{walk_weight}
use Rattle.list.specs.declared.Ending.TheVariants.{All}
use Rattle.list.specs.declared.Level.{Level}
use Rattle.list.specs.declared.Walk.{Walk}
use Rattle.list.specs.Walk.{Lasting, Beginning, Openable, Walkable, Splittable, Walked, room, run_from}
use Rattle.list.proofs.Rows.{same_walked, dead_walked}
use Rattle.list.proofs.Sides.{died_run, rested_fewer, rested_openable, rested_splittable}
use Rattle.occurrences.specs.declared.Index.{Index}
use Rattle.tally.specs.declared.Tally.{Tally}
use Rattle.notes.specs.declared.Notes.{Notes}

module _ {ix : Index} {st : Tally} {wk : Notes} {r : Bool} {l : Level} {bytes : List ℕ} (k : Walkable ix st wk r l bytes) where
  abbrev nothing : Walk
  nothing = record { ending = All; written = 0; count = 0 }

  pub begun_dead : true ≡ r → Walked l (run_from r l ix st) bytes bytes nothing
  begun_dead e = rw (← e) (dead_walked k.lasting.rowable)

  pub settled_dead : false ≡ r → Died (formula_of ix) (state_in st) → Walked l (run_from r l ix st) bytes bytes nothing
  settled_dead e d = rw (← e) (same_walked (died_run k.lasting (rw (← e) at k.begins) d) l bytes bytes nothing (dead_walked k.lasting.rowable))

-- no dead end was met before propagation, and none in it
pub record Settled (ix : Index) (st : Tally) (wk : Notes) (r : Bool) (l : Level) (bytes : List ℕ) (st' : Tally) (wk' : Notes) : Type 0 where
  pub lasting : Lasting ix l bytes
  pub live : false ≡ r
  pub beginning : Beginning ix st wk l
  pub rested : Rested ix st st' wk'

pub is_settled : {ix : Index} {st : Tally} {wk : Notes} {r : Bool} {l : Level} {bytes : List ℕ} → Walkable ix st wk r l bytes → false ≡ r →
    (st' : Tally) (wk' : Notes) (d : Bool) → Propagated ix st st' wk' d → false ≡ d → Settled ix st wk r l bytes st' wk'
is_settled k live st' wk' d p e = record { lasting = k.lasting; live = live; beginning = rw (← live) at k.begins; rested = rw (← e) at p }

module _ {ix : Index} {st : Tally} {wk : Notes} {r : Bool} {l : Level} {bytes : List ℕ} {st' : Tally} {wk' : Notes} (s : Settled ix st wk r l bytes st' wk') where
  pub settled_openable : Openable st' l.from l.variables
  settled_openable = rested_openable s.lasting s.beginning s.rested

  pub settled_falls : 2 * opens (state_in st') l.variables < walk_weight r (state_in st) l.variables
  settled_falls = rw (← s.live) (omega (arith, rested_fewer s.lasting s.beginning s.rested))

  pub settled_splittable : (v : ℕ) → open_variable l.variables (state_in st') ≡ Some v → Splittable ix st' v l bytes
  settled_splittable v e = rested_splittable s.lasting s.beginning s.rested v e

  -- a layout, or a split on the lowest open variable
  pub settled_walked : (o : Option ℕ) → open_variable l.variables (state_in st') ≡ o → (new : List ℕ) (w : Walk) →
      Walked l (visit (tree (decide_open l.variables (formula_of ix)) (suc l.variables)) (suc (room l)) (split_on l.variables (state_in st') o)) bytes new w →
      Walked l (run_from r l ix st) bytes new w
  settled_walked o e new w h =
      let within = s.lasting.within in
      let well = s.beginning.well in
      let rests = rested_settles within well s.rested in
      rw (← s.live) (same_walked (at_rest within (open_picking within) (suc (room l)) _ well _ rests o e) l bytes new w h)
