-- What a walk may ask of the state that propagation leaves and of the two sides of a split.
use mathlib.Core.Path.{◌≡◌, refl, ◌∙◌}
use mathlib.Core.Bool.{Bool, true, false}
use mathlib.Core.List.{List}
use Rattle.std.specs.Prelude.{Some}
use Prim.Native.Nat.{ℕ, suc, ◌+◌, ◌≤◌, ◌<◌}
use native.Mathlib.Omega.{arith}
use lib.IntN.{ℤ}
use lib.ListN.{length}
use mir.Syntax.{w32}
use mir.Val.{Fits}
use Rattle.literal.specs.declared.Literal.{Literal}
use Rattle.literal.specs.declared.Literal.TheVariants.{Pos}
use Rattle.literal.specs.Literal.{FALSE, var, literal_at}
use Rattle.theory.specs.Formula.{Formula}
use Rattle.theory.specs.Order.{Least}
use Rattle.theory.specs.Search.{branch_variable}
use Rattle.theory.specs.State.{State, assign, opens, Open, WellFormed}
use Rattle.theory.proofs.Guard.{Guard, guard_steps, guard_split}
use Rattle.theory.proofs.Live.{InLive, live_open, branch_least}
use Rattle.theory.proofs.Picking.{branch_picking, at_dead_end}
use Rattle.theory.proofs.Propagation.{steps_well, steps_close}
use Rattle.theory.proofs.States.{side}
use Rattle.occurrences.specs.Index.{formula_of}
use Rattle.tally.specs.Tally.{state_in}
use Rattle.moves.specs.Stepping.{Died}
use Rattle.walk.specs.declared.Level.{Level}
use Rattle.engine.specs.Ready.{Rested}
use Rattle.engine.proofs.Settles.{died_settles}
use Rattle.side.specs.Side.{Begun}
use Rattle.side.proofs.Calm.{calm_closed, rested_calm}
use Rattle.side.proofs.Splitting.{side_dead}
use Rattle.walk.specs.Branch.{Branchable}
use Rattle.walk.specs.Walk.{Lasting, Beginning, Begins, Walkable, Splittable, Passable, under, tree_walk, walk_from}
use Rattle.walk.proofs.Walking.{dead_walk}
use Rattle.occurrences.specs.declared.Index.{Index}
use Rattle.tally.specs.declared.Tally.{Tally}
use Rattle.notes.specs.declared.Notes.{Notes}

-- propagation -------------------------------------------------------------------------------------------------------

module _ {ix : Index} {st : Tally} {wk : Notes} {l : Level} {plan : List ℕ} {trail : List ℤ} (k : Lasting ix l plan trail) (b : Beginning ix st wk l) where
  abbrev n : ℕ
  n = l.variables

  abbrev f : Formula
  f = formula_of ix

  -- "Dead end: no layout here."
  pub died_walk : Died f (state_in st) → walk_from true l ix st plan trail ≡ tree_walk l f (state_in st) plan trail
  died_walk d = dead_walk n l.depth l.left plan trail _ (at_dead_end k.within (branch_picking k.within) 1 (state_in st) b.well (died_settles k.within b.well d))

  module _ {st' : Tally} {wk' : Notes} (r : Rested ix st st' wk') where
    pub rested_well : WellFormed n (state_in st')
    rested_well = steps_well k.within r.steps.1 b.well

    pub rested_fewer : opens (state_in st') n ≤ opens (state_in st) n
    rested_fewer = omega (arith, steps_close k.within r.steps.1 b.well)

    pub rested_branchable : Branchable ix st' l.from n
    rested_branchable = record {
      calm = rested_calm r;
      within = k.within;
      small = k.small;
      well = rested_well;
      guard = guard_steps k.within b.well r.steps.1 b.guard;
      positive = b.positive;
    }

    pub rested_splittable : (p : ℕ) → branch_variable f (state_in st') ≡ Some p → Splittable ix st' p l plan trail
    rested_splittable p e = record { lasting = k; calm = rested_calm r; well = rested_well; branch = e; deep = omega (arith, b.deep, rested_fewer) }

-- the sides of a split -----------------------------------------------------------------------------------------------

module _ {ix : Index} {st : Tally} {p : ℕ} {l : Level} {plan : List ℕ} {trail : List ℤ} (k : Splittable ix st p l plan trail) where
  pub branch_open : Open l.variables (state_in st) p
  branch_open =
      let b : Least ◌≤◌ (InLive (formula_of ix) (state_in st)) p = rw k.branch at (branch_least (formula_of ix) (state_in st) (calm_closed k.calm)) in
      live_open k.well k.lasting.within b.member

  -- a path from here on has a side at this depth
  pub side_deep : l.depth < l.variables
  side_deep = omega (arith, k.deep, (side k.well branch_open FALSE refl).closes)

  pub side_room : l.depth < length trail
  side_room = omega (arith, side_deep, k.lasting.trail_room)

  -- making the literal of code x false gives p the value t
  module _ (x : ℕ) (t : Literal) (constant : var t ≡ 0) (is : assign (literal_at x) FALSE (state_in st) ≡ assign (Pos p) t (state_in st)) where
    abbrev side_state : State
    side_state = assign (Pos p) t (state_in st)

    side_well : WellFormed l.variables side_state
    side_well = (side k.well branch_open t constant).well

    module _ (st' : Tally) (wk' : Notes) where
      -- a side has fewer open variables, and may be walked
      pub side_walkable : (r : Bool) → Begun ix st x st' wk' r → (left : ℕ) (plan' : List ℕ) (trail' : List ℤ) → length plan' ≡ length plan → length trail' ≡ length trail →
          Walkable ix st' wk' r (under p left l) plan' trail'
      side_walkable r b left plan' trail' lp lt = record { lasting = lasts; begins = go r b }
        where
          lasts : Lasting ix (under p left l) plan' trail'
          lasts = record {
            within = k.lasting.within;
            small = k.lasting.small;
            plan_room = omega (arith, k.lasting.plan_room);
            trail_room = omega (arith, k.lasting.trail_room);
          }

          go : (r : Bool) → Begun ix st x st' wk' r → Begins ix st' wk' (under p left l) r
          go true b = tt
          go false b =
              let e : state_in st' ≡ side_state = b.0 ∙ is in
              let g : Guard (formula_of ix) side_state (p + 1) = let q : suc p ≡ p + 1 = omega arith in rw q at (guard_split (state_in st) (calm_closed k.calm) k.branch t constant) in
              record {
                ready = b.1;
                well = rw e side_well;
                guard = rw e g;
                positive = omega arith;
                deep = rw e (omega (arith, k.deep, (side k.well branch_open t constant).closes));
              }

      -- whether its first step met a dead end or not, the side is walked
      pub side_walk : (r : Bool) → Begun ix st x st' wk' r → (left : ℕ) (plan' : List ℕ) (trail' : List ℤ) →
          walk_from r (under p left l) ix st' plan' trail' ≡ tree_walk (under p left l) (formula_of ix) side_state plan' trail'
      side_walk true b left plan' trail' =
          dead_walk l.variables (l.depth + 1) left plan' trail' _
          (at_dead_end k.lasting.within (branch_picking k.lasting.within) 1 side_state side_well
          (side_dead k.calm k.lasting.small k.well branch_open x t constant is st' wk' k.lasting.within b))
      side_walk false b left plan' trail' = let e : state_in st' ≡ side_state = b.0 ∙ is in rw e

  pub side_passable : (count splits left : ℕ) → splits + count ≤ left → Fits w32 left → (x : Literal) → var x ≡ p → (trail' : List ℤ) → length trail' ≡ length trail →
      Passable count splits x l.depth trail'
  side_passable count splits left h f x e trail' q =
      record { sum = omega arith; room = omega (arith, side_room); small = omega (arith, branch_open.inside, k.lasting.small) }
