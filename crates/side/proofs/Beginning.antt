-- The first step of a side of a split: from a state at rest an open literal becomes false.
use mathlib.Core.Path.{◌≡◌, ap}
use mathlib.Core.Bool.{Bool, true, false}
use mathlib.Core.List.{List}
use Prim.Native.Nat.{ℕ, ◌/◌, ◌%◌, ◌≤◌, ◌<◌}
use native.Mathlib.Decide.{ℕ_discrete}
use native.Mathlib.Omega.{arith}
use Rattle.literal.specs.declared.Literal.TheVariants.{Pos}
use Rattle.literal.specs.Literal.{FALSE, var, opposite, literal_at, max_variables}
use Rattle.literal.proofs.Codes.{var_at, at_even, at_odd}
use Rattle.theory.specs.State.{State}
use Rattle.theory.proofs.States.{Fixed, Valid, assign_well, well_based, base_false}
use Rattle.tally.specs.Tally.{state_in}
use Rattle.moves.specs.Sound.{Sound}
use Rattle.moves.specs.Deciding.{Decidable, Decided}
use Rattle.engine.proofs.Begins.{ready_decided}
use Rattle.side.specs.Side.{Tallied, Siding, Begun}
use Rattle.side.proofs.Splitting.{code_open}
use Rattle.occurrences.specs.declared.Index.{Index}
use Rattle.tally.specs.declared.Tally.{Tally}
use Rattle.notes.specs.declared.Notes.{Notes}

-- with nothing listed a state is sound
pub tallied_sound : {ix : Index} {st : Tally} {wk : Notes} → Tallied ix st → wk.todo_end ≡ 0 → wk.blocks_end ≡ 0 → Sound ix st wk
tallied_sound t e r = record {
  index = t.index;
  exact = t.exact;
  linked = t.linked;
  classes = t.classes;
  todo_room = omega (arith, t.room);
  blocks_room = omega (arith, t.roots);
  todo_inside = λ i h. absurd (omega arith);
}

module _ {ix : Index} {st : Tally} {x : ℕ} (k : Siding ix st x) where
  abbrev s : State
  s = state_in st

  opened : 0 < var (literal_at x)
  opened = omega (arith, var_at x, k.opened)

  inside : var (literal_at x) ≤ max_variables
  inside = omega (arith, var_at x, k.below)

  root : s (x / 2) ≡ Pos (x / 2)
  root = code_open st (x / 2) (omega (arith, k.below)) k.root

  fixed : Fixed s (literal_at x)
  fixed = elim (ℕ_discrete (x % 2) 0) [
    | yes e ↦ rw (at_even x e) root
    | no e ↦ rw (at_odd x e) (ap opposite root)
  ]

  valid : Valid max_variables s (literal_at x) FALSE
  valid = record { fixed_x = fixed; fixed_t = base_false (well_based k.well); lower = opened; inside = inside }

  pub siding_decidable : (wk' : Notes) → wk'.todo_end ≡ 0 → wk'.blocks_end ≡ 0 → Decidable ix st wk' x
  siding_decidable wk' e r = record { sound = tallied_sound k.calm.tallied e r; opened = k.opened; below = k.below; root = k.root }

  pub siding_begun : (wk' : Notes) (st'' : Tally) (wk'' : Notes) → wk'.todo_end ≡ 0 → wk'.blocks_end ≡ 0 → (r : Bool) → Decided ix st wk' x st'' wk'' r → Begun ix st x st'' wk'' r
  siding_begun wk' st'' wk'' e r true d = d
  siding_begun wk' st'' wk'' e r false d =
      let c = k.calm in (
        d.0,
        ready_decided (tallied_sound c.tallied e r) c.counted r k.well c.distinct c.pairs k.opened d.0 d.1 (rw d.0 (assign_well k.well valid)),
      )
