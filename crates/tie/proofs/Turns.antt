-- The walk round a class that goes over to another root: what holds at the loop's head, at the start, after a turn and at the end.
use mathlib.Core.Path.{◌≡◌, refl, ap, ◌∙◌}
use Prim.Native.Nat.{ℕ, ◌/◌, ◌≤◌, ◌<◌}
use native.Mathlib.Omega.{arith}
use lib.ListN.{get_or, length-set}
use Rattle.literal.specs.Literal.{code_of, literal_at, max_variables, variables}
use Rattle.literal.proofs.Codes.{var_at}
use Rattle.theory.specs.State.{replace}
use Rattle.tally.specs.Tally.{with_value}
use Rattle.tally.proofs.Rings.{size, Round, round_begins, member_of, member_inside, falls, round_ends, round_goes}
use Rattle.tie.specs.Turning.{Turnable, Turned}
use Rattle.tally.specs.declared.Tally.{Tally}

pub record Turning (start : Tally) (x t : ℕ) (tally : Tally) (p : ℕ) : Type 0 where
  pub round : Round start.links start.values x (literal_at t) tally.values p
  pub links : tally.links ≡ start.links
  pub counts : tally.counts ≡ start.counts
  pub member : get_or tally.values p 0 / 2 ≡ x / 2
  pub inside : p ≤ max_variables

module _ {start : Tally} {x t : ℕ} (d : Turnable start x t) where
  opened : 1 < x
  opened = omega (arith, d.lower)

  at_round : {tally : Tally} {p : ℕ} → Round start.links start.values x (literal_at t) tally.values p → tally.links ≡ start.links → tally.counts ≡ start.counts → Turning start x t tally p
  at_round o l c = record { round = o; links = l; counts = c; member = member_of opened o; inside = member_inside opened o }

  pub turning_begins : Turning start x t start (x / 2)
  turning_begins = at_round (round_begins (d.classes.rings (x / 2) (omega (arith, d.lower)) d.root) d.long) refl refl

  module _ {tally : Tally} {p : ℕ} (o : Turning start x t tally p) where
    module _ {v to : ℕ} (read : v ≡ get_or tally.values p 0) (turns : to ≡ code_of (replace (literal_at x) (literal_at t) (literal_at v))) {u : Tally} (set_to : u ≡ with_value p to tally) where
      is : to ≡ code_of (replace (literal_at x) (literal_at t) (literal_at (get_or tally.values p 0)))
      is = turns ∙ ap (λ (k : ℕ). code_of (replace (literal_at x) (literal_at t) (literal_at k))) read

      apart : (var_t : ℕ) → var_t ≡ t / 2 → var_t ≡ x / 2 → ⊥
      apart k e h = omega (arith, d.lower)

      pub turning_falls : size (x / 2) u.values variables < size (x / 2) tally.values variables
      turning_falls = rw set_to (falls opened o.round (apart _ (var_at t)) to is)

      module _ {n : ℕ} (next : n ≡ get_or u.links p 0) where
        next_link : n ≡ get_or start.links p 0
        next_link = next ∙ ap (λ (k : Tally). get_or k.links p 0) set_to ∙ rw o.links

        pub turning_ends : n ≡ x / 2 → Turned start x t u
        turning_ends back = rw set_to (record {
          state = round_ends opened o.round (apart _ (var_at t)) to is n next_link d.below back;
          long = length-set tally.values p to ∙ o.round.long;
          links = o.links;
          counts = o.counts;
        })

        pub turning_goes : (n ≡ x / 2 → ⊥) → Turning start x t u n
        turning_goes on = rw set_to (at_round (round_goes opened o.round (apart _ (var_at t)) to is n next_link on) o.links o.counts)
