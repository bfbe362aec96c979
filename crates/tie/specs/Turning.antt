-- The class of one open root goes over to a lower one.
use Rattle.std.specs.Prelude.{◌≡◌, List, ℕ, ◌+◌, ◌*◌, ◌/◌, ◌<◌, get_or, set, length}
use Rattle.literal.specs.Literal.{literal_at, max_variables, codes, variables}
use Rattle.theory.specs.State.{assign}
use Rattle.state.specs.State.{state_of}
use Rattle.tally.specs.Ring.{Classes}
use Rattle.tally.specs.Counts.{load, roots}
use Rattle.tally.specs.declared.Tally.{Tally}

-- x and t are codes of literals of two open roots, and t's is the lower
pub record Turnable (tally : Tally) (x t : ℕ) : Type 0 where
  pub classes : Classes tally.values tally.links
  pub long : length tally.values ≡ variables
  pub linked : length tally.links ≡ variables
  pub opened : 1 < t
  pub lower : t / 2 < x / 2
  pub below : x < codes
  pub root : get_or tally.values (x / 2) 0 ≡ 2 * (x / 2)
  pub root_t : get_or tally.values (t / 2) 0 ≡ 2 * (t / 2)

-- x stands for t, and its class follows
pub record Turned (tally : Tally) (x t : ℕ) (after : Tally) : Type 0 where
  pub state : state_of after.values ≡ assign (literal_at x) (literal_at t) (state_of tally.values)
  pub long : length after.values ≡ variables
  pub links : after.links ≡ tally.links
  pub counts : after.counts ≡ tally.counts

-- two links swapped
abbrev pub swapped : List ℕ → ℕ → ℕ → List ℕ
swapped link r q = set (set link r (get_or link q 0)) q (get_or link r 0)

-- and the two rings are one: what is open stays so, and one root fewer is
pub record Joined (tally : Tally) (x t : ℕ) (after : Tally) : Type 0 where
  pub state : state_of after.values ≡ assign (literal_at x) (literal_at t) (state_of tally.values)
  pub long : length after.values ≡ variables
  pub linked : length after.links ≡ variables
  pub links : after.links ≡ swapped tally.links (t / 2) (x / 2)
  pub counts : after.counts ≡ tally.counts
  pub classes : Classes after.values after.links
  pub loads : (w : ℕ → ℕ) (n : ℕ) → load w after.values n ≡ load w tally.values n
  pub fewer : roots after.values max_variables + 1 ≡ roots tally.values max_variables

abbrev pub with_swapped : ℕ → ℕ → Tally → Tally
with_swapped r q t = record { values = t.values; links = swapped t.links r q; counts = t.counts }
