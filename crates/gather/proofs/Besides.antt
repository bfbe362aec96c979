-- What gathering asks and leaves, in terms of what holds between steps.
use mathlib.Core.Path.{◌≡◌, refl, ap}
use mathlib.Core.List.{List}
use Prim.Native.Nat.{ℕ, ◌*◌, ◌≤◌, ◌<◌}
use native.Mathlib.Omega.{arith}
use lib.ListN.{get_or}
use Rattle.literal.specs.Literal.{max_variables}
use Rattle.tally.specs.Tally.{value_in}
use Rattle.moves.specs.Sound.{Sound}
use Rattle.moves.specs.Moving.{Went}
use Rattle.gather.specs.Gathering.{AtRoot, Beside}
use Rattle.occurrences.specs.declared.Index.{Index}
use Rattle.tally.specs.declared.Tally.{Tally}
use Rattle.notes.specs.declared.Notes.{Notes}

module _ {ix : Index} {st : Tally} {wk : Notes} (s : Sound ix st wk) where
  pub sound_root : {r : ℕ} → 0 < r → r ≤ max_variables → value_in st r ≡ 2 * r → AtRoot ix st r
  sound_root o i e = record { index = s.index; exact = s.exact; linked = s.linked; classes = s.classes; opened = o; inside = i; root = e }

  module _ {wk' : Notes} (b : Beside wk wk') where
    pub beside_sound : Sound ix st wk'
    beside_sound = record {
      index = s.index;
      exact = s.exact;
      linked = s.linked;
      classes = s.classes;
      todo_room = rw b.todo_end s.todo_room;
      blocks_room = rw b.blocks_end s.blocks_room;
      todo_inside = rw (b.todo_end, b.todo) s.todo_inside;
    }

    -- no step was made
    pub beside_went : Went ix st wk st wk'
    beside_went = record {
      sound = beside_sound;
      noting = record {
        grows = omega (arith, b.todo_end);
        kept = λ i h. ap (λ (l : List ℕ). get_or l i 0) b.todo;
        few = λ g h u v. absurd (omega arith);
        won = λ g h u v. absurd (omega arith);
        paid = omega (arith, b.todo_end);
        never = λ g h u. u;
      };
      links = refl;
      blocks = b.blocks;
      blocks_end = b.blocks_end;
      fewer = omega arith;
    }
