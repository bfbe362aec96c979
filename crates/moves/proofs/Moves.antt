-- Steps go together: nothing is noted by no step, and two steps note what each does.
use mathlib.Core.Path.{refl, ◌∙◌}
use Prim.Native.Nat.{ℕ}
use native.Mathlib.Decide.{dec_lt}
use native.Mathlib.Omega.{arith}
use Rattle.tally.specs.Tally.{count_in}
use Rattle.tally.specs.Counts.{one_true}
use Rattle.notes.specs.Notes.{Noted}
use Rattle.moves.specs.Sound.{Sound}
use Rattle.moves.specs.Moving.{Noting, Went, Moved}
use Rattle.occurrences.specs.declared.Index.{Index}
use Rattle.tally.specs.declared.Tally.{Tally}
use Rattle.notes.specs.declared.Notes.{Notes}

-- no step
module _ {ix : Index} {st : Tally} {wk : Notes} where
  pub noting_refl : Noting ix st wk st wk
  noting_refl = record {
    grows = omega arith;
    kept = λ i h. refl;
    few = λ g h a b. absurd (omega arith);
    paid = omega arith;
    never = λ g h o. o;
    won = λ g h a b. absurd (omega arith);
  }

  pub went_refl : Sound ix st wk → Went ix st wk st wk
  went_refl s = record { sound = s; noting = noting_refl; fewer = omega arith; links = refl; blocks = refl; blocks_end = refl }

  pub moved_refl : Sound ix st wk → Moved ix st wk st wk
  moved_refl s = record { went = went_refl s; gathered = refl }

-- two
module _ {ix : Index} {st : Tally} {wk : Notes} {st' : Tally} {wk' : Notes} {st'' : Tally} {wk'' : Notes} where
  module _ (a : Noting ix st wk st' wk') (b : Noting ix st' wk' st'' wk'') where
    early : (g : ℕ) → Noted wk' wk.todo_end g → Noted wk'' wk.todo_end g
    early g n = (n.0, n.1, omega (arith, n.2, b.grows), b.kept n.0 n.2 ∙ n.3)

    late : (g : ℕ) → Noted wk'' wk'.todo_end g → Noted wk'' wk.todo_end g
    late g n = (n.0, omega (arith, n.1, a.grows), n.2, n.3)

    pub noting_trans : Noting ix st wk st'' wk''
    noting_trans = record {
      grows = omega (arith, a.grows, b.grows);
      kept = λ i h. b.kept i (omega (arith, a.grows)) ∙ a.kept i h;
      few = λ g h x y. elim (dec_lt (count_in st'' g) (count_in st' g)) [
        | yes p ↦ late g (b.few g h x p)
        | no p ↦ early g (a.few g h (omega arith) (omega arith))
      ];
      paid = omega (arith, a.paid, b.paid);
      never = λ g h o. b.never g h (a.never g h o);
      won = λ g h x y. elim (dec_lt (count_in st' g) one_true) [
        | yes p ↦ late g (b.won g h p y)
        | no p ↦ early g (a.won g h x (omega arith))
      ];
    }

  pub went_trans : Went ix st wk st' wk' → Went ix st' wk' st'' wk'' → Went ix st wk st'' wk''
  went_trans a b = record {
    sound = b.sound;
    noting = noting_trans a.noting b.noting;
    fewer = omega (arith, a.fewer, b.fewer);
    links = b.links ∙ a.links;
    blocks = b.blocks ∙ a.blocks;
    blocks_end = b.blocks_end ∙ a.blocks_end;
  }

  pub moved_trans : Moved ix st wk st' wk' → Moved ix st' wk' st'' wk'' → Moved ix st wk st'' wk''
  moved_trans a b = record { went = went_trans a.went b.went; gathered = b.gathered ∙ a.gathered }
