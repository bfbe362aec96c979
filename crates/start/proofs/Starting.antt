-- From the first counts by rules 4 and 5 to a state that propagation starts from.
use mathlib.Core.Path.{refl, sym, subst}
use mathlib.Core.Logic.{inl, inr, ⊎_elim}
use mathlib.Core.List.{List, Memᴰ}
use Prim.Native.Nat.{ℕ, ◌+◌, ◌≤◌}
use native.Mathlib.Omega.{arith}
use Rattle.literal.specs.declared.Literal.TheVariants.{Pos, Neg}
use Rattle.literal.specs.Literal.{max_variables}
use Rattle.theory.specs.Formula.{Clause, Within}
use Rattle.theory.specs.State.{initial, WellFormed}
use Rattle.theory.proofs.Propagation.{initial_well, steps_refine}
use Rattle.theory.proofs.Paired.{Paired, Signs, paired_by, paired_kept, paired_signs}
use Rattle.theory.proofs.Falls.{still, falls_steps, falls_opens, falls_adds}
use Rattle.occurrences.specs.Index.{formula_of}
use Rattle.tally.specs.Tally.{state_in}
use Rattle.tally.specs.Block.{by_signs}
use Rattle.notes.specs.declared.Block.{Block}
use Rattle.notes.specs.Notes.{Noted}
use Rattle.moves.specs.Sound.{Sound}
use Rattle.moves.specs.Stepping.{Died}
use Rattle.moves.specs.Listing.{ListsIn, Listed, SpansIn, Blocks}
use Rattle.engine.specs.Short.{Short}
use Rattle.engine.proofs.Along.{within_indexed}
use Rattle.engine.proofs.Shorts.{short_kept}
use Rattle.start.specs.Counting.{Fresh}
use Rattle.start.specs.Undoubling.{Undoubling, UndoubledBelow}
use Rattle.start.specs.Signs.{Listing}
use Rattle.start.specs.Starting.{Started}
use Rattle.start.proofs.Rooms.{roots_few}
use Rattle.start.proofs.Undoubling.{undoubled_well, undoubled_all}
use Rattle.start.proofs.Initial.{standing_initial}
use Rattle.start.proofs.Signs.{signs_both}
use Rattle.occurrences.specs.declared.Index.{Index}
use Rattle.tally.specs.declared.Tally.{Tally}
use Rattle.notes.specs.declared.Notes.{Notes}

module _ {ix : Index} {st : Tally} {wk : Notes} (fresh : Fresh ix st wk) where
  pub fresh_well : WellFormed max_variables (state_in st)
  fresh_well = rw fresh.initially (initial_well max_variables)

  pub fresh_undoubling : Undoubling ix st wk
  fresh_undoubling = record { sound = fresh.sound; path = rw fresh.initially still }

  pub fresh_died : Died (formula_of ix) (state_in st) → Died (formula_of ix) initial
  fresh_died d = rw fresh.initially at d

  module _ {st' : Tally} {wk' wk'' : Notes} (b : UndoubledBelow ix st wk st' wk' (max_variables + 1)) (l : Listing ix wk' wk'' wk''.blocks_end (max_variables + 1)) where
    within : Within max_variables (formula_of ix)
    within = within_indexed fresh.sound.index

    -- notes are read the same once blocks are listed
    noted_listed : {g : ℕ} → Noted wk' 0 g → Noted wk'' 0 g
    noted_listed n = (n.0, n.1, omega (arith, n.2, l.todo_end), rw l.todo n.3)

    short : Short ix st' wk'' 0 0
    short =
        let s : Short ix st' wk' 0 0 = short_kept fresh.sound b.went.sound b.went.noting (falls_opens b.path) (omega arith)
        (steps_refine within (falls_steps b.path).1 fresh_well) (omega arith) fresh.short in
        record {
          units = record { never = s.units.never; noted = λ g h u. noted_listed (s.units.noted g h u) };
          twos = λ g h e. ⊎_elim inl (λ n. inr (noted_listed n)) (s.twos g h e);
        }

    sound : Sound ix st' wk''
    sound =
        let s = b.went.sound in
        record {
          index = s.index;
          exact = s.exact;
          linked = s.linked;
          classes = s.classes;
          todo_room = omega (arith, s.todo_room, l.todo_end);
          blocks_room = omega (arith, l.below.few, roots_few st'.values max_variables);
          todo_inside = λ i h. rw l.todo (s.todo_inside i (omega (arith, l.todo_end)));
        }

    blocks : Blocks st' wk''
    blocks = record { at = λ i h. let k = l.below.inside i h in subst (SpansIn st') (sym k.2) (inl (refl, omega (arith, k.1))) }

    listed : (g h : Clause) → Memᴰ g (formula_of ix) → Memᴰ h (formula_of ix) → Signs initial g h → Listed st' wk'' g h
    listed g h mg mh (p, o, ig, ih) =
        let plus = standing_initial g (Pos p) ig in
        let minus = standing_initial h (Neg p) ih in
        let low : p ≤ max_variables = within.high g (Pos p) mg plus in
        let k = l.below.listed p o (omega (arith, low)) (signs_both fresh.sound.index mg mh p low plus minus) in
        (k.0, k.1, subst (λ (b : Block). ListsIn st' b g h) (sym k.2) (by_signs refl plus minus))

    pairs : Paired (Listed st' wk'') (formula_of ix) (state_in st')
    pairs = paired_by (λ g h mg mh m. listed g h mg mh) (paired_kept (falls_adds (rw fresh.initially at b.path)) (paired_signs (formula_of ix) initial))

    pub started : Started ix st' wk''
    started = record {
      steps = rw fresh.initially at (falls_steps b.path);
      ready = record {
        sound = sound;
        well = undoubled_well fresh_undoubling b;
        short = short;
        distinct = undoubled_all within (undoubled_well fresh_undoubling b) b.distinct;
        blocks = blocks;
        pairs = pairs;
      };
    }
