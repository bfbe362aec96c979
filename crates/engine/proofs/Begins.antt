-- Where no rule fits the lists may be empty, and after a decision from there propagation is ready again.
use mathlib.Core.Path.{◌≡◌, refl}
use mathlib.Core.Logic.{inl, inr}
use Prim.Native.Nat.{ℕ, ◌≤◌, ◌<◌}
use native.Mathlib.Omega.{arith}
use Rattle.literal.specs.Literal.{FALSE, var, literal_at, max_variables}
use Rattle.literal.proofs.Codes.{code_open}
use Rattle.theory.specs.Formula.{Clause}
use Rattle.theory.specs.State.{standing, assign, WellFormed}
use Rattle.theory.proofs.States.{Refines, refines_assign}
use Rattle.theory.proofs.Counts.{open_count}
use Rattle.theory.proofs.Recounts.{opens_step}
use Rattle.theory.proofs.Paired.{Paired, paired_weaken, paired_decided}
use Rattle.theory.proofs.DistinctBut.{DistinctBut, distinct_decided}
use Rattle.theory.proofs.ByCount.{ByCount, all_true, two_open, three_open}
use Rattle.occurrences.specs.Index.{clause_count, clause_of, formula_of}
use Rattle.tally.specs.Tally.{state_in, count_in}
use Rattle.tally.proofs.Standing.{counted, wide_three, wide_low}
use Rattle.moves.specs.Sound.{Sound}
use Rattle.moves.specs.Moving.{Moved}
use Rattle.engine.specs.Short.{Unit, Resting, Short}
use Rattle.engine.specs.Ready.{Ready}
use Rattle.engine.proofs.Shorts.{short_kept}
use Rattle.occurrences.specs.declared.Index.{Index}
use Rattle.tally.specs.declared.Tally.{Tally}
use Rattle.notes.specs.declared.Notes.{Notes}

module _ {ix : Index} {st : Tally} {wk : Notes} (sound : Sound ix st wk) (rests : (g : ℕ) → g < clause_count ix → ByCount (standing (state_in st) (clause_of ix g))) where
  module _ (g : ℕ) (i : g < clause_count ix) where
    never : ByCount (standing (state_in st) (clause_of ix g)) → 0 < count_in st g
    never (all_true z o) = omega (arith, counted sound.index sound.exact g i)
    never (two_open y z o m n) = omega (arith, counted sound.index sound.exact g i)
    never (three_open w k) = omega (arith, wide_three sound.index sound.exact g i w)

    no_unit : ByCount (standing (state_in st) (clause_of ix g)) → ¬ Unit st g
    no_unit (all_true z o) (inl e) = omega (arith, counted sound.index sound.exact g i)
    no_unit (all_true z o) (inr l) = omega (arith, counted sound.index sound.exact g i)
    no_unit (two_open y z o m n) (inl e) = omega (arith, counted sound.index sound.exact g i)
    no_unit (two_open y z o m n) (inr l) = omega (arith, counted sound.index sound.exact g i)
    no_unit (three_open w k) (inl e) = omega (arith, wide_three sound.index sound.exact g i w)
    no_unit (three_open w k) (inr l) = omega (arith, wide_low sound.index sound.exact g i w)

    two_rests : count_in st g ≡ 2 → ByCount (standing (state_in st) (clause_of ix g)) → Resting (standing (state_in st) (clause_of ix g))
    two_rests e (all_true z o) = absurd (omega (arith, counted sound.index sound.exact g i))
    two_rests e (two_open y z o m n) = (y, m, n)
    two_rests e (three_open w k) = absurd (omega (arith, wide_three sound.index sound.exact g i w))

  -- no clause needs a note
  pub short_rests : {at next : ℕ} → Short ix st wk at next
  short_rests = record {
    units = record { never = λ g i. never g i (rests g i); noted = λ g i k. absurd (no_unit g i (rests g i) k) };
    twos = λ g i e. inl (two_rests g i e (rests g i));
  }

  -- a side of a split: an open literal was decided
  pub ready_decided : wk.blocks_end ≡ 0 → WellFormed max_variables (state_in st) → DistinctBut (λ p. ⊥) (formula_of ix) (state_in st) → Paired (λ g h. ⊥) (formula_of ix) (state_in st) →
      {st' : Tally} {wk' : Notes} {x : ℕ} → 1 < x → state_in st' ≡ assign (literal_at x) FALSE (state_in st) → Moved ix st wk st' wk' → WellFormed max_variables (state_in st') → Ready ix st' wk' 0 0
  ready_decided none well distinct pairs {st'} {wk'} {x} o is m well' = record {
    sound = m.went.sound;
    well = well';
    short = short_kept sound m.went.sound m.went.noting fewer (omega arith) refines (omega arith) short_rests;
    distinct = rw is (distinct_decided distinct (literal_at x) FALSE opened refl);
    blocks = record { at = λ i h. absurd (omega (arith, none, m.went.blocks_end)) };
    pairs = rw is (paired_decided (literal_at x) FALSE opened refl (paired_weaken (λ g h i. absurd i) pairs));
  }
    where
      opened : 0 < var (literal_at x)
      opened = (code_open x).0 o

      fewer : (c : Clause) → open_count (standing (state_in st') c) ≤ open_count (standing (state_in st) c)
      fewer c = rw is (opens_step (state_in st) (literal_at x) FALSE opened c)

      refines : Refines (state_in st) (state_in st')
      refines = rw is (refines_assign (literal_at x) FALSE well)
