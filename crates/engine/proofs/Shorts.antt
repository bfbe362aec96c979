-- The noted clauses along steps: a clause that rule 2, 3 or 6 may fit now did before, or was noted meanwhile.
use mathlib.Core.Path.{◌≡◌, ap, sym, ◌∙◌}
use mathlib.Core.Logic.{◌⊎◌, inl, inr, ⊎_elim}
use Prim.Native.Nat.{ℕ, ◌+◌, ◌≤◌, ◌<◌}
use native.Mathlib.Decide.{dec_lt, ℕ_discrete as dec_eq}
use native.Mathlib.Omega.{arith}
use lib.ListN.{get_or}
use Rattle.theory.specs.Formula.{Clause}
use Rattle.theory.specs.State.{standing}
use Rattle.theory.proofs.States.{Refines}
use Rattle.theory.proofs.Counts.{open_count}
use Rattle.occurrences.specs.Index.{clause_count, clause_of}
use Rattle.tally.specs.Tally.{state_in, count_in}
use Rattle.tally.specs.Counts.{one_true}
use Rattle.tally.proofs.Standing.{count_opens, count_none_true, count_rest}
use Rattle.notes.specs.Notes.{Noted}
use Rattle.moves.specs.Sound.{Sound}
use Rattle.moves.specs.Moving.{Noting}
use Rattle.engine.specs.Short.{Unit, Units, Resting, Short}
use Rattle.engine.proofs.Along.{resting_kept}
use Rattle.occurrences.specs.declared.Index.{Index}
use Rattle.tally.specs.declared.Tally.{Tally}
use Rattle.notes.specs.declared.Notes.{Notes}

-- a cursor may go back
pub noted_back : (w : Notes) {a b g : ℕ} → a ≤ b → Noted w b g → Noted w a g
noted_back w h n = (n.0, omega (arith, n.1), n.2, n.3)

-- and past a clause that is not the one
pub noted_past : (w : Notes) {a g : ℕ} → Noted w a g → (get_or w.todo a 0 ≡ g → ⊥) → Noted w (a + 1) g
noted_past w {a} {g} n h = elim (dec_eq n.0 a) [
  | yes e ↦ absurd (h (ap (λ (i : ℕ). get_or w.todo i 0) (sym e) ∙ n.3))
  | no e ↦ (n.0, omega (arith, n.1), n.2, n.3)
]

-- the cursors pass a clause that they need not find --------------------------------------------------------------------

module _ {ix : Index} {st : Tally} {wk : Notes} {at : ℕ} where
  pub units_past : Units ix st wk at → (¬ Unit st (get_or wk.todo at 0)) → Units ix st wk (at + 1)
  units_past u h = record {
    never = u.never;
    noted = λ g i k. noted_past wk (u.noted g i k) (λ e. h (rw e k));
  }

  pub short_past : {next : ℕ} → Short ix st wk at next →
      (let g = get_or wk.todo next 0 in count_in st g ≡ 2 → Resting (standing (state_in st) (clause_of ix g))) → Short ix st wk at (next + 1)
  short_past {next} s h = record {
    units = s.units;
    twos = λ g i k. ⊎_elim inl
        (λ n. elim (dec_eq (get_or wk.todo next 0) g) [
          | yes e ↦ inl (rw e at h k)
          | no e ↦ inr (noted_past wk n e)
        ]) (s.twos g i k);
  }

-- steps that open nothing --------------------------------------------------------------------------------------------

module _ {ix : Index} {st : Tally} {wk : Notes} {st' : Tally} {wk' : Notes} (sound : Sound ix st wk) (sound' : Sound ix st' wk') (noting : Noting ix st wk st' wk')
    (fewer : (c : Clause) → open_count (standing (state_in st') c) ≤ open_count (standing (state_in st) c)) where
  pub noted_kept : {a g : ℕ} → Noted wk a g → Noted wk' a g
  noted_kept n = (n.0, n.1, omega (arith, n.2, noting.grows), noting.kept n.0 n.2 ∙ n.3)

  was_unit : (g : ℕ) → g < clause_count ix → 0 < count_in st g → Unit st' g → Unit st g ⊎ Noted wk' wk.todo_end g
  was_unit g i o (inl e) = elim (dec_lt 1 (count_in st g)) [
    | yes h ↦ inr (noting.few g i (omega arith) (omega arith))
    | no h ↦ inl (inl (omega arith))
  ]
  was_unit g i o (inr l) = elim (dec_lt (count_in st g) one_true) [
    | yes h ↦ inr (noting.won g i h (omega arith))
    | no h ↦
        let a = count_rest sound.index sound.exact g i (omega arith) in
        let b = count_rest sound.index sound'.exact g i (omega arith) in
        inl (inr (omega (arith, fewer (clause_of ix g))))
  ]

  was_two : (g : ℕ) → g < clause_count ix → count_in st' g ≡ 2 → (count_in st g ≡ 2) ⊎ Noted wk' wk.todo_end g
  was_two g i e = elim (dec_lt 2 (count_in st g)) [
    | yes h ↦ inr (noting.few g i (omega arith) (omega arith))
    | no h ↦
        let a = count_opens sound.index sound.exact g i (omega arith) in
        let b = count_opens sound.index sound'.exact g i (omega arith) in
        inl (omega (arith, fewer (clause_of ix g)))
  ]

  module _ {at : ℕ} (early : at ≤ wk.todo_end) where
    pub units_kept : Units ix st wk at → Units ix st' wk' at
    units_kept u = record {
      never = λ g i. noting.never g i (u.never g i);
      noted = λ g i k. ⊎_elim (λ b. noted_kept (u.noted g i b)) (noted_back wk' early) (was_unit g i (u.never g i) k);
    }

    pub short_kept : Refines (state_in st) (state_in st') → {next : ℕ} → next ≤ wk.todo_end → Short ix st wk at next → Short ix st' wk' at next
    short_kept r before s = record {
      units = units_kept s.units;
      twos = λ g i e. ⊎_elim
          (λ b. ⊎_elim (λ q. inl (resting_kept r (clause_of ix g) (count_none_true sound.index sound'.exact g i (omega arith)) q)) (λ n. inr (noted_kept n)) (s.twos g i b))
          (λ n. inr (noted_back wk' before n))
          (was_two g i e);
    }
