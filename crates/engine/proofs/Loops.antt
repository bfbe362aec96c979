-- The loops: rules 2 and 3 over the noted clauses, and all rules; what holds at their start, after a turn and at their end.
use mathlib.Core.Path.{◌≡◌, ◌∙◌}
use mathlib.Core.Logic.{inl, inr, ⊎_elim}
use Prim.Native.Nat.{ℕ, ◌+◌, ◌-◌, ◌≤◌, ◌<◌}
use native.Mathlib.Decide.{dec_lt, ℕ_discrete as dec_eq}
use native.Mathlib.Omega.{arith}
use lib.ListN.{get_or}
use Rattle.literal.specs.Literal.{max_variables}
use Rattle.theory.specs.State.{standing, WellFormed}
use Rattle.theory.proofs.Propagation.{Steps}
use Rattle.theory.proofs.Paired.{paired_weaken}
use Rattle.theory.proofs.DistinctBut.{repeats_none}
use Rattle.theory.proofs.ByCount.{ByCount, all_true, two_open, three_open}
use Rattle.theory.proofs.Falls.{Falls, still, falls_trans, falls_well, falls_steps, steps_trans}
use Rattle.occurrences.specs.Index.{clause_count, clause_of, formula_of}
use Rattle.occurrences.proofs.Formulas.{mem_formula}
use Rattle.tally.specs.Tally.{state_in, count_in}
use Rattle.tally.specs.Counts.{one_true, room}
use Rattle.tally.proofs.Standing.{count_opens, count_none_true, count_one_true, count_rest, count_wide}
use Rattle.notes.specs.Notes.{Noted}
use Rattle.moves.specs.Moving.{Moved}
use Rattle.moves.proofs.Moves.{moved_refl, moved_trans}
use Rattle.engine.specs.Short.{Unit, Units}
use Rattle.engine.specs.Ready.{Ready, Rested}
use Rattle.engine.specs.Turning.{Unitable, Turned, weight}
use Rattle.engine.proofs.Along.{within_indexed, opens_along}
use Rattle.engine.proofs.Shorts.{units_kept, units_past}
use Rattle.engine.proofs.Turns.{ready_units}
use Rattle.occurrences.specs.declared.Index.{Index}
use Rattle.tally.specs.declared.Tally.{Tally}
use Rattle.notes.specs.declared.Notes.{Notes}

-- rules 2 and 3 --------------------------------------------------------------------------------------------------------

-- the noted clauses before index `at` were looked at
pub record Looking (ix : Index) (st₀ : Tally) (wk₀ : Notes) (st : Tally) (wk : Notes) (at : ℕ) : Type 0 where
  pub falls : Falls (formula_of ix) (state_in st₀) (state_in st)
  pub moved : Moved ix st₀ wk₀ st wk
  pub well : WellFormed max_variables (state_in st)
  pub units : Units ix st wk at
  pub reached : at ≤ wk.todo_end

-- notes that are left, and those that may still come
abbrev pub left : Index → Tally → Notes → ℕ → ℕ
left ix st wk at = wk.todo_end + room ix st.values - at

pub looking_begins : {ix : Index} {st : Tally} {wk : Notes} {at : ℕ} → Unitable ix st wk at → Looking ix st wk st wk at
looking_begins u = record { falls = still; moved = moved_refl u.sound; well = u.well; units = u.units; reached = u.reached }

pub looking_goes : {ix : Index} {st₀ : Tally} {wk₀ : Notes} {st : Tally} {wk : Notes} {at : ℕ} → Looking ix st₀ wk₀ st wk at → at < wk.todo_end → {st' : Tally} {wk' : Notes} →
    Falls (formula_of ix) (state_in st) (state_in st') → Moved ix st wk st' wk' → (¬ Unit st' (get_or wk.todo at 0)) → Looking ix st₀ wk₀ st' wk' (at + 1)
looking_goes {wk = wk} {at} q before {st'} {wk'} f m n =
    let within = within_indexed q.moved.went.sound.index in
    let same : get_or wk'.todo at 0 ≡ get_or wk.todo at 0 = m.went.noting.kept at before in
    record {
      falls = falls_trans q.falls f;
      moved = moved_trans q.moved m;
      well = falls_well within q.well f;
      units = units_past (units_kept q.moved.went.sound m.went.sound m.went.noting (opens_along (falls_steps f).1) q.reached q.units) (rw same n);
      reached = omega (arith, m.went.noting.grows);
    }

pub looking_less : {ix : Index} {st : Tally} {wk : Notes} {at : ℕ} → at < wk.todo_end → {st' : Tally} {wk' : Notes} → Moved ix st wk st' wk' →
    left ix st' wk' (at + 1) < left ix st wk at
looking_less before m = omega (arith, m.went.noting.paid, m.went.noting.grows)

pub looking_ends : {ix : Index} {st₀ : Tally} {wk₀ : Notes} {st : Tally} {wk : Notes} {at : ℕ} → Looking ix st₀ wk₀ st wk at → wk.todo_end ≤ at → Units ix st wk wk.todo_end
looking_ends {ix} {st} {wk} {at} q h = let e : at ≡ wk.todo_end = omega (arith, q.reached) in rw e at q.units

-- all rules ------------------------------------------------------------------------------------------------------------

pub record Going (ix : Index) (st₀ st : Tally) (wk : Notes) (twos : ℕ) : Type 0 where
  pub steps : (k : ℕ) × Steps (formula_of ix) (state_in st₀) (state_in st) k
  pub ready : Ready ix st wk wk.todo_end twos
  pub reached : twos ≤ wk.todo_end

pub unitable : {ix : Index} {st : Tally} {wk : Notes} {at next : ℕ} → Ready ix st wk at next → at ≤ wk.todo_end → Unitable ix st wk at
unitable r h = record { sound = r.sound; well = r.well; units = r.short.units; reached = h }

pub rested_fallen : {ix : Index} {st₀ st st' : Tally} {wk' : Notes} → Falls (formula_of ix) (state_in st₀) (state_in st) → Rested ix st st' wk' → Rested ix st₀ st' wk'
rested_fallen f r = record {
  steps = (_, steps_trans (falls_steps f).1 r.steps.1);
  sound = r.sound;
  counted = r.counted;
  distinct = r.distinct;
  pairs = r.pairs;
}

-- rules 2 and 3 were tried once
pub going_begins : {ix : Index} {st₀ : Tally} {wk₀ : Notes} {st : Tally} {wk : Notes} → Ready ix st₀ wk₀ 0 0 →
    Falls (formula_of ix) (state_in st₀) (state_in st) × Moved ix st₀ wk₀ st wk × Units ix st wk wk.todo_end → Going ix st₀ st wk 0
going_begins r (f, m, u) = record { steps = falls_steps f; ready = ready_units r (omega arith) (omega arith) f m u; reached = omega arith }

module _ {ix : Index} {st₀ st : Tally} {wk : Notes} {twos : ℕ} (q : Going ix st₀ st wk twos) where
  pub going_goes : {st' : Tally} {wk' : Notes} {next : ℕ} → Turned ix st wk twos st' wk' next → {st'' : Tally} {wk'' : Notes} →
      Falls (formula_of ix) (state_in st') (state_in st'') × Moved ix st' wk' st'' wk'' × Units ix st'' wk'' wk''.todo_end → Going ix st₀ st'' wk'' next
  going_goes t (f, m, u) = record {
    steps = (_, steps_trans q.steps.1 (steps_trans t.steps.1 (falls_steps f).1));
    ready = ready_units t.ready t.grows (omega (arith, t.reached, t.grows)) f m u;
    reached = omega (arith, t.reached, t.grows, m.went.noting.grows);
  }

  pub going_less : {st' : Tally} {wk' : Notes} {next : ℕ} → Turned ix st wk twos st' wk' next → {st'' : Tally} {wk'' : Notes} →
      Falls (formula_of ix) (state_in st') (state_in st'') × Moved ix st' wk' st'' wk'' × Units ix st'' wk'' wk''.todo_end → weight ix st'' wk'' - next < weight ix st wk - twos
  going_less t (f, m, u) = omega (arith, t.less, t.reached, t.grows, q.reached, m.went.noting.grows, m.went.noting.paid, m.went.fewer, m.went.blocks_end)

  -- nothing is listed: no rule fits
  pub going_ends : wk.todo_end ≤ twos → wk.blocks_end ≡ 0 → Rested ix st₀ st wk
  going_ends h z = record {
    steps = q.steps;
    sound = q.ready.sound;
    counted = counted;
    distinct = q.ready.distinct;
    pairs = paired_weaken (λ g h l. omega (arith, l.1)) q.ready.pairs;
  }
    where
      none : (g : ℕ) → Noted wk wk.todo_end g → ⊥
      none g n = omega (arith, n.1, n.2)

      counted : (g : ℕ) → g < clause_count ix → ByCount (standing (state_in st) (clause_of ix g))
      counted g i =
          let index = q.ready.sound.index in
          let exact = q.ready.sound.exact in
          let o = q.ready.short.units.never g i in
          let no_unit : ¬ Unit st g = λ k. none g (q.ready.short.units.noted g i k) in
          elim (dec_lt (count_in st g) one_true) [
            | yes low ↦ elim (dec_eq (count_in st g) 2) [
              | yes e ↦ ⊎_elim
                  (λ r. two_open r.0 (count_none_true index exact g i low) (count_opens index exact g i low ∙ e) r.1 r.2)
                  (λ n. absurd (omega (arith, n.1, n.2)))
                  (q.ready.short.twos g i e)
              | no e ↦
                  let one : count_in st g ≡ 1 → ⊥ = λ k. no_unit (inl k) in
                  let w = count_wide index exact g i (elim (dec_eq (count_in st g) 1) [ yes k ↦ absurd (one k) | no k ↦ omega arith ]) low in
                  three_open w (repeats_none (q.ready.distinct.by (clause_of ix g) (mem_formula ix g i)) w)
            ]
            | no high ↦ all_true (count_one_true index exact g i (omega arith))
                (elim (dec_lt one_true (count_in st g)) [ yes k ↦ absurd (no_unit (inr k)) | no k ↦ omega (arith, count_rest index exact g i (omega arith)) ])
          ]
