-- Rules 4 and 5 for one variable in one clause of the index: what is asked of the steps, and what they leave.
use mathlib.Core.Path.{◌≡◌, refl, ap, sym, ◌∙◌}
use mathlib.Core.Bool.{Bool, true, false}
use mathlib.Core.List.{Memᴰ}
use Prim.Native.Nat.{ℕ, ◌+◌, ◌*◌, ◌/◌, ◌≤◌, ◌<◌}
use native.Mathlib.Omega.{arith}
use Rattle.general.specs.Booleans.{true_not_false}
use Rattle.literal.specs.declared.Literal.TheVariants.{Pos, Neg}
use Rattle.literal.specs.Literal.{FALSE, var, literal_at}
use Rattle.literal.proofs.Codes.{literal_at_code_of, var_at}
use Rattle.theory.specs.Formula.{Clause}
use Rattle.theory.specs.State.{State, assign, standing}
use Rattle.theory.proofs.Clauses.{occurs_mem, standing_mem}
use Rattle.theory.proofs.Counts.{mentions, Wide, mentions_occurs}
use Rattle.theory.proofs.Recounts.{mentions_gone}
use Rattle.theory.proofs.Falls.{Falls, still, falls_one}
use Rattle.occurrences.specs.Index.{clause_count, clause_of, formula_of}
use Rattle.occurrences.proofs.Formulas.{mem_formula}
use Rattle.tally.specs.Tally.{state_in, value_in, count_in}
use Rattle.moves.specs.Sound.{Sound}
use Rattle.moves.specs.Deciding.{Decidable, Decided, Cleared}
use Rattle.moves.proofs.Moves.{moved_refl}
use Rattle.moves.proofs.Dying.{dies_in, fallen_dies}
use Rattle.gather.specs.Gathering.{is_wide}
use Rattle.theory.proofs.States.{value_variable}
use Rattle.gather.proofs.Written.{stands_for, known, wide_in}
use Rattle.undouble.specs.Doubling.{stood, Doubling, Undoubled}
use Rattle.undouble.proofs.Doubles.{twice_false, opposites_fall, clearing_mentions, only_mentions}
use Rattle.occurrences.specs.declared.Index.{Index}
use Rattle.tally.specs.declared.Tally.{Tally}
use Rattle.notes.specs.declared.Notes.{Notes}

-- what stands in a clause is of a root
pub standing_root : {ix : Index} {st : Tally} {wk : Notes} → Sound ix st wk → (g : ℕ) → g < clause_count ix → (x : ℕ) → 0 < stood ix st g x → value_in st (x / 2) ≡ 2 * (x / 2)
standing_root {ix} {st} sound g h x o =
    let k = standing_mem (state_in st) (clause_of ix g) (literal_at x) (occurs_mem (standing (state_in st) (clause_of ix g)) (literal_at x) o) in
    let l = k.written in
    let b = known sound.index g h l k.member in
    let e : x / 2 ≡ value_in st (var l) / 2 =
    sym (var_at x) ∙ ap var (sym k.valued) ∙ value_variable (state_in st) l ∙ stands_for st.values (var l) b in
    rw e (sound.classes.rooted (var l) b)

module _ {ix : Index} {st : Tally} {wk : Notes} {g r : ℕ} (d : Doubling ix st wk g r) where
  abbrev here : State → Clause
  here s = standing s (clause_of ix g)

  member : Memᴰ (clause_of ix g) (formula_of ix)
  member = mem_formula ix g d.clause

  pos : literal_at (2 * r) ≡ Pos r
  pos = literal_at_code_of (Pos r)

  neg : literal_at (2 * r + 1) ≡ Neg r
  neg = literal_at_code_of (Neg r)

  by_signs : mentions r (here (state_in st)) ≡ stood ix st g (2 * r) + stood ix st g (2 * r + 1)
  by_signs = rw (pos, neg) (mentions_occurs (Pos r) (here (state_in st)))

  -- nothing to do: the clause is not wide, or r stands in it once at most
  pub undoubled_still : (Wide (here (state_in st)) → mentions r (here (state_in st)) ≤ 1) → Undoubled ix st wk g r st wk false
  undoubled_still h = record { fell = (still, moved_refl d.sound); once = λ e. h }

  pub undoubled_narrow : (count : ℕ) (n : Bool) → count ≡ count_in st g → n ≡ is_wide count → n ≡ false → Undoubled ix st wk g r st wk false
  undoubled_narrow count n e b z = undoubled_still (λ w.
      let i = wide_in d.sound.index g d.clause st d.sound.exact w in
      absurd (true_not_false (b ∙ ap is_wide e ∙ i.1) z))

  pub undoubled_once : stood ix st g (2 * r) + stood ix st g (2 * r + 1) ≤ 1 → Undoubled ix st wk g r st wk false
  undoubled_once h = undoubled_still (λ w. omega (arith, by_signs))

  -- rule 4
  module _ (x : ℕ) (of_r : x / 2 ≡ r) (twice : 1 < stood ix st g x) where
    pub undouble_decidable : Decidable ix st wk x
    undouble_decidable = record {
      sound = d.sound;
      opened = omega (arith, d.positive);
      below = omega (arith, d.inside);
      root = standing_root d.sound g d.clause x (omega arith);
    }

    opened : 0 < var (literal_at x)
    opened = omega (arith, var_at x, d.positive)

    path : Falls (formula_of ix) (state_in st) (assign (literal_at x) FALSE (state_in st))
    path = falls_one (twice_false (clause_of ix g) member (literal_at x) opened (omega arith))

    pub undoubled_decided : (st' : Tally) (wk' : Notes) (b : Bool) → Decided ix st wk x st' wk' b → Undoubled ix st wk g r st' wk' b
    undoubled_decided st' wk' true e = record { fell = fallen_dies path (dies_in e); once = λ q. absurd (true_not_false refl q) }
    undoubled_decided st' wk' false e = record {
      fell = (rw e.0 path, e.1);
      once = λ q w.
          let z : mentions r (here (assign (literal_at x) FALSE (state_in st))) ≡ 0 =
          rw (var_at x ∙ of_r) at (mentions_gone (state_in st) (literal_at x) FALSE opened (λ i. omega (arith, opened)) (clause_of ix g)) in
          rw e.0 (omega arith);
    }

  -- rule 5
  module _ (plus : 0 < stood ix st g (2 * r)) (minus : 0 < stood ix st g (2 * r + 1)) (both : stood ix st g (2 * r) + stood ix st g (2 * r + 1) ≡ 2) where
    here_plus : Memᴰ (Pos r) (here (state_in st))
    here_plus = occurs_mem (here (state_in st)) (Pos r) (rw pos at plus)

    here_minus : Memᴰ (Neg r) (here (state_in st))
    here_minus = occurs_mem (here (state_in st)) (Neg r) (rw neg at minus)

    pub undoubled_cleared : (st' : Tally) (wk' : Notes) (b : Bool) → Cleared ix st wk g r st' wk' b → Undoubled ix st wk g r st' wk' b
    undoubled_cleared st' wk' true e = record {
      fell = fallen_dies (opposites_fall (clause_of ix g) member (Pos r) d.positive here_plus here_minus e.1) (dies_in e.2);
      once = λ q. absurd (true_not_false refl q);
    }
    undoubled_cleared st' wk' false e = record {
      fell = (opposites_fall (clause_of ix g) member (Pos r) d.positive here_plus here_minus e.path, e.moved);
      once = λ q w. absurd (omega (
        arith,
        w.three,
        only_mentions (state_in st') (clause_of ix g) r e.only,
        clearing_mentions d.positive e.path (clause_of ix g),
        by_signs,
      ));
    }
