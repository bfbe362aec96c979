-- Rules 2 and 3 in one clause: what becomes false is asked, and after it nothing is open there.
use mathlib.Core.Path.{◌≡◌, refl, ap, sym, ◌∙◌}
use mathlib.Core.Bool.{Bool, true, false}
use mathlib.Core.Logic.{inl, inr, ⊎_elim}
use mathlib.Core.List.{Memᴰ}
use Prim.Native.Nat.{ℕ, ◌/◌, ◌≤◌, ◌<◌}
use native.Mathlib.Decide.{dec_lt}
use native.Mathlib.Omega.{arith}
use borrow.Author.Tests.{ltb-true}
use Rattle.general.specs.Counting.{mem_count}
use Rattle.literal.specs.Literal.{TRUE, FALSE, var, opposite, is_open, literal_at}
use Rattle.literal.proofs.Codes.{var_at}
use Rattle.theory.specs.State.{value, standing}
use Rattle.theory.proofs.Literals.{var_opposite}
use Rattle.theory.proofs.Clauses.{standing_mem, occurs_mem, mem_occurs}
use Rattle.theory.proofs.Asks.{by_one, standing_no_false}
use Rattle.theory.proofs.Counts.{open_count, mentions, mentions_occurs}
use Rattle.theory.proofs.Recounts.{opens_decided}
use Rattle.theory.proofs.ByCount.{asks_only}
use Rattle.theory.proofs.Falls.{AsksFalse, still, falls_one, asks_true}
use Rattle.occurrences.specs.Index.{clause_count, clause_of, formula_of}
use Rattle.occurrences.proofs.Formulas.{mem_formula}
use Rattle.tally.specs.Tally.{state_in, count_in}
use Rattle.tally.specs.Counts.{one_true}
use Rattle.tally.proofs.Standing.{count_opens, count_none_true, count_one_true, count_rest}
use Rattle.moves.specs.Sound.{Sound}
use Rattle.moves.specs.Deciding.{Decidable, Decided, Cleared}
use Rattle.moves.proofs.Moves.{moved_refl}
use Rattle.engine.specs.Short.{Unit}
use Rattle.engine.specs.Reading.{OpenEntry}
use Rattle.engine.specs.Turning.{UnitOf}
use Rattle.moves.proofs.Dying.{dies_in, fallen_dies}
use Rattle.engine.proofs.Along.{clearing_falls}
use Rattle.occurrences.specs.declared.Index.{Index}
use Rattle.tally.specs.declared.Tally.{Tally}
use Rattle.notes.specs.declared.Notes.{Notes}

module _ {ix : Index} {st : Tally} {wk : Notes} (sound : Sound ix st wk) (g : ℕ) (inside : g < clause_count ix) where
  -- with nothing open neither rule fits
  spent : open_count (standing (state_in st) (clause_of ix g)) ≡ 0 → ¬ Unit st g
  spent z (inl e) = omega (arith, count_opens sound.index sound.exact g inside (omega arith))
  spent z (inr l) = omega (arith, count_rest sound.index sound.exact g inside (omega arith))

  pub unit_left : (count_in st g ≡ 1 → ⊥) → count_in st g ≤ one_true → UnitOf ix st wk g st wk false
  unit_left a b = (still, moved_refl sound, ⊎_elim a (λ l. omega arith))

-- the one open literal x becomes true: its opposite y becomes false
module _ {ix : Index} {st : Tally} {wk : Notes} (sound : Sound ix st wk) (g : ℕ) (inside : g < clause_count ix) (one : count_in st g ≡ 1)
    (x y : ℕ) (entry : OpenEntry ix st g x) (is : literal_at y ≡ opposite (literal_at x)) where
  half : y / 2 ≡ x / 2
  half = sym (var_at y) ∙ ap var is ∙ var_opposite (literal_at x) ∙ var_at x

  pub one_decidable : Decidable ix st wk y
  one_decidable = record {
    sound = sound;
    opened = omega (arith, half, entry.code.opened);
    below = omega (arith, half, entry.code.below);
    root = rw half entry.code.root;
  }

  opens : open_count (standing (state_in st) (clause_of ix g)) ≡ 1
  opens = omega (arith, count_opens sound.index sound.exact g inside (omega arith))

  asks : AsksFalse (formula_of ix) (state_in st) (literal_at y)
  asks = rw is (asks_true (by_one (clause_of ix g) (mem_formula ix g inside)
      (asks_only (standing (state_in st) (clause_of ix g)) (standing_no_false (state_in st) (clause_of ix g)) (literal_at x)
      (count_none_true sound.index sound.exact g inside (omega arith)) opens entry.stands)))

  pub unit_one : (st' : Tally) (wk' : Notes) (r : Bool) → Decided ix st wk y st' wk' r → UnitOf ix st wk g st' wk' r
  unit_one st' wk' true k = fallen_dies (falls_one asks) (dies_in k)
  unit_one st' wk' false k = (
    rw k.0 (falls_one asks),
    k.1,
    spent k.1.went.sound g inside (rw k.0 (omega (
      arith,
      opens_decided (state_in st) (literal_at y) FALSE (omega (arith, half, var_at y, entry.code.opened)) refl (clause_of ix g),
      opens,
      mentions_occurs (literal_at x) (standing (state_in st) (clause_of ix g)),
      mem_occurs (standing (state_in st) (clause_of ix g)) (literal_at x) entry.stands,
      ap (λ (p : ℕ). mentions p (standing (state_in st) (clause_of ix g))) (var_at y ∙ half ∙ sym (var_at x)),
    ))),
  )

-- one is true: all that is open becomes false
module _ {ix : Index} {st : Tally} {wk : Notes} (sound : Sound ix st wk) (g : ℕ) (inside : g < clause_count ix) (many : one_true < count_in st g) where
  stands_true : Memᴰ TRUE (standing (state_in st) (clause_of ix g))
  stands_true = occurs_mem (standing (state_in st) (clause_of ix g)) TRUE (omega (arith, count_one_true sound.index sound.exact g inside (omega arith)))

  pub unit_clears : (st' : Tally) (wk' : Notes) (r : Bool) → Cleared ix st wk g 0 st' wk' r → UnitOf ix st wk g st' wk' r
  unit_clears st' wk' true k = fallen_dies (clearing_falls (mem_formula ix g inside) stands_true k.1) (dies_in k.2)
  unit_clears st' wk' false k = (
    clearing_falls (mem_formula ix g inside) stands_true k.path,
    k.moved,
    spent k.moved.went.sound g inside none,
  )
    where
      none : open_count (standing (state_in st') (clause_of ix g)) ≡ 0
      none = elim (dec_lt 0 (open_count (standing (state_in st') (clause_of ix g)))) [
        | yes h ↦
            let m = mem_count is_open (standing (state_in st') (clause_of ix g)) h in
            let w = standing_mem (state_in st') (clause_of ix g) m.0 m.1 in
            let o = ltb-true 0 (var m.0) m.2 in
            let e : var (value (state_in st') w.written) ≡ var m.0 = ap var w.valued in
            ⊎_elim (λ z. absurd (omega arith)) (λ z. absurd (omega arith)) (k.only w.written w.member)
        | no h ↦ omega arith
      ]
