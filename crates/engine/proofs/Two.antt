-- The open literals of a clause with one or two of them, and what rule 6 makes of two.
use mathlib.Core.Path.{◌≡◌, refl, ap, sym, ◌∙◌}
use mathlib.Core.Logic.{inl, ⊎_elim}
use mathlib.Core.List.{[], ◌∷◌, Memᴰ}
use Prim.Native.Nat.{ℕ, suc, ◌+◌, ◌/◌, ◌<◌}
use native.Mathlib.Omega.{arith}
use borrow.Author.Tests.{lt-ltb}
use Rattle.general.specs.Counting.{count}
use Rattle.literal.specs.declared.Literal.{Literal}
use Rattle.literal.specs.Literal.{TRUE, var, opposite, code_of, literal_at}
use Rattle.literal.proofs.Codes.{at_code, code_of_literal_at, var_at}
use Rattle.theory.specs.Formula.{Clause}
use Rattle.theory.specs.State.{value, standing}
use Rattle.theory.specs.Rules.{occurs}
use Rattle.theory.proofs.Literals.{of_variable_lem}
use Rattle.theory.proofs.Clauses.{occurs_here, occurs_other}
use Rattle.theory.proofs.Ties.{ties_higher}
use Rattle.theory.proofs.Asks.{by_one, stands_twice, standing_no_false}
use Rattle.theory.proofs.Counts.{open_count}
use Rattle.theory.proofs.ByCount.{asks_tie, dead_counted, repeated_dead}
use Rattle.theory.proofs.Falls.{falls_one}
use Rattle.occurrences.specs.Index.{clause_count, clause_of, formula_of, start_at}
use Rattle.occurrences.proofs.Formulas.{mem_formula}
use Rattle.tally.specs.Tally.{state_in, count_in}
use Rattle.tally.specs.Counts.{one_true}
use Rattle.tally.proofs.Standing.{count_opens, count_none_true}
use Rattle.moves.specs.Stepping.{Died}
use Rattle.engine.specs.Short.{Resting}
use Rattle.engine.specs.Reading.{Legible, written, rest, Opens, FirstOpen, OpenCode, OpenEntry}
use Rattle.tie.specs.Tying.{Tying}
use Rattle.moves.proofs.Dying.{fallen_dies}
use Rattle.engine.proofs.Reading.{open_code}
use Rattle.occurrences.specs.declared.Index.{Index}
use Rattle.tally.specs.declared.Tally.{Tally}

-- one, or two: the walk begins at the clause's start
pub opens_first : {ix : Index} {st : Tally} → Legible ix st → (g : ℕ) → g < clause_count ix → 0 < count_in st g → count_in st g < one_true → Opens ix st g (start_at ix g)
opens_first l g inside o h = record {
  legible = l;
  inside = inside;
  begins = omega arith;
  none_true = count_none_true l.index l.exact g inside h;
  some_open = omega (arith, count_opens l.index l.exact g inside h);
}

pub first_entry : {ix : Index} {st : Tally} {g i x : ℕ} → Opens ix st g (start_at ix g) → FirstOpen ix st g (start_at ix g) i → x ≡ code_of (value (state_in st) (written ix i)) → OpenEntry ix st g x
first_entry {ix} {st} {g} {i} {x} o k e = record {
  code = open_code o.legible g o.inside i k.begins k.before x e k.opened;
  stands = rw (at_code x (value (state_in st) (written ix i)) e, k.splits) (Memᴰ.head refl);
}

-- two ------------------------------------------------------------------------------------------------------------------

occurs_none : (x : Literal) → occurs x [] ≡ 0
unfolding occurs
occurs_none x = refl

-- with an open literal in front, one fewer is left
module _ (l : Literal) (d : Clause) (o : 0 < var l) where
  opens_cons : open_count (l ∷ d) ≡ suc (open_count d)
  unfolding count
  opens_cons = rw (lt-ltb 0 (var l) o) (omega arith)

  trues_cons : occurs TRUE (l ∷ d) ≡ occurs TRUE d
  trues_cons = occurs_other TRUE l d (λ e. omega (arith, ap var e))

module _ {ix : Index} {st : Tally} {g i : ℕ} (o : Opens ix st g (start_at ix g)) (two : count_in st g ≡ 2) (first : FirstOpen ix st g (start_at ix g) i) where
  opens_two : open_count (standing (state_in st) (clause_of ix g)) ≡ 2
  opens_two = omega (arith, count_opens o.legible.index o.legible.exact g o.inside (omega arith))

  left_open : open_count (standing (state_in st) (rest ix g (i + 1))) ≡ 1
  left_open = omega (arith, opens_two, ap open_count first.splits, opens_cons (value (state_in st) (written ix i)) (standing (state_in st) (rest ix g (i + 1))) first.opened)

  left_true : occurs TRUE (standing (state_in st) (rest ix g (i + 1))) ≡ 0
  left_true = omega (arith, o.none_true, ap (occurs TRUE) first.splits, trues_cons (value (state_in st) (written ix i)) (standing (state_in st) (rest ix g (i + 1))) first.opened)

  pub opens_second : Opens ix st g (i + 1)
  opens_second = record { legible = o.legible; inside = o.inside; begins = omega (arith, first.begins); none_true = left_true; some_open = omega (arith, left_open) }

  asked_tie : (low high : ℕ) → OpenCode st low → OpenCode st high → Memᴰ (literal_at low) (standing (state_in st) (clause_of ix g)) →
      Memᴰ (literal_at high) (standing (state_in st) (clause_of ix g)) → low / 2 < high / 2 → Tying ix st low high
  asked_tie low high cl ch ml mh l = record {
    opened = cl.opened;
    order = l;
    below = ch.below;
    low_root = cl.root;
    high_root = ch.root;
    asked = by_one (clause_of ix g) (mem_formula ix g o.inside)
        (asks_tie (standing (state_in st) (clause_of ix g)) (standing_no_false (state_in st) (clause_of ix g)) (literal_at low) (literal_at high) o.none_true opens_two ml mh
        (ties_higher (literal_at low) (literal_at high) (omega (arith, var_at low, var_at high))));
  }

  module _ {j : ℕ} (second : FirstOpen ix st g (i + 1) j) (x y : ℕ) (is_x : x ≡ code_of (value (state_in st) (written ix i))) (is_y : y ≡ code_of (value (state_in st) (written ix j))) where
    code_x : OpenCode st x
    code_x = open_code o.legible g o.inside i first.begins first.before x is_x first.opened

    code_y : OpenCode st y
    code_y = open_code o.legible g o.inside j (omega (arith, first.begins, second.begins)) second.before y is_y second.opened

    -- and nothing else stands
    both : standing (state_in st) (clause_of ix g) ≡ literal_at x ∷ literal_at y ∷ []
    both = rw (at_code x (value (state_in st) (written ix i)) is_x, at_code y (value (state_in st) (written ix j)) is_y)
        (first.splits ∙ ap (λ (d : Clause). value (state_in st) (written ix i) ∷ d) (second.splits ∙ ap (λ (d : Clause). value (state_in st) (written ix j) ∷ d) ended))
      where
        ended : standing (state_in st) (rest ix g (j + 1)) ≡ []
        ended =
            let d = standing (state_in st) (rest ix g (j + 1)) in
            let o = opens_cons (value (state_in st) (written ix j)) d second.opened in
            let t = trues_cons (value (state_in st) (written ix j)) d second.opened in
            let z : occurs TRUE d ≡ 0 = omega (arith, left_true, ap (occurs TRUE) second.splits) in
            let e = dead_counted d (standing_no_false (state_in st) (rest ix g (j + 1))) z (omega (arith, left_open, ap open_count second.splits)) in
            ⊎_elim (λ h. absurd (omega arith)) (λ q. q) e

    mem_x : Memᴰ (literal_at x) (standing (state_in st) (clause_of ix g))
    mem_x = rw both (Memᴰ.head refl)

    mem_y : Memᴰ (literal_at y) (standing (state_in st) (clause_of ix g))
    mem_y = rw both (Memᴰ.tail (Memᴰ.head refl))

    -- twice the same: rule 4 makes it false, and nothing is left
    pub two_dead : x ≡ y → Died (formula_of ix) (state_in st)
    two_dead e =
        let twice : occurs (literal_at x) (standing (state_in st) (clause_of ix g)) ≡ 2 =
        ap (occurs (literal_at x)) both ∙ rw (← e) (omega (arith, occurs_here (literal_at x) (literal_at x ∷ []), occurs_here (literal_at x) [], occurs_none (literal_at x))) in
        let opened : 0 < var (literal_at x) = omega (arith, var_at x, code_x.opened) in
        fallen_dies (falls_one (inl (by_one (clause_of ix g) (mem_formula ix g o.inside) (stands_twice (omega (arith, twice)) opened))))
        (record {
          clause = clause_of ix g;
          member = mem_formula ix g o.inside;
          dead_end = repeated_dead (state_in st) (clause_of ix g) (literal_at x) opened o.none_true (opens_two ∙ sym twice);
        })

    -- a literal and its opposite
    pub two_rest : (x ≡ y → ⊥) → x / 2 ≡ y / 2 → Resting (standing (state_in st) (clause_of ix g))
    two_rest n e = (
      literal_at y,
      mem_y,
      ⊎_elim
          (λ (q : literal_at x ≡ literal_at y). absurd (n (sym (code_of_literal_at x) ∙ ap code_of q ∙ code_of_literal_at y)))
          (λ (q : literal_at x ≡ opposite (literal_at y)). rw q at mem_x)
          (of_variable_lem (literal_at x) (literal_at y) (var_at x ∙ e ∙ sym (var_at y))),
    )

    -- of two variables: exactly one is true
    pub two_tie : x / 2 < y / 2 → Tying ix st x y
    two_tie = asked_tie x y code_x code_y mem_x mem_y

    pub two_turned : y / 2 < x / 2 → Tying ix st y x
    two_turned = asked_tie y x code_y code_x mem_y mem_x
