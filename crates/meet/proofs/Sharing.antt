-- Rule 7 for two clauses: the walk over one against the marks of the other, at the loop's head, at the start, after a turn and at the end.
use mathlib.Core.Path.{◌≡◌, ap, sym, ◌∙◌}
use mathlib.Core.Bool.{false}
use mathlib.Core.Logic.{◌⊎◌, inl, inr, ⊎_elim}
use mathlib.Core.List.{List, ◌∷◌, Memᴰ}
use Prim.Native.Nat.{ℕ, ◌+◌, ◌/◌, ◌<◌, ◌≤◌}
use native.Mathlib.Omega.{arith}
use lib.ListN.{get_or, length}
use Rattle.general.specs.Lists.{Before}
use Rattle.literal.specs.declared.Literal.{Literal}
use Rattle.literal.specs.Literal.{FALSE, var, code_of, literal_at, max_variables}
use Rattle.literal.proofs.Codes.{var_code}
use Rattle.theory.specs.State.{value, assign, standing}
use Rattle.theory.proofs.Falls.{falls_one, falls_trans}
use Rattle.theory.proofs.Looks.{Passing, meets_crossing, pass_begins}
use Rattle.occurrences.specs.Index.{clause_count, clause_of, formula_of, literals}
use Rattle.occurrences.proofs.Slices.{literals_clause, literal_member}
use Rattle.tally.specs.Tally.{state_in}
use Rattle.tally.specs.Counts.{roots}
use Rattle.tally.proofs.Turned.{roots_turned}
use Rattle.moves.specs.Sound.{Sound}
use Rattle.moves.specs.Moving.{Moved}
use Rattle.moves.specs.Deciding.{DeadIn, Decidable, Decided}
use Rattle.moves.specs.Stepping.{Died}
use Rattle.moves.proofs.Moves.{moved_refl, moved_trans}
use Rattle.moves.proofs.Dying.{dies_in, fallen_dies}
use Rattle.meet.specs.Meeting.{Marked, Like}
use Rattle.meet.specs.Places.{Sharing, ClearOf}
use Rattle.meet.proofs.Clauses.{not_standing}
use Rattle.meet.proofs.Matched.{before}
use Rattle.meet.proofs.Reading.{rest_of, rest_none, rest_cons}
use Rattle.meet.proofs.Passes.{Falling, passing_falling, passing_goes, marked_ahead}
use Rattle.occurrences.specs.declared.Index.{Index}
use Rattle.tally.specs.declared.Tally.{Tally}
use Rattle.notes.specs.declared.Notes.{Notes}

abbrev Fewer : Tally → Tally → Type 0
Fewer st st' = roots st'.values max_variables < roots st.values max_variables

-- a marked literal stands in what is still to be read
abbrev Ahead : (st : Tally) (marks : List ℕ) → List ℕ → ℕ → Type 0
Ahead st marks xs i = (x : Literal) × Like marks x × Memᴰ x (standing (state_in st) (rest_of xs i))

pub record Shares (ix : Index) (st : Tally) (wk : Notes) (g h : ℕ) (marks xs : List ℕ) (st' : Tally) (wk' : Notes) (i : ℕ) : Type 0 where
  pub inside : h < clause_count ix
  pub are : xs ≡ literals ix h
  pub marked : Marked (standing (state_in st) (clause_of ix g)) marks
  pub order : Before (clause_of ix g) (clause_of ix h) (formula_of ix) ⊎ Before (clause_of ix h) (clause_of ix g) (formula_of ix)
  pub crossing : Literal
  pub passing : Passing (formula_of ix) (state_in st) (state_in st') (clause_of ix g) (clause_of ix h) crossing
  pub moved : Moved ix st wk st' wk'
  pub fewer : Fewer st st' ⊎ Ahead st' marks xs i

pub shares_begins : {ix : Index} {st : Tally} {wk : Notes} {g h : ℕ} → Sound ix st wk → Sharing ix st g h → {xs : List ℕ} → xs ≡ literals ix h → {marks : List ℕ} →
    Marked (standing (state_in st) (clause_of ix g)) marks → Shares ix st wk g h marks xs st wk 0
shares_begins {ix} {st} {wk} {g} {h} s k {xs} are m = record {
  inside = k.other.inside;
  are = are;
  marked = m;
  order = before ix st s.index s.classes g h k.one.inside k.other.inside k.other.distinct k.meets;
  crossing = k.crossing;
  passing = pass_begins (meets_crossing k.one.distinct k.other.distinct k.common k.meets);
  moved = moved_refl s;
  fewer = inr (k.common, m.all k.common k.meets.left, rw (literals_clause ix h xs are) k.shared);
}

module _ {ix : Index} {st : Tally} {wk : Notes} {g h : ℕ} {marks xs : List ℕ} {st' : Tally} {wk' : Notes} {i : ℕ} (o : Shares ix st wk g h marks xs st' wk' i) where
  sound : Sound ix st' wk'
  sound = o.moved.went.sound

  module _ (more : i < length xs) {v : ℕ} (is : v ≡ code_of (value (state_in st') (literal_at (get_or xs i 0)))) {mark : ℕ} (read : mark ≡ get_or marks (v / 2) 0) where
    -- it is not marked
    pub shares_passes : (mark ≡ v → ⊥) → Shares ix st wk g h marks xs st' wk' (i + 1)
    shares_passes unlike = record {
      inside = o.inside;
      are = o.are;
      marked = o.marked;
      order = o.order;
      crossing = o.crossing;
      passing = o.passing;
      moved = o.moved;
      fewer = ⊎_elim inl (λ (x, like, m). inr (x, like, next x like (rw (rest_cons xs i more) at m))) o.fewer;
    }
      where
        not_like : ¬ Like marks (value (state_in st') (literal_at (get_or xs i 0)))
        not_like e =
            let d : v / 2 ≡ var (value (state_in st') (literal_at (get_or xs i 0))) = rw is (sym (var_code (value (state_in st') (literal_at (get_or xs i 0))))) in
            unlike (read ∙ ap (λ (p : ℕ). get_or marks p 0) d ∙ e ∙ sym is)

        next : (x : Literal) → Like marks x → Memᴰ x (standing (state_in st') (literal_at (get_or xs i 0) ∷ rest_of xs (i + 1))) →
            Memᴰ x (standing (state_in st') (rest_of xs (i + 1)))
        next x like = marked_ahead (state_in st') (literal_at (get_or xs i 0)) (rest_of xs (i + 1)) marks x like not_like

    -- it is, and falls
    module _ (like : mark ≡ v) where
      falling : Falling ix st' v
      falling = passing_falling ix st st' sound.index sound.classes g h o.inside o.order o.marked o.passing (literal_at (get_or xs i 0))
          (literal_member ix h xs o.are i more) v is (sym read ∙ like)

      pub shares_decides : Decidable ix st' wk' v
      shares_decides = record { sound = sound; opened = falling.opened; below = falling.below; root = falling.root }

      pub shares_dead : DeadIn ix (assign (literal_at v) FALSE (state_in st')) → Died (formula_of ix) (state_in st)
      shares_dead d = fallen_dies (falls_trans o.passing.path (falls_one (inl falling.asked))) (dies_in d)

      module _ {st'' : Tally} {wk'' : Notes} (d : Decided ix st' wk' v st'' wk'' false) where
        one_fewer : Fewer st' st''
        one_fewer = omega (
          arith,
          roots_turned st'.values st''.values v FALSE sound.exact.long_values d.1.went.sound.exact.long_values d.0 falling.opened falling.below
              falling.root (λ q. omega (arith, q, falling.opened)) (omega arith) sound.classes.base max_variables (omega arith) (omega (arith, falling.below)),
        )

        pub shares_goes : Shares ix st wk g h marks xs st'' wk'' (i + 1)
        shares_goes = record {
          inside = o.inside;
          are = o.are;
          marked = o.marked;
          order = o.order;
          crossing = o.crossing;
          passing = rw d.0 (passing_goes ix st st' sound.index sound.classes g h o.inside o.order o.marked o.passing (literal_at (get_or xs i 0))
              (literal_member ix h xs o.are i more) v is (sym read ∙ like));
          moved = moved_trans o.moved d.1;
          fewer = inl (omega (arith, one_fewer, o.moved.went.fewer));
        }

  pub shares_ends : length xs ≤ i → ClearOf ix st wk st' wk' false
  shares_ends b = (
    o.passing.path,
    o.moved,
    ⊎_elim (λ f. f) (λ (x, like, m). absurd (not_standing (state_in st') x (rw (rest_none xs i b) at m))) o.fewer,
  )
