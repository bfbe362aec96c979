-- Clearing a clause: the walk over its literals.
use mathlib.Core.Path.{◌≡◌, ap, sym, ◌∙◌}
use mathlib.Core.Bool.{true, false, Bool}
use mathlib.Core.Logic.{◌⊎◌, inl, inr}
use mathlib.Core.List.{List, Memᴰ}
use Prim.Native.Nat.{ℕ, ◌+◌, ◌/◌, ◌≤◌, ◌<◌}
use native.Mathlib.Decide.{ℕ_discrete as dec_eq}
use native.Mathlib.Omega.{arith}
use lib.ListN.{get_or, length}
use Rattle.literal.specs.declared.Literal.{Literal}
use Rattle.literal.specs.Literal.{FALSE, var, code_of, literal_at, codes}
use Rattle.literal.proofs.Codes.{literal_at_code_of, var_at}
use Rattle.theory.specs.Formula.{Clause}
use Rattle.theory.specs.State.{State, value, replace, assign, standing}
use Rattle.theory.proofs.States.{replace_same, replace_other, value_variable, value_assign}
use Rattle.theory.proofs.Clauses.{mem_standing}
use Rattle.state.proofs.Values.{state_of_inside}
use Rattle.occurrences.specs.Index.{clause_count, clause_of, literals}
use Rattle.occurrences.proofs.Slices.{literal_known, literal_member, member_literal}
use Rattle.tally.specs.Tally.{state_in, value_in}
use Rattle.moves.specs.Sound.{Sound}
use Rattle.moves.specs.Moving.{Moved}
use Rattle.moves.specs.Deciding.{Clearing, cleared, clears, Cleared, Decidable, Decided}
use Rattle.moves.proofs.Moves.{moved_refl, moved_trans}
use Rattle.decide.specs.Clearing.{Standing, Gone, Spared, Passed}
use Rattle.occurrences.specs.declared.Index.{Index}
use Rattle.tally.specs.declared.Tally.{Tally}
use Rattle.notes.specs.declared.Notes.{Notes}

-- one literal
pub asks_decide : {ix : Index} {st : Tally} {wk : Notes} {x : ℕ} → Standing ix st wk x → 1 < x → Decidable ix st wk x
asks_decide s o = record { sound = s.sound; opened = o; below = s.below; root = s.root o }

pub passed : {ix : Index} {st : Tally} {wk : Notes} {x : ℕ} → Standing ix st wk x → (w : ℕ) (st' : Tally) (wk' : Notes) → 1 < x → (x / 2 ≡ w → ⊥) → (b : Bool) →
    Decided ix st wk x st' wk' b → Passed ix st wk x w st' wk' b
passed s w st' wk' o n true d = (o, n, d)
passed s w st' wk' o n false d = (d.1, inr (o, n, d.0))

clearing_more : {c : Clause} {w : ℕ} {s u : State} (x : Literal) → Clearing c w s u → Memᴰ x (standing u c) → 0 < var x → (var x ≡ w → ⊥) → Clearing c w s (assign x FALSE u)
clearing_more x cleared m o n = clears x m o n cleared
clearing_more x (clears y k p d t) m o n = clears y k p d (clearing_more x t m o n)

-- the literal of a code is none that was to go
abbrev Only : State → ℕ → ℕ → Type 0
Only s w code = (var (value s (literal_at code)) ≡ 0) ⊎ (var (value s (literal_at code)) ≡ w)

-- the first i of the codes of clause g are done
pub record Along (ix : Index) (st : Tally) (wk : Notes) (g w : ℕ) (cs : List ℕ) (st' : Tally) (wk' : Notes) (i : ℕ) : Type 0 where
  pub within : g < clause_count ix
  pub are : cs ≡ literals ix g
  pub moved : Moved ix st wk st' wk'
  pub path : Clearing (clause_of ix g) w (state_in st) (state_in st')
  pub only : (j : ℕ) → j < i → Only (state_in st') w (get_or cs j 0)

pub along_begins : {ix : Index} {st : Tally} {wk : Notes} (g w : ℕ) → Sound ix st wk → g < clause_count ix → (cs : List ℕ) → cs ≡ literals ix g → Along ix st wk g w cs st wk 0
along_begins g w s h cs are = record {
  within = h;
  are = are;
  moved = moved_refl s;
  path = cleared;
  only = λ j x. absurd (omega arith);
}

module _ {ix : Index} {st : Tally} {wk : Notes} {g w : ℕ} {cs : List ℕ} {st' : Tally} {wk' : Notes} {i : ℕ} (q : Along ix st wk g w cs st' wk' i) where
  sound : Sound ix st' wk'
  sound = q.moved.went.sound

  module _ (before : i < length cs) where
    pub known : get_or cs i 0 < codes
    known = literal_known sound.index g q.within cs q.are i before

    module _ (x : ℕ) (is : x ≡ code_of (value (state_in st') (literal_at (get_or cs i 0)))) where
      literal : literal_at x ≡ value (state_in st') (literal_at (get_or cs i 0))
      literal = ap literal_at is ∙ literal_at_code_of (value (state_in st') (literal_at (get_or cs i 0)))

      var_is : x / 2 ≡ var (value (state_in st') (literal_at (get_or cs i 0)))
      var_is = sym (var_at x) ∙ ap var literal

      of : x / 2 ≡ value_in st' (get_or cs i 0 / 2) / 2
      of = var_is ∙ value_variable (state_in st') (literal_at (get_or cs i 0)) ∙ ap (λ (k : ℕ). var (state_in st' k)) (var_at (get_or cs i 0)) ∙
          ap var (state_of_inside st'.values (get_or cs i 0 / 2) (omega (arith, known))) ∙ var_at (value_in st' (get_or cs i 0 / 2))

      pub stands : Standing ix st' wk' x
      stands = record {
        sound = sound;
        below = omega (arith, of, sound.classes.range (get_or cs i 0 / 2) (omega (arith, known)));
        root = λ o. rw of (sound.classes.rooted (get_or cs i 0 / 2) (omega (arith, known)));
      }

      next : 1 < x → (x / 2 ≡ w → ⊥) → Clearing (clause_of ix g) w (state_in st) (assign (literal_at x) FALSE (state_in st'))
      next o n =
          clearing_more (literal_at x) q.path
          (rw literal (mem_standing (state_in st') (clause_of ix g) (literal_at (get_or cs i 0)) (literal_member ix g cs q.are i before) (λ y. omega (arith, var_is, ap var y))))
          (omega (arith, var_at x)) (λ y. n (omega (arith, var_at x)))

      pub along_dead : (wk'' : Notes) → Passed ix st' wk' x w st' wk'' true → Cleared ix st wk g w st' wk'' true
      along_dead wk'' d = (assign (literal_at x) FALSE (state_in st'), next d.0 d.1, d.2)

      module _ {st'' : Tally} {wk'' : Notes} (p : Passed ix st' wk' x w st'' wk'' false) where
        path_goes : Spared st' x w st'' ⊎ Gone st' x w st'' → Clearing (clause_of ix g) w (state_in st) (state_in st'')
        path_goes (inl h) = rw h.1 q.path
        path_goes (inr h) = rw h.2 (next h.0 h.1)

        -- what was done stays so
        kept : (j : ℕ) → 1 < x → (x / 2 ≡ w → ⊥) → Only (state_in st') w (get_or cs j 0) → Only (assign (literal_at x) FALSE (state_in st')) w (get_or cs j 0)
        kept j o n h = go h
          where
            same_var : (var (value (state_in st') (literal_at (get_or cs j 0))) ≡ var (literal_at x) → ⊥) →
                var (value (assign (literal_at x) FALSE (state_in st')) (literal_at (get_or cs j 0))) ≡ var (value (state_in st') (literal_at (get_or cs j 0)))
            same_var d =
                ap var
                (value_assign (state_in st') (literal_at x) FALSE (literal_at (get_or cs j 0)) ∙ replace_other (literal_at x) FALSE (value (state_in st') (literal_at (get_or cs j 0))) d)

            go : Only (state_in st') w (get_or cs j 0) → Only (assign (literal_at x) FALSE (state_in st')) w (get_or cs j 0)
            go (inl e) = inl (same_var (λ y. omega (arith, var_at x)) ∙ e)
            go (inr e) = inr (same_var (λ y. n (omega (arith, var_at x))) ∙ e)

        only_goes : (j : ℕ) → j < i + 1 → Spared st' x w st'' ⊎ Gone st' x w st'' → Dec (j ≡ i) → Only (state_in st'') w (get_or cs j 0)
        only_goes j z (inl (inl h, e)) (yes d) = rw (e, d) (inl (omega (arith, var_is)))
        only_goes j z (inl (inr h, e)) (yes d) = rw (e, d) (inr (sym var_is ∙ h))
        only_goes j z (inl h) (no d) = rw h.1 (q.only j (omega arith))
        only_goes j z (inr h) (yes d) =
            rw (h.2, d)
            (inl (ap var (value_assign (state_in st') (literal_at x) FALSE (literal_at (get_or cs i 0)) ∙ ap (replace (literal_at x) FALSE) (sym literal) ∙ replace_same (literal_at x) FALSE)))
        only_goes j z (inr h) (no d) = rw h.2 (kept j h.0 h.1 (q.only j (omega arith)))

        pub along_goes : Along ix st wk g w cs st'' wk'' (i + 1)
        along_goes = record {
          within = q.within;
          are = q.are;
          moved = moved_trans q.moved p.0;
          path = path_goes p.1;
          only = λ j z. only_goes j z p.1 (dec_eq j i);
        }

  pub along_ends : length cs ≤ i → Cleared ix st wk g w st' wk' false
  along_ends h = record {
    path = q.path;
    moved = q.moved;
    only = λ x m. let e = member_literal ix g cs q.are x m in rw e.2 (q.only e.0 (omega (arith, e.1)));
  }
