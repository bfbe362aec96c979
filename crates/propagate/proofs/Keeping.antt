-- Notes that are gone through index by index, and kept where something more is known.
use mathlib.Core.Path.{◌≡◌, refl, sym, ◌∙◌}
use mathlib.Core.Bool.{Bool, true, false}
use mathlib.Core.List.{List, ◌++◌}
use Prim.Native.Nat.{ℕ, ◌+◌, ◌-◌, ◌<◌, ◌≤◌}
use native.Mathlib.Decide.{ℕ_discrete, dec_lt}
use native.Mathlib.Omega.{arith}
use lib.ListN.{length, get_or, set, take, drop, length-set, length-append, length-drop, get_or-append}
use lib.Seq.{get_or-set_same, get_or-set_other, get_or-append_right}
use Rattle.std.proofs.lemmas.List.{get_or-take, get_or-drop, length-take-le}
use Rattle.propagate.specs.Partners.{Kept}

module _ (P : ℕ → Type 0) where
  -- up to i
  pub record Keeping (before after : List Bool) (i : ℕ) : Type 0 where
    pub room : length after ≡ length before
    pub passed : (j : ℕ) → j < i → get_or after j false ≡ true → (get_or before j false ≡ true) × P j
    pub rest : (j : ℕ) → i ≤ j → get_or after j false ≡ get_or before j false

  pub keeping_none : (m : List Bool) → Keeping m m 0
  keeping_none m = record { room = refl; passed = λ j h. absurd (omega arith); rest = λ j h. refl }

  module _ {before after : List Bool} {i : ℕ} (k : Keeping before after i) where
    pub keeping_next : i < length after → {b : Bool} → (b ≡ true → (get_or after i false ≡ true) × P i) → Keeping before (set after i b) (i + 1)
    keeping_next h {b} s = record {
      room = length-set after i b ∙ k.room;
      passed = λ j l. elim (ℕ_discrete j i) [
        | yes e ↦ rw e (rw (get_or-set_same after i b false h, ← k.rest i (omega arith)) s)
        | no e ↦ rw (get_or-set_other after i j b false e) (k.passed j (omega arith))
      ];
      rest = λ j l. get_or-set_other after i j b false (λ e. omega arith) ∙ k.rest j (omega arith);
    }

  -- the notes of the first n indices, of which all were gone through, with the others after them
  pub keeping_front : (n : ℕ) (m : List Bool) {after : List Bool} {i : ℕ} → n ≤ length m → Keeping (take n m) after i → length (take n m) ≤ i → Kept (λ j. j < n → P j) m (after ++ drop n m)
  keeping_front n m {after} {i} inside k end =
      let l : length after ≡ n = k.room ∙ length-take-le n m inside in
      record {
        room = omega (arith, length-append after (drop n m), length-drop n m, l);
        each = λ j e. elim (dec_lt j n) [
          | yes h ↦
              let w = k.passed j (omega (arith, length-take-le n m inside)) (sym (get_or-append after (drop n m) false j (omega (arith, l))) ∙ e) in
              (sym (get_or-take n m j false h) ∙ w.0, λ _. w.1)
          | no h ↦
              let q : n + (j - length after) ≡ j = omega (arith, l) in (
                rw q at (sym (get_or-drop n m (j - length after) false)) ∙ sym (get_or-append_right after (drop n m) j false (omega (arith, l))) ∙ e,
                λ b. absurd (omega arith),
              )
        ];
      }

pub kept_where : {P Q : ℕ → Type 0} {before after : List Bool} → ((i : ℕ) → P i → Q i) → Kept P before after → Kept Q before after
kept_where f k = record { room = k.room; each = λ i e. let w = k.each i e in (w.0, f i w.1) }
