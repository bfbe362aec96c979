-- A clause is read against the literals that are seen: what holds at the loop's head, after a turn and at the end.
use mathlib.Core.Path.{◌≡◌, ap, sym, ◌∙◌}
use mathlib.Core.Logic.{◌⊎◌, inr, ◌≢◌, ⊎_elim}
use mathlib.Core.List.{List, Memᴰ}
use Prim.Native.Nat.{ℕ, ◌+◌, ◌≤◌, ◌<◌}
use native.Mathlib.Decide.{ℕ_discrete as dec_eq}
use native.Mathlib.Omega.{arith}
use lib.Bits.{bit_and, bit_or}
use lib.ListN.{get_or, length}
use mathlib.Core.Bool.{Bool, false}
use Rattle.general.specs.Sets.{Has, has_or_left, has_or_right, has_and}
use Rattle.literal.specs.declared.Literal.{Literal}
use Rattle.literal.specs.Literal.{opposite, code_of, literal_at, codes}
use Rattle.literal.proofs.Codes.{literal_at_code_of, var_at, var_code}
use Rattle.theory.specs.Formula.{Clause}
use Rattle.theory.specs.State.{standing}
use Rattle.theory.proofs.Literals.{var_opposite}
use Rattle.theory.proofs.Counts.{Wide}
use Rattle.theory.proofs.Pairs.{Meets}
use Rattle.occurrences.specs.Index.{clause_of, literals}
use Rattle.tally.specs.Tally.{state_in, count_in}
use Rattle.gather.specs.Gathering.{is_wide}
use Rattle.pairs.specs.Seen.{SeenIn, Seeable, MayMeet}
use Rattle.meet.proofs.Widths.{not_wide}
use Rattle.pairs.proofs.Seeing.{value_at, standing_placed}
use Rattle.occurrences.specs.declared.Index.{Index}
use Rattle.tally.specs.declared.Tally.{Tally}

-- where the opposite of the literal with code x stands, and where it or its opposite does
abbrev pub across : List ℕ → ℕ → ℕ
across seen x = get_or seen (code_of (opposite (literal_at x))) 0

abbrev pub touched : List ℕ → ℕ → ℕ
touched seen x = bit_or (get_or seen x 0) (across seen x)

pub opposite_low : {x : ℕ} → x < codes → {y : ℕ} → y ≡ code_of (opposite (literal_at x)) → y < codes
opposite_low {x} h e = omega (arith, var_code (opposite (literal_at x)), var_opposite (literal_at x), var_at x)

-- each place before i was counted, and any two were
pub record Touches (st : Tally) (xs seen : List ℕ) (crossed once twice i : ℕ) : Type 0 where
  pub crosses : (k j : ℕ) → j < i → Has (across seen (value_at st xs j)) k → Has crossed k
  pub one : (k j : ℕ) → j < i → Has (touched seen (value_at st xs j)) k → Has once k
  pub two : (k j l : ℕ) → j < i → l < i → j ≢ l → Has (touched seen (value_at st xs j)) k → Has (touched seen (value_at st xs l)) k → Has twice k

pub touches_begin : {st : Tally} {xs seen : List ℕ} → Touches st xs seen 0 0 0 0
touches_begin = record { crosses = λ k j a. absurd (omega arith); one = λ k j a. absurd (omega arith); two = λ k j l a. absurd (omega arith) }

module _ {st : Tally} {xs seen : List ℕ} {crossed once twice i : ℕ} (o : Touches st xs seen crossed once twice i) where
  pub touches_go : (x y : ℕ) → x ≡ value_at st xs i → y ≡ code_of (opposite (literal_at x)) → (a b : ℕ) → a ≡ get_or seen y 0 →
      b ≡ bit_or (get_or seen x 0) a → Touches st xs seen (bit_or crossed a) (bit_or once b) (bit_or twice (bit_and once b)) (i + 1)
  touches_go x y is turns a b crosses touches = record {
    crosses = λ k j l h. elim (dec_eq j i) [
      | yes e ↦ has_or_right crossed a k (rw (e, ← is, ← turns, ← crosses) at h)
      | no e ↦ has_or_left crossed a k (o.crosses k j (omega arith) h)
    ];
    one = λ k j l h. elim (dec_eq j i) [ yes e ↦ has_or_right once b k (here k j e h) | no e ↦ has_or_left once b k (o.one k j (omega arith) h) ];
    two = λ k j l m n d h q. elim (dec_eq j i) [
      | yes e ↦ has_or_right twice (bit_and once b) k (has_and once b k (o.one k l (omega arith) q) (here k j e h))
      | no e ↦ elim (dec_eq l i) [
        | yes f ↦ has_or_right twice (bit_and once b) k (has_and once b k (o.one k j (omega arith) h) (here k l f q))
        | no f ↦ has_or_left twice (bit_and once b) k (o.two k j l (omega arith) (omega arith) d h q)
      ]
    ];
  }
    where
      here : (k j : ℕ) → j ≡ i → Has (touched seen (value_at st xs j)) k → Has b k
      here k j e h = rw (e, ← is, ← turns, ← crosses, ← touches) at h

  module _ {ix : Index} {g : ℕ} (s : Seeable ix st g) (are : xs ≡ literals ix g) (all : length xs ≤ i) (k : ℕ) (h : Clause) (seen_in : SeenIn st seen k h) where
    -- its opposite is seen
    across_seen : (y : Literal) (x : ℕ) → x ≡ code_of y → Memᴰ (opposite y) (standing (state_in st) h) → Has (across seen x) k
    across_seen y x e m = rw (e, literal_at_code_of y) (seen_in (opposite y) m)

    touched_seen : (y : Literal) (x : ℕ) → x ≡ code_of y → Memᴰ y (standing (state_in st) h) ⊎ Memᴰ (opposite y) (standing (state_in st) h) → Has (touched seen x) k
    touched_seen y x e = ⊎_elim
        (λ m. has_or_left (get_or seen x 0) (across seen x) k (rw e (seen_in y m)))
        (λ m. has_or_right (get_or seen x 0) (across seen x) k (across_seen y x e m))

    pub touches_both : {a b : Literal} → Meets Wide (standing (state_in st) (clause_of ix g)) (standing (state_in st) h) a b → Has (bit_and crossed twice) k
    touches_both {a} {b} m =
        let l = standing_placed s are a m.left in
        let j = standing_placed s are b m.crossing in
        has_and crossed twice k
        (o.crosses k j.0 (omega (arith, j.1)) (across_seen b _ j.2 m.crossed_by))
        (o.two k l.0 j.0 (omega (arith, l.1)) (omega (arith, j.1))
        (λ e. m.apart (omega (arith, sym l.2 ∙ ap (value_at st xs) e ∙ j.2, var_code a, var_code b)))
        (touched_seen a _ l.2 m.right)
        (touched_seen b _ j.2 (inr m.crossed_by)))

  pub touches_end : {ix : Index} {g : ℕ} → Seeable ix st g → xs ≡ literals ix g → length xs ≤ i → MayMeet ix st seen g (bit_and crossed twice)
  touches_end s are all k h n m = touches_both s are all k h n m.meets

-- a clause that is not wide meets none
pub touches_narrow : {ix : Index} {st : Tally} (seen : List ℕ) {g : ℕ} → Seeable ix st g → (x : ℕ) (m : Bool) → x ≡ count_in st g → m ≡ is_wide x → m ≡ false → MayMeet ix st seen g 0
touches_narrow {ix} {st} seen {g} s x m counts tested z k h i e = absurd (not_wide ix st s.index s.exact g s.inside x m counts tested z e.meets.both.0)
