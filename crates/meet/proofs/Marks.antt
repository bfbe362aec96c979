-- Marking the literals of a clause by variable: what holds at the loop's head, at the start, after a turn and at the end.
use mathlib.Core.Path.{◌≡◌, refl, ap, sym, ◌∙◌}
use mathlib.Core.Logic.{◌⊎◌, inl, inr, ◌≢◌, ⊎_elim}
use mathlib.Core.List.{List, [], ◌∷◌, Memᴰ}
use Prim.Native.Nat.{ℕ, ◌/◌, ◌<◌, ◌≤◌}
use native.Mathlib.Decide.{ℕ_discrete as dec_eq}
use native.Mathlib.Omega.{arith}
use lib.ListN.{get_or, set, length, length-set, replicate, length-replicate}
use lib.Seq.{get_or-set_same, get_or-set_other}
use Rattle.general.specs.Lists.{get_or_throughout}
use Rattle.literal.specs.declared.Literal.{Literal}
use Rattle.literal.specs.Literal.{FALSE, var, code_of, literal_at, max_variables, variables}
use Rattle.literal.proofs.Codes.{literal_at_code_of, var_code}
use Rattle.theory.specs.Formula.{Clause}
use Rattle.theory.specs.State.{State, value, standing}
use Rattle.theory.proofs.Clauses.{mem_standing}
use Rattle.theory.proofs.Asks.{standing_no_false}
use Rattle.theory.proofs.Counts.{Distinct, Wide}
use Rattle.meet.specs.Meeting.{Marked}
use Rattle.meet.proofs.Clauses.{standing_cases, not_standing, wide_open, distinct_same}

-- the literals of c but those of the rest are marked
pub record Marks (s : State) (c rest : Clause) (marks : List ℕ) : Type 0 where
  pub long : length marks ≡ variables
  pub part : (l : Literal) → Memᴰ l rest → Memᴰ l c
  pub all : (y : Literal) → Memᴰ y (standing s c) → (get_or marks (var y) 0 ≡ code_of y) ⊎ Memᴰ y (standing s rest)
  pub only : (p : ℕ) → 0 < p → 0 < get_or marks p 0 → Memᴰ (literal_at (get_or marks p 0)) (standing s c)

pub marks_begin : (s : State) (c : Clause) → Marks s c c (replicate variables 0)
marks_begin s c = record {
  long = length-replicate {A = ℕ} variables 0;
  part = λ l m. m;
  all = λ y m. inr m;
  only = λ p o h. absurd (omega (arith, get_or_throughout {A = ℕ} variables p 0));
}

module _ (s : State) (c : Clause) (w : Wide (standing s c)) (k : Distinct (standing s c)) where
  opened : (y : Literal) → Memᴰ y (standing s c) → 0 < var y
  opened = wide_open (standing_no_false s c) w

  module _ {l : Literal} {rest : Clause} {marks : List ℕ} (o : Marks s c (l ∷ rest) marks) (inside : var (value s l) ≤ max_variables) (x : ℕ) (is : x ≡ code_of (value s l)) where
    at : x / 2 ≡ var (value s l)
    at = rw is (sym (var_code (value s l)))

    pub marks_go : Marks s c rest (set marks (x / 2) x)
    marks_go = record {
      long = length-set marks (x / 2) x ∙ o.long;
      part = λ y m. o.part y (Memᴰ.tail m);
      all = all;
      only = only;
    }
      where
        there : get_or (set marks (x / 2) x) (x / 2) 0 ≡ x
        there = get_or-set_same marks (x / 2) x 0 (omega (arith, at, o.long))

        stood : value s l ≢ FALSE → Memᴰ (value s l) (standing s c)
        stood h = mem_standing s c l (o.part l (Memᴰ.head refl)) h

        all : (y : Literal) → Memᴰ y (standing s c) → (get_or (set marks (x / 2) x) (var y) 0 ≡ code_of y) ⊎ Memᴰ y (standing s rest)
        all y m = elim (dec_eq (var y) (x / 2)) [
          | yes e ↦
              let n : value s l ≢ FALSE = λ z. omega (arith, opened y m, at, ap var z) in
              let q : y ≡ value s l = distinct_same k y (value s l) (opened y m) m (stood n) (e ∙ at) in
              inl (rw e (there ∙ is ∙ ap code_of (sym q)))
          | no e ↦ ⊎_elim
              (λ i. inl (rw (get_or-set_other marks (x / 2) (var y) x 0 e) i))
              (λ i. ⊎_elim (λ (q : y ≡ value s l). absurd (e (ap var q ∙ sym at))) inr (standing_cases s l rest y i))
              (o.all y m)
        ]

        only : (p : ℕ) → 0 < p → 0 < get_or (set marks (x / 2) x) p 0 → Memᴰ (literal_at (get_or (set marks (x / 2) x) p 0)) (standing s c)
        only p b h = elim (dec_eq p (x / 2)) [
          | yes e ↦
              let n : value s l ≢ FALSE = λ z. omega (arith, at, ap var z) in
              rw (e, there, is, literal_at_code_of (value s l)) (stood n)
          | no e ↦ rw (get_or-set_other marks (x / 2) p x 0 e) (o.only p b (rw (get_or-set_other marks (x / 2) p x 0 e) at h))
        ]

  -- the constant's mark
  pub marks_end : {marks : List ℕ} → Marks s c [] marks → Marked (standing s c) (set marks 0 2)
  marks_end {marks} o = record {
    unseen = get_or-set_same marks 0 2 0 (omega (arith, o.long));
    all = λ y m. ⊎_elim
        (λ i. rw (get_or-set_other marks 0 (var y) 2 0 (λ e. omega (arith, opened y m))) i)
        (λ i. absurd (not_standing s y i))
        (o.all y m);
    only = λ p b h.
        let e : get_or (set marks 0 2) p 0 ≡ get_or marks p 0 = get_or-set_other marks 0 p 2 0 (λ q. omega arith) in
        rw e (o.only p b (rw e at h));
  }
