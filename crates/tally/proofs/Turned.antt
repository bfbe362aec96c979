-- The values once the class of an open root x has become t: classes, rings and roots.
use mathlib.Core.Path.{◌≡◌, refl, ap, sym, ◌∙◌}
use mathlib.Core.List.{List}
use Prim.Native.Nat.{ℕ, zero, suc, ◌+◌, ◌*◌, ◌/◌, ◌≤◌, ◌<◌}
use native.Mathlib.Decide.{dec_le, ℕ_discrete as dec_eq}
use native.Mathlib.Omega.{arith}
use borrow.Author.Tests.{eq-eqb, ne_eqb}
use lib.Dec.{eqb}
use lib.ListN.{get_or, length, get_or-eq_default}
use Rattle.general.specs.Booleans.{bit}
use Rattle.literal.specs.declared.Literal.{Literal}
use Rattle.literal.specs.Literal.{var, code_of, literal_at, max_variables, codes, variables}
use Rattle.literal.proofs.Codes.{code_of_literal_at, var_at}
use Rattle.theory.specs.State.{replace, assign}
use Rattle.theory.proofs.States.{replace_other}
use Rattle.state.specs.State.{state_of}
use Rattle.state.proofs.Values.{state_of_inside}
use Rattle.tally.specs.Ring.{Ring, Classes}
use Rattle.tally.specs.Counts.{roots}
use Rattle.tally.proofs.Rings.{replace_over}

pub inside_root : (v : List ℕ) (r : ℕ) → length v ≡ variables → 0 < r → get_or v r 0 ≡ 2 * r → r ≤ max_variables
inside_root v r long o e = elim (dec_le r max_variables) [
  | yes h ↦ h
  | no h ↦ absurd (let z : length v ≤ r = omega arith in omega (arith, get_or-eq_default v 0 z))
]

module _ (v u : List ℕ) (x : ℕ) (t : Literal) (lv : length v ≡ variables) (lu : length u ≡ variables) (is : state_of u ≡ assign (literal_at x) t (state_of v)) where
  value_is : (q : ℕ) → q ≤ max_variables → literal_at (get_or u q 0) ≡ replace (literal_at x) t (literal_at (get_or v q 0))
  value_is q h = sym (state_of_inside u q h) ∙ ap (λ (s : ℕ → Literal). s q) is ∙ rw (state_of_inside v q h)

  pub moved_over : (q : ℕ) → q ≤ max_variables → get_or v q 0 / 2 ≡ x / 2 → get_or u q 0 / 2 ≡ var t
  moved_over q h e = sym (var_at (get_or u q 0)) ∙ ap var (value_is q h) ∙ replace_over (literal_at x) t (literal_at (get_or v q 0)) (var_at (get_or v q 0) ∙ e ∙ sym (var_at x))

  pub stays : (q : ℕ) → q ≤ max_variables → (get_or v q 0 / 2 ≡ x / 2 → ⊥) → get_or u q 0 ≡ get_or v q 0
  stays q h e =
      sym (code_of_literal_at (get_or u q 0))
      ∙ ap code_of (value_is q h ∙ replace_other (literal_at x) t (literal_at (get_or v q 0)) (λ y. e (sym (var_at (get_or v q 0)) ∙ y ∙ var_at x)))
      ∙ code_of_literal_at (get_or v q 0)

  -- the classes of other roots
  pub class_kept : (r : ℕ) → (r ≡ x / 2 → ⊥) → (r ≡ var t → ⊥) → (q : ℕ) → bit (eqb (get_or u q 0 / 2) r) ≡ bit (eqb (get_or v q 0 / 2) r)
  class_kept r d f q = elim (dec_le q max_variables) [
    | yes h ↦ elim (dec_eq (get_or v q 0 / 2) (x / 2)) [
      | yes e ↦ rw (ne_eqb (get_or u q 0 / 2) r (λ y. f (sym y ∙ moved_over q h e)), ne_eqb (get_or v q 0 / 2) r (λ y. d (sym y ∙ e)))
      | no e ↦ rw (stays q h e)
    ]
    | no h ↦ let a : length u ≤ q = omega arith in let b : length v ≤ q = omega arith in rw (get_or-eq_default u 0 a, get_or-eq_default v 0 b)
  ]

  pub ring_kept : (link : List ℕ) (r : ℕ) → (r ≡ x / 2 → ⊥) → (r ≡ var t → ⊥) → Ring link v r → Ring link u r
  ring_kept link r d f g = record { others = g.others; arc = record { chain = g.arc.chain; members = λ q. g.arc.members q ∙ sym (class_kept r d f q) } }

  -- t is of a class of its own
  module _ (opened : 1 < x) (low : x < codes) (root : get_or v (x / 2) 0 ≡ 2 * (x / 2)) (apart : var t ≡ x / 2 → ⊥) (inside : var t ≤ max_variables)
      (target : get_or v (var t) 0 ≡ 2 * var t) where
    -- no member of the class is a root any more
    member_no_root : (q : ℕ) → q ≤ max_variables → get_or v q 0 / 2 ≡ x / 2 → get_or u q 0 ≡ 2 * q → ⊥
    member_no_root q h e y =
        let m : get_or u q 0 / 2 ≡ var t = moved_over q h e in
        let k : q ≡ var t = omega arith in
        apart (let j : get_or v q 0 ≡ 2 * q = rw k target in omega arith)

    target_stays : get_or u (var t) 0 ≡ 2 * var t
    target_stays = stays (var t) inside (λ y. apart (omega arith)) ∙ target

    pub classes_turned : {link after : List ℕ} → Classes v link → ((r : ℕ) → 0 < r → (r ≡ x / 2 → ⊥) → get_or v r 0 ≡ 2 * r → Ring after u r) → Classes u after
    classes_turned {link} {after} c others = record {
      base = stays 0 (omega arith) (λ y. omega (arith, c.base)) ∙ c.base;
      range = λ p h. elim (dec_eq (get_or v p 0 / 2) (x / 2)) [
        | yes e ↦ omega (arith, moved_over p h e)
        | no e ↦ rw (stays p h e) (c.range p h)
      ];
      rooted = λ p h. elim (dec_eq (get_or v p 0 / 2) (x / 2)) [
        | yes e ↦ rw (moved_over p h e) target_stays
        | no e ↦
            let z : get_or v (get_or v p 0 / 2) 0 ≡ 2 * (get_or v p 0 / 2) = c.rooted p h in
            rw (stays p h e) (stays (get_or v p 0 / 2) (omega (arith, c.range p h)) (λ y. e (omega arith)) ∙ z)
      ];
      rings = λ r o e.
          let h : r ≤ max_variables = inside_root u r lu o e in
          elim (dec_eq (get_or v r 0 / 2) (x / 2)) [
            | yes y ↦ absurd (member_no_root r h y e)
            | no y ↦ let z : get_or u r 0 ≡ get_or v r 0 = stays r h y in others r o (λ k. y (let j : get_or v r 0 ≡ 2 * r = sym z ∙ e in omega arith)) (sym z ∙ e)
          ];
    }

    -- one root less
    root_bit : (q : ℕ) → q ≤ max_variables → bit (eqb (get_or u q 0) (2 * q)) + bit (eqb q (x / 2)) ≡ bit (eqb (get_or v q 0) (2 * q))
    root_bit q h = elim (dec_eq (get_or v q 0 / 2) (x / 2)) [
      | yes e ↦
          let z : (get_or u q 0 ≡ 2 * q → ⊥) = member_no_root q h e in
          elim (dec_eq q (x / 2)) [
            | yes y ↦ rw (ne_eqb (get_or u q 0) (2 * q) z, eq-eqb q (x / 2) y, eq-eqb (get_or v q 0) (2 * q) (rw y root))
            | no y ↦ rw (ne_eqb (get_or u q 0) (2 * q) z, ne_eqb q (x / 2) y, ne_eqb (get_or v q 0) (2 * q) (λ k. y (omega arith)))
          ]
      | no e ↦ rw (stays q h e, ne_eqb q (x / 2) (λ y. e (let k : get_or v q 0 ≡ 2 * q = rw y root in omega arith))) (omega arith)
    ]

    roots_below : (n : ℕ) → n ≤ max_variables → n < x / 2 → roots u n ≡ roots v n
    unfolding roots
    roots_below zero h b = refl
    roots_below (suc n) h b = omega (arith, root_bit (suc n) h, ap bit (ne_eqb (suc n) (x / 2) (λ y. omega arith)), roots_below n (omega arith) (omega arith))

    pub roots_turned : (n : ℕ) → n ≤ max_variables → x / 2 ≤ n → roots u n + 1 ≡ roots v n
    unfolding roots
    roots_turned zero h b = absurd (omega arith)
    roots_turned (suc n) h b = go (roots_turned n (omega arith)) (dec_eq (suc n) (x / 2))
      where
        go : (x / 2 ≤ n → roots u n + 1 ≡ roots v n) → Dec (suc n ≡ x / 2) → roots u (suc n) + 1 ≡ roots v (suc n)
        go ih (yes e) = omega (arith, root_bit (suc n) h, ap bit (eq-eqb (suc n) (x / 2) e), roots_below n (omega arith) (omega arith))
        go ih (no e) = omega (arith, root_bit (suc n) h, ap bit (ne_eqb (suc n) (x / 2) e), ih (omega arith))
