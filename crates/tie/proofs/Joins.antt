-- Two classes become one: the rings afterwards, the open roots and the open variables.
use mathlib.Core.Path.{◌≡◌, refl, ap, sym, ◌∙◌}
use mathlib.Core.List.{◌∷◌}
use Prim.Native.Nat.{ℕ, zero, suc, ◌+◌, ◌/◌, ◌≤◌}
use native.Mathlib.Decide.{dec_le, ℕ_discrete as dec_eq}
use native.Mathlib.Omega.{arith}
use borrow.Author.Tests.{eq-eqb, ne_eqb, lt-ltb}
use lib.Dec.{eqb, ltb}
use lib.ListN.{get_or, length, length-set, get_or-eq_default}
use Rattle.general.specs.Booleans.{bit}
use Rattle.general.specs.Times.{times}
use Rattle.general.specs.Repeats.{times_cons}
use Rattle.literal.specs.Literal.{literal_at, max_variables}
use Rattle.literal.proofs.Codes.{var_at}
use Rattle.tally.specs.Ring.{Ring, Classes}
use Rattle.tally.specs.Counts.{load, roots}
use Rattle.tally.proofs.Stretches.{chain_move}
use Rattle.tally.proofs.Turned.{moved_over, stays, class_kept, classes_turned, roots_turned}
use Rattle.tie.specs.Turning.{Turnable, Turned, Joined, swapped, with_swapped}
use Rattle.tie.proofs.Swaps.{swapped_other, swap_arc}
use Rattle.tally.specs.declared.Tally.{Tally}

module _ {tally after : Tally} {x t : ℕ} (d : Turnable tally x t) (u : Turned tally x t after) where
  abbrev old : ℕ → ℕ
  old z = get_or tally.values z 0

  abbrev new : ℕ → ℕ
  new z = get_or after.values z 0

  inside : (z : ℕ) → old z / 2 ≡ x / 2 → z ≤ max_variables
  inside z e = elim (dec_le z max_variables) [
    | yes h ↦ h
    | no h ↦ absurd (let b : length tally.values ≤ z = omega (arith, d.long) in omega (arith, get_or-eq_default tally.values 0 b, d.lower))
  ]

  over : (z : ℕ) → old z / 2 ≡ x / 2 → new z / 2 ≡ t / 2
  over z e = moved_over tally.values after.values x (literal_at t) d.long u.long u.state z (inside z e) e ∙ var_at t

  unmoved : (z : ℕ) → (old z / 2 ≡ x / 2 → ⊥) → new z ≡ old z
  unmoved z e = elim (dec_le z max_variables) [
    | yes h ↦ stays tally.values after.values x (literal_at t) d.long u.long u.state z h e
    | no h ↦
        let a : length after.values ≤ z = omega (arith, u.long) in
        let b : length tally.values ≤ z = omega (arith, d.long) in
        get_or-eq_default after.values 0 a ∙ sym (get_or-eq_default tally.values 0 b)
  ]

  apart : t / 2 ≡ x / 2 → ⊥
  apart e = omega (arith, d.lower)

  -- the class of t's root takes in that of x's
  moved : (z : ℕ) → bit (eqb (new z / 2) (t / 2)) ≡ bit (eqb (old z / 2) (t / 2)) + bit (eqb (old z / 2) (x / 2))
  moved z = elim (dec_eq (old z / 2) (x / 2)) [
    | yes e ↦ rw (eq-eqb (new z / 2) (t / 2) (over z e), eq-eqb (old z / 2) (x / 2) e, ne_eqb (old z / 2) (t / 2) (λ y. apart (sym y ∙ e)))
    | no e ↦ rw (unmoved z e, ne_eqb (old z / 2) (x / 2) e) (omega arith)
  ]

  -- another class keeps its ring
  other_ring : (r : ℕ) → (r ≡ t / 2 → ⊥) → (r ≡ x / 2 → ⊥) → Ring tally.links tally.values r → Ring (swapped tally.links (t / 2) (x / 2)) after.values r
  other_ring r a b g = record {
    others = g.others;
    arc = record {
      chain = chain_move tally.links (swapped tally.links (t / 2) (x / 2)) r r g.others r
          (untouched r (omega (arith, times_cons r r g.others, ap bit (eq-eqb r r refl))))
          (λ z h. untouched z (omega (arith, times_cons z r g.others))) g.arc.chain;
      members = λ z. g.arc.members z ∙ sym (class_kept tally.values after.values x (literal_at t) d.long u.long u.state r b (λ e. a (e ∙ var_at t)) z);
    };
  }
    where
      unlike : (z k : ℕ) → 1 ≤ times z (r ∷ g.others) → old k / 2 ≡ k → (r ≡ k → ⊥) → z ≡ k → ⊥
      unlike z k h o n e = omega (arith, g.arc.members z, ap bit (ne_eqb (old z / 2) r (λ y. n (sym y ∙ ap (λ (j : ℕ). old j / 2) e ∙ o))))

      untouched : (z : ℕ) → 1 ≤ times z (r ∷ g.others) → get_or (swapped tally.links (t / 2) (x / 2)) z 0 ≡ get_or tally.links z 0
      untouched z h = swapped_other tally.links (t / 2) (x / 2) z (unlike z (t / 2) h (omega (arith, d.root_t)) a) (unlike z (x / 2) h (omega (arith, d.root)) b)

  joined_ring : Ring (swapped tally.links (t / 2) (x / 2)) after.values (t / 2)
  joined_ring =
      let a = d.classes.rings (t / 2) (omega (arith, d.opened)) d.root_t in
      let b = d.classes.rings (x / 2) (omega (arith, d.lower)) d.root in
      record {
        others = _;
        arc = swap_arc tally.links tally.values after.values (t / 2) (x / 2) d.linked (omega (arith, d.lower, d.below)) (omega (arith, d.below)) apart moved a.arc b.arc;
      }

  pub joined_classes : Classes after.values (swapped tally.links (t / 2) (x / 2))
  joined_classes = classes_turned tally.values after.values x (literal_at t) d.long u.long u.state (omega (arith, d.lower)) d.below d.root
      (rw (var_at t) apart) (rw (var_at t) (omega (arith, d.lower, d.below))) (rw (var_at t) d.root_t) d.classes
      (λ r o n e. elim (dec_eq r (t / 2)) [ yes y ↦ rw y joined_ring | no y ↦ other_ring r y n (d.classes.rings r o e) ])

  -- one open root fewer
  pub joined_roots : roots after.values max_variables + 1 ≡ roots tally.values max_variables
  joined_roots = roots_turned tally.values after.values x (literal_at t) d.long u.long u.state (omega (arith, d.lower)) d.below d.root
      (rw (var_at t) apart) (rw (var_at t) (omega (arith, d.lower, d.below))) (rw (var_at t) d.root_t) max_variables (omega arith) (omega (arith, d.below))

  -- what is open stays open
  open_same : (z : ℕ) → ltb 1 (new z) ≡ ltb 1 (old z)
  open_same z = elim (dec_eq (old z / 2) (x / 2)) [
    | yes e ↦ lt-ltb 1 (new z) (omega (arith, over z e, d.opened)) ∙ sym (lt-ltb 1 (old z) (omega (arith, d.lower)))
    | no e ↦ rw (unmoved z e)
  ]

  pub joined_load : (w : ℕ → ℕ) (n : ℕ) → load w after.values n ≡ load w tally.values n
  unfolding load
  joined_load w zero = refl
  joined_load w (suc n) = rw (open_same n, joined_load w n)

  pub joined : (end : Tally) → end ≡ with_swapped (t / 2) (x / 2) after → Joined tally x t end
  joined end e = rw (e, u.links) (record {
    state = u.state;
    long = u.long;
    linked = simp length-set d.linked;
    links = refl;
    counts = u.counts;
    classes = joined_classes;
    loads = joined_load;
    fewer = joined_roots;
  })
