-- What is kept of the placements that a table names: of no table, with an element more, and looked through from 1 on.
use mathlib.Core.Path.{◌≡◌, sym, ◌∙◌}
use mathlib.Core.Bool.{Bool, true, false, ◌||◌, or-false, or-true}
use mathlib.Core.List.{List, [], ◌∷◌, ◌++◌}
use Prim.Native.Nat.{ℕ, suc, ◌+◌, ◌-◌, ◌<◌, ◌≤◌}
use native.Mathlib.Decide.{ℕ_discrete as dec_eq}
use native.Mathlib.Omega.{arith}
use borrow.Author.Tests.{eq-eqb, ne_eqb}
use lib.Dec.{eqb}
use lib.IntN.{ℤ, nat_abs}
use lib.ListN.{get_or, set, replicate, length-set, length-replicate, get_or-replicate}
use lib.Seq.{get_or-set_same, get_or-set_other}
use Rattle.general.specs.Search.{any, any_last}
use Rattle.literal.specs.Literal.{max_variables}
use Rattle.theory.specs.Mentions.{mentions, mentions_all}
use Rattle.theory.proofs.Mentions.{each_mentioned, one_missing}
use Rattle.mentions.specs.Noted.{Noted}

pub noted_none : Noted (replicate (suc max_variables) false) []
unfolding any
noted_none = record { long = length-replicate (suc max_variables) false; is = λ p h. get_or-replicate (suc max_variables) p false false (omega arith) }

-- an element more
module _ (l : List Bool) (t : List ℤ) (e : ℤ) (w : Noted l t) where
  last : (p : ℕ) → mentions (t ++ (e ∷ [])) p ≡ (mentions t p || eqb (nat_abs e) p)
  last p = any_last (λ (x : ℤ). eqb (nat_abs x) p) t e

  pub noted_next : nat_abs e ≤ max_variables → Noted (set l (nat_abs e) true) (t ++ (e ∷ []))
  noted_next h = record { long = length-set l (nat_abs e) true ∙ w.long; is = is }
    where
      is : (p : ℕ) → p ≤ max_variables → get_or (set l (nat_abs e) true) p false ≡ mentions (t ++ (e ∷ [])) p
      is p b = elim (dec_eq (nat_abs e) p) [
        | yes q ↦ rw (last p, eq-eqb (nat_abs e) p q, or-true (mentions t p), ← q) (get_or-set_same l (nat_abs e) true false (omega (arith, w.long)))
        | no q ↦ rw (last p, ne_eqb (nat_abs e) p q, or-false (mentions t p)) (get_or-set_other l (nat_abs e) p true false (λ z. q (sym z)) ∙ w.is p b)
      ]

  pub noted_past : max_variables < nat_abs e → Noted l (t ++ (e ∷ []))
  noted_past h = record { long = w.long; is = λ p b. rw (last p, ne_eqb (nat_abs e) p (λ q. omega arith), or-false (mentions t p)) (w.is p b) }

-- the first i placements are noted
abbrev pub Seen : List Bool → ℕ → Type 0
Seen l i = (j : ℕ) → j < i → get_or l (j + 1) false ≡ true

pub seen_next : (l : List Bool) (i : ℕ) → Seen l i → get_or l (i + 1) false ≡ true → Seen l (i + 1)
seen_next l i h e j b = elim (dec_eq j i) [ yes q ↦ rw q e | no q ↦ h j (omega arith) ]

module _ (l : List Bool) (n : ℕ) (few : n ≤ max_variables) (t : List ℤ) (w : Noted l t) where
  pub seen_all : Seen l n → true ≡ mentions_all n t
  seen_all h = sym (each_mentioned n t (λ p o b. let q : p - 1 + 1 ≡ p = omega arith in sym (w.is p (omega arith)) ∙ rw q at (h (p - 1) (omega arith))))

  pub not_seen : (i : ℕ) → i < n → get_or l (i + 1) false ≡ false → false ≡ mentions_all n t
  not_seen i b e = sym (one_missing n t (i + 1) (omega arith) (omega arith) (sym (w.is (i + 1) (omega arith)) ∙ e))
