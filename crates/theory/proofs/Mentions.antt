-- A3: a table names every placement exactly where each stands in one of its groups.
use mathlib.Core.Path.{◌≡◌, refl, ap, sym, ◌∙◌}
use mathlib.Core.Bool.{Bool, true, false}
use mathlib.Core.Logic.{◌⊎◌, inl, inr, ⊎_elim, ◌↔◌}
use mathlib.Core.List.Memᴰ
use mathlib.Core.List.{List, [], ◌∷◌}
use Prim.Native.Nat.{ℕ, zero, suc, ◌<◌, ◌≤◌}
use native.Mathlib.Decide.{ℕ_discrete as dec_eq}
use native.Mathlib.Omega.{arith}
use borrow.Author.Tests.{eqb-true, eq-eqb}
use lib.Dec.{eqb, eqb-suc-zero}
use lib.IntN.{ℤ, negsuc, pos as posℤ}
use Rattle.general.specs.Booleans.{true_not_false, false_unless, and_true, and_intro, or_left, or-true, or_right}
use Rattle.general.specs.Search.{any}
use Rattle.literal.specs.declared.Literal.{Literal}
use Rattle.literal.specs.declared.Literal.TheVariants.{Pos, Neg}
use Rattle.literal.specs.Literal.{var}
use Rattle.theory.specs.Formula.{Clause, Formula, push, clauses}
use Rattle.theory.specs.Table.{ends_open, Accepted}
use Rattle.theory.specs.Mentions.{mentions, mentions_all, Mentioned, StandsIn, AllStand}
use Rattle.theory.proofs.Tables.{first_clause_lem, accepted_closed}

-- placement by placement ----------------------------------------------------------------------------------------------

pub mentioned_each : (n : ℕ) (t : List ℤ) → Mentioned n t → (p : ℕ) → 0 < p → p ≤ n → mentions t p ≡ true
unfolding mentions_all
mentioned_each zero t h p o b = absurd (omega arith)
mentioned_each (suc n) t h p o b =
    let k = and_true (mentions_all n t) (mentions t (suc n)) h in
    elim (dec_eq p (suc n)) [ yes e ↦ rw e k.1 | no e ↦ mentioned_each n t k.0 p o (omega arith) ]

pub each_mentioned : (n : ℕ) (t : List ℤ) → ((p : ℕ) → 0 < p → p ≤ n → mentions t p ≡ true) → Mentioned n t
unfolding mentions_all
each_mentioned zero t h = refl
each_mentioned (suc n) t h = and_intro (each_mentioned n t (λ p o b. h p o (omega arith))) (h (suc n) (omega arith) (omega arith))

-- one is enough that is not named
pub one_missing : (n : ℕ) (t : List ℤ) (p : ℕ) → 0 < p → p ≤ n → mentions t p ≡ false → mentions_all n t ≡ false
one_missing n t p o b e = false_unless (mentions_all n t) (λ h. true_not_false (mentioned_each n t h p o b) e)

-- groups --------------------------------------------------------------------------------------------------------------

-- in a formula with a literal more in its first clause
push_first : (l : Literal) (f g : Formula) (c : Clause) → f ≡ c ∷ g → StandsIn (push l f) (var l)
push_first l f g c e = rw e (record { clause = l ∷ c; literal = l; of_formula = Memᴰ.head refl; of_clause = Memᴰ.head refl; is = refl })

push_stands : (l : Literal) (f : Formula) (p : ℕ) → StandsIn f p → StandsIn (push l f) p
push_stands l [] p w = absurd (Memᴰ.not-nil w.of_formula)
push_stands l (c ∷ f) p w = ⊎_elim
    (λ (q : w.clause ≡ c). record { clause = l ∷ c; literal = w.literal; of_formula = Memᴰ.head refl; of_clause = Memᴰ.tail (rw q at w.of_clause); is = w.is })
    (λ m. record { clause = w.clause; literal = w.literal; of_formula = Memᴰ.tail m; of_clause = w.of_clause; is = w.is })
    (Memᴰ.cases_cons w.of_formula)

stands_push : (l : Literal) (f : Formula) (p : ℕ) → StandsIn (push l f) p → (var l ≡ p) ⊎ StandsIn f p
stands_push l [] p w = inr w
stands_push l (c ∷ f) p w = ⊎_elim
    (λ (q : w.clause ≡ l ∷ c). ⊎_elim
    (λ (e : w.literal ≡ l). inl (ap var (sym e) ∙ w.is))
    (λ m. inr (record { clause = c; literal = w.literal; of_formula = Memᴰ.head refl; of_clause = m; is = w.is }))
    (Memᴰ.cases_cons (rw q at w.of_clause)))
    (λ m. inr (record { clause = w.clause; literal = w.literal; of_formula = Memᴰ.tail m; of_clause = w.of_clause; is = w.is }))
    (Memᴰ.cases_cons w.of_formula)

-- and with an empty clause in front
skip_stands : (f : Formula) (p : ℕ) → StandsIn f p → StandsIn ([] ∷ f) p
skip_stands f p w = record { clause = w.clause; literal = w.literal; of_formula = Memᴰ.tail w.of_formula; of_clause = w.of_clause; is = w.is }

stands_skip : (f : Formula) (p : ℕ) → StandsIn ([] ∷ f) p → StandsIn f p
stands_skip f p w = ⊎_elim
    (λ (q : w.clause ≡ []). absurd (Memᴰ.not-nil (rw q at w.of_clause)))
    (λ m. record { clause = w.clause; literal = w.literal; of_formula = m; of_clause = w.of_clause; is = w.is })
    (Memᴰ.cases_cons w.of_formula)

-- tables --------------------------------------------------------------------------------------------------------------

-- b says whether the element before is an entry
mentions_stands : (b : Bool) (t : List ℤ) → ends_open b t ≡ false → (p : ℕ) → 0 < p → mentions t p ≡ true → StandsIn (clauses t) p
unfolding ends_open clauses any
mentions_stands b [] h p o e = absurd (true_not_false e refl)
mentions_stands b (posℤ zero ∷ t) h p o e = skip_stands (clauses t) p (mentions_stands false t h p o (⊎_elim (λ q. absurd (omega (arith, eqb-true 0 p q))) (λ q. q) (or-true (eqb 0 p) (mentions t p) e)))
mentions_stands b (posℤ (suc q) ∷ t) h p o e =
    let k = rw (eqb-suc-zero q) at h in
    let w = first_clause_lem t k in
    ⊎_elim (λ z. rw (← eqb-true (suc q) p z) (push_first (Pos (suc q)) (clauses t) w.1 w.0 w.2))
    (λ z. push_stands (Pos (suc q)) (clauses t) p (mentions_stands true t k p o z)) (or-true (eqb (suc q) p) (mentions t p) e)
mentions_stands b (negsuc q ∷ t) h p o e =
    let k = rw (eqb-suc-zero q) at h in
    let w = first_clause_lem t k in
    ⊎_elim (λ z. rw (← eqb-true (suc q) p z) (push_first (Neg (suc q)) (clauses t) w.1 w.0 w.2))
    (λ z. push_stands (Neg (suc q)) (clauses t) p (mentions_stands true t k p o z)) (or-true (eqb (suc q) p) (mentions t p) e)

stands_mentions : (t : List ℤ) (p : ℕ) → StandsIn (clauses t) p → mentions t p ≡ true
unfolding clauses any
stands_mentions [] p w = absurd (Memᴰ.not-nil w.of_formula)
stands_mentions (posℤ zero ∷ t) p w = or_right (eqb 0 p) (stands_mentions t p (stands_skip (clauses t) p w))
stands_mentions (posℤ (suc q) ∷ t) p w =
    ⊎_elim (λ z. or_left (mentions t p) (eq-eqb (suc q) p z)) (λ k. or_right (eqb (suc q) p) (stands_mentions t p k)) (stands_push (Pos (suc q)) (clauses t) p w)
stands_mentions (negsuc q ∷ t) p w =
    ⊎_elim (λ z. or_left (mentions t p) (eq-eqb (suc q) p z)) (λ k. or_right (eqb (suc q) p) (stands_mentions t p k)) (stands_push (Neg (suc q)) (clauses t) p w)

-- "every placement from 1 to n stands in a group of the table"
pub mentioned_exactly : (n : ℕ) (t : List ℤ) → Accepted n t → Mentioned n t ↔ AllStand n (clauses t)
mentioned_exactly n t a = (
  λ h p o b. mentions_stands false t (accepted_closed n t a) p o (mentioned_each n t h p o b),
  λ w. each_mentioned n t (λ p o b. stands_mentions t p (w p o b)),
)
