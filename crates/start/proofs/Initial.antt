-- Clauses in the initial state: each stands as it is written, and all of its literals are open.
use mathlib.Core.Path.{◌≡◌, refl, ap, sym, ◌∙◌}
use mathlib.Core.List.{[], ◌∷◌, Memᴰ}
use Prim.Native.Nat.{ℕ, ◌+◌, ◌<◌, ◌≤◌}
use native.Mathlib.Omega.{arith}
use lib.ListN.{length}
use borrow.Author.Tests.{lt-ltb}
use Rattle.general.specs.Booleans.{bit}
use Rattle.general.specs.Counting.{count}
use Rattle.literal.specs.declared.Literal.{Literal}
use Rattle.literal.specs.declared.Literal.TheVariants.{Pos, Neg}
use Rattle.literal.specs.Literal.{TRUE, var}
use Rattle.theory.specs.Formula.{Clause}
use Rattle.theory.specs.State.{initial, value, standing}
use Rattle.theory.proofs.Literals.{same_ne}
use Rattle.theory.proofs.Clauses.{standing_mem, stand_ind}
use Rattle.theory.proofs.Counts.{mentions, of_variable}
use Rattle.tally.specs.Counts.{trues_of, opens_of}

pub value_initial : (l : Literal) → value initial l ≡ l
value_initial (Pos p) = refl
value_initial (Neg p) = refl

-- what stands is written
pub standing_initial : (c : Clause) (l : Literal) → Memᴰ l (standing initial c) → Memᴰ l c
standing_initial c l m = let w = standing_mem initial c l m in rw (sym (value_initial w.written) ∙ w.valued) at w.member

abbrev pub Opens : Clause → Type 0
Opens c = (l : Literal) → Memᴰ l c → 0 < var l

pub opens_initial : (c : Clause) → Opens c → opens_of initial c ≡ length c
unfolding opens_of
opens_initial [] o = refl
opens_initial (l ∷ c) o = rw (value_initial l, lt-ltb 0 (var l) (o l (Memᴰ.head refl)), opens_initial c (λ k m. o k (Memᴰ.tail m))) (omega arith)

pub trues_initial : (c : Clause) → Opens c → trues_of initial c ≡ 0
unfolding trues_of
trues_initial [] o = refl
trues_initial (l ∷ c) o =
    rw (value_initial l, same_ne l TRUE (λ e. omega (arith, o l (Memᴰ.head refl), ap var e)), trues_initial c (λ k m. o k (Memᴰ.tail m)))

pub standing_empty : (c : Clause) → length c ≡ 0 → standing initial c ≡ []
unfolding standing
standing_empty [] h = refl
standing_empty (l ∷ c) h = absurd (omega arith)

-- no variable stands more often than it is written
pub mentions_initial : (p : ℕ) (c : Clause) → mentions p (standing initial c) ≤ mentions p c
unfolding standing count
mentions_initial p [] = omega arith
mentions_initial p (l ∷ c) =
    let ih = mentions_initial p c in
    rw (value_initial l) (stand_ind (λ k d. mentions p d ≤ bit (of_variable p k) + mentions p c) (standing initial c) (omega (arith, ih)) (λ k n. omega (arith, ih)) l)
