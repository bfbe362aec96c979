-- Rules 4 and 5 for one variable in one clause: the steps that they ask, and how often the variable stands after them.
use mathlib.Core.Path.{◌≡◌, refl, ap, sym, ◌∙◌}
use mathlib.Core.Logic.{◌⊎◌, inl, ⊎_elim}
use mathlib.Core.List.{[], ◌∷◌, Memᴰ}
use Prim.Native.Nat.{ℕ, ◌<◌, ◌≤◌}
use native.Mathlib.Decide.{dec_lt}
use native.Mathlib.Omega.{arith}
use borrow.Author.Tests.{eq-eqb, lt-ltb, le-ltb}
use Rattle.general.specs.Booleans.{bit}
use Rattle.general.specs.Counting.{count}
use Rattle.literal.specs.declared.Literal.{Literal}
use Rattle.literal.specs.Literal.{FALSE, var, opposite}
use Rattle.theory.specs.Formula.{Clause, Formula}
use Rattle.theory.specs.State.{State, value, replace, assign, standing}
use Rattle.theory.specs.Rules.{occurs}
use Rattle.theory.proofs.Literals.{var_opposite}
use Rattle.theory.proofs.States.{replace_other}
use Rattle.theory.proofs.Clauses.{standing_mem}
use Rattle.theory.proofs.Asks.{by_one, stands_twice, opposites}
use Rattle.theory.proofs.Stepped.{mem_after}
use Rattle.theory.proofs.Counts.{open_count, mentions}
use Rattle.theory.proofs.Recounts.{mentions_kept}
use Rattle.theory.proofs.Falls.{AsksFalse, Falls, still, falls}
use Rattle.moves.specs.Deciding.{Clearing, cleared, clears}

-- rule 4
pub twice_false : {f : Formula} {s : State} (c : Clause) → Memᴰ c f → (x : Literal) → 0 < var x → 2 ≤ occurs x (standing s c) → AsksFalse f s x
twice_false c m x o h = inl (by_one c m (stands_twice h o))

-- rule 5: while others are cleared, y and its opposite stay
module _ {f : Formula} (c : Clause) (mc : Memᴰ c f) (y : Literal) (opened : 0 < var y) where
  stays : (s : State) (x : Literal) → (var x ≡ var y → ⊥) → (k : Literal) → var k ≡ var y → Memᴰ k (standing s c) → Memᴰ k (standing (assign x FALSE s) c)
  stays s x n k e m =
      let q : replace x FALSE k ≡ k = replace_other x FALSE k (λ i. n (sym i ∙ e)) in
      rw q at (mem_after s x FALSE c k m (λ z. omega (arith, ap var (sym q ∙ z))))

  pub opposites_fall : {s u : State} → Memᴰ y (standing s c) → Memᴰ (opposite y) (standing s c) → Clearing c (var y) s u → Falls f s u
  opposites_fall my mo cleared = still
  opposites_fall {s} my mo (clears x m o n r) =
      falls x (inl (by_one c mc (opposites y my mo m o n))) (opposites_fall (stays s x n y refl my) (stays s x n (opposite y) (var_opposite y) mo) r)

-- clearing keeps the variable that it passes over
pub clearing_mentions : {c : Clause} {w : ℕ} {s u : State} → 0 < w → Clearing c w s u → (d : Clause) → mentions w (standing u d) ≡ mentions w (standing s d)
clearing_mentions o cleared d = refl
clearing_mentions {w = w} {s = s} i (clears x m o n r) d = clearing_mentions i r d ∙ mentions_kept s x FALSE o w i (λ e. n (sym e)) (λ e. omega arith) d

-- where only variable w is open
opens_mentions : (w : ℕ) (d : Clause) → ((l : Literal) → Memᴰ l d → 0 < var l → var l ≡ w) → open_count d ≤ mentions w d
unfolding count
opens_mentions w [] h = omega arith
opens_mentions w (l ∷ d) h =
    let ih = opens_mentions w d (λ k m. h k (Memᴰ.tail m)) in
    elim (dec_lt 0 (var l)) [
      | yes o ↦ omega (arith, ap bit (lt-ltb 0 (var l) o), ap bit (eq-eqb (var l) w (h l (Memᴰ.head refl) o)))
      | no o ↦ omega (arith, ap bit (le-ltb 0 (var l) (omega arith)))
    ]

pub only_mentions : (s : State) (c : Clause) (w : ℕ) → ((x : Literal) → Memᴰ x c → (var (value s x) ≡ 0) ⊎ (var (value s x) ≡ w)) → open_count (standing s c) ≤ mentions w (standing s c)
only_mentions s c w h = opens_mentions w (standing s c) (λ l m o.
    let k = standing_mem s c l m in
    ⊎_elim (λ e. absurd (omega (arith, ap var k.valued))) (λ e. sym (ap var k.valued) ∙ e) (h k.written k.member))
