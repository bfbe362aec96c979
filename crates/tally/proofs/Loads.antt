-- Sums over the open variables, where one of them becomes a constant.
use mathlib.Core.Path.{◌≡◌, refl, sym}
use mathlib.Core.List.{List}
use Prim.Native.Nat.{ℕ, zero, suc, ◌+◌, ◌≤◌, ◌<◌}
use native.Mathlib.Decide.{ℕ_discrete as dec_eq}
use native.Mathlib.Omega.{arith}
use borrow.Author.Tests.{lt-ltb, le-ltb}
use lib.ListN.{get_or, set, length}
use lib.Seq.{get_or-set_same, get_or-set_other}
use Rattle.tally.specs.Counts.{load}

module _ (w : ℕ → ℕ) (v : List ℕ) (p to : ℕ) (inside : p < length v) where
  load_below : (n : ℕ) → n ≤ p → load w (set v p to) n ≡ load w v n
  unfolding load
  load_below zero h = refl
  load_below (suc n) h = rw (get_or-set_other v p n to 0 (λ q. omega arith), load_below n (omega arith))

  pub load_set : to < 2 → 1 < get_or v p 0 → (n : ℕ) → p < n → load w (set v p to) n + w p ≡ load w v n
  unfolding load
  load_set small opened zero h = absurd (omega arith)
  load_set small opened (suc n) h = go (load_set small opened n) (dec_eq p n)
    where
      go : (p < n → load w (set v p to) n + w p ≡ load w v n) → Dec (p ≡ n) → load w (set v p to) (suc n) + w p ≡ load w v (suc n)
      go ih (yes e) =
          rw (← e, get_or-set_same v p to 0 inside, le-ltb 1 to (omega arith), lt-ltb 1 (get_or v p 0) opened, load_below p (omega arith)) (omega arith)
      go ih (no e) = rw (get_or-set_other v p n to 0 (λ q. e (sym q)), ← ih (omega arith)) (omega arith)
