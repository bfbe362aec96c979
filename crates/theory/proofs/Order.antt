-- A choice comes before another by what they say where they first differ; the order of choices is transitive, and no two come before each other.
use mathlib.Core.Path.{◌≡◌, refl, ap, ◌∙◌}
use mathlib.Core.Bool.{Bool, true, false}
use mathlib.Core.List.{[], ◌∷◌}
use Prim.Native.Nat.{ℕ, zero, suc, ◌≤◌, ◌<◌}
use native.Mathlib.Omega.{arith}
use lib.ListN.{length, get_or}
use Rattle.general.specs.Booleans.{true_not_false}
use Rattle.general.specs.Lists.{up_to, get_or_from}
use Rattle.theory.specs.Formula.{Choice, assignment}
use Rattle.theory.specs.Order.{◌≼◌, ◌≺◌}

pub assignment_up_to : (g : ℕ → Bool) (n p : ℕ) → 0 < p → p ≤ n → assignment (up_to g n) p ≡ g p
assignment_up_to g n zero h k = absurd (omega arith)
assignment_up_to g n (suc i) h k = get_or_from g 1 n i false (omega arith) ∙ ap g (omega arith)

-- by indices from 0
first_difference : (c d : Choice) → length c ≡ length d →
    ((i : ℕ) → i < length c → ((j : ℕ) → j < i → get_or c j false ≡ get_or d j false) → get_or c i false ≡ true → get_or d i false ≡ true) → c ≼ d
unfolding ◌≼◌
first_difference [] d e h = tt
first_difference (x ∷ c) [] e h = absurd (omega arith)
first_difference (x ∷ c) (y ∷ d) e h = go x y (h 0 (omega arith) (λ j l. absurd (omega arith))) (λ q. first_difference c d (omega arith) (below q))
  where
    below : x ≡ y → (i : ℕ) → i < length c → ((j : ℕ) → j < i → get_or c j false ≡ get_or d j false) → get_or c i false ≡ true → get_or d i false ≡ true
    below q i l agree = h (suc i) (omega arith) upto
      where
        upto : (j : ℕ) → j < suc i → get_or (x ∷ c) j false ≡ get_or (y ∷ d) j false
        upto zero m = q
        upto (suc j) m = agree j (omega arith)

    go : (x y : Bool) → (x ≡ true → y ≡ true) → (x ≡ y → c ≼ d) → (x ∷ c) ≼ (y ∷ d)
    go false false f r = r refl
    go false true f r = tt
    go true false f r = absurd (true_not_false (f refl) refl)
    go true true f r = r refl

-- wherever they agree before p and c has 1 at p, d has 1 there too
pub ≼-by : (n : ℕ) (c d : Choice) → length c ≡ n → length d ≡ n →
    ((p : ℕ) → 0 < p → p ≤ n → ((q : ℕ) → q < p → assignment c q ≡ assignment d q) → assignment c p ≡ true → assignment d p ≡ true) → c ≼ d
≼-by n c d e f h = first_difference c d (omega arith) (λ i l agree. h (suc i) (omega arith) (omega arith) (before i agree))
  where
    before : (i : ℕ) → ((j : ℕ) → j < i → get_or c j false ≡ get_or d j false) → (q : ℕ) → q < suc i → assignment c q ≡ assignment d q
    before i agree zero l = refl
    before i agree (suc j) l = agree j (omega arith)

pub ≼_trans : (b c d : Choice) → b ≼ c → c ≼ d → b ≼ d
unfolding ◌≼◌
≼_trans [] c d h k = tt
≼_trans (x ∷ b) [] d h k = absurd h
≼_trans (x ∷ b) (y ∷ c) [] h k = absurd k
≼_trans (false ∷ b) (false ∷ c) (false ∷ d) h k = ≼_trans b c d h k
≼_trans (false ∷ b) (false ∷ c) (true ∷ d) h k = tt
≼_trans (false ∷ b) (true ∷ c) (false ∷ d) h k = absurd k
≼_trans (false ∷ b) (true ∷ c) (true ∷ d) h k = tt
≼_trans (true ∷ b) (false ∷ c) (z ∷ d) h k = absurd h
≼_trans (true ∷ b) (true ∷ c) (false ∷ d) h k = absurd k
≼_trans (true ∷ b) (true ∷ c) (true ∷ d) h k = ≼_trans b c d h k

pub ≼_refl : (c : Choice) → c ≼ c
unfolding ◌≼◌
≼_refl [] = tt
≼_refl (false ∷ c) = ≼_refl c
≼_refl (true ∷ c) = ≼_refl c

-- where each is the other or comes before it, they are the same
pub ≼-antisym : (c d : Choice) → c ≼ d → d ≼ c → c ≡ d
unfolding ◌≼◌
≼-antisym [] [] h k = refl
≼-antisym [] (y ∷ d) h k = absurd k
≼-antisym (x ∷ c) [] h k = absurd h
≼-antisym (false ∷ c) (false ∷ d) h k = ap (◌∷◌ false) (≼-antisym c d h k)
≼-antisym (false ∷ c) (true ∷ d) h k = absurd k
≼-antisym (true ∷ c) (false ∷ d) h k = absurd h
≼-antisym (true ∷ c) (true ∷ d) h k = ap (◌∷◌ true) (≼-antisym c d h k)

-- of two choices at most one comes before the other
pub ≺-asym : (c d : Choice) → c ≺ d → ¬ (d ≺ c)
≺-asym c d h k = h.1 (≼-antisym c d h.0 k.0)

-- the same in front of both
pub ≺-cons : (b : Bool) (c d : Choice) → c ≺ d → (b ∷ c) ≺ (b ∷ d)
unfolding ◌≼◌
≺-cons false c d h = (h.0, λ e. h.1 cc)
≺-cons true c d h = (h.0, λ e. h.1 cc)

-- "0 before 1"
pub ≺_zero_one : (c d : Choice) → (false ∷ c) ≺ (true ∷ d)
unfolding ◌≼◌
≺_zero_one c d = (tt, λ e. let q : ◌≡◌ {A = Bool} false true = cc in true_not_false q refl)
