-- The list of all layouts: it has exactly the solutions, in order, and at most 2 ^ n of them; the first k layouts are its first k.
use mathlib.Core.Path.{◌≡◌, refl, ap, sym, ◌∙◌}
use mathlib.Core.Bool.{Bool, true, false}
use mathlib.Core.Logic.{⊎_elim, ◌↔◌}
use mathlib.Core.List.Memᴰ
use mathlib.Core.List.{List, [], ◌∷◌, map, Memᴰ}
use Prim.Native.Nat.{ℕ, zero, suc, ◌^◌, ◌≤◌, ◌<◌}
use native.Mathlib.Decide.{ℕ_discrete}
use native.Mathlib.Omega.{arith}
use native.Mathlib.Nat.{pow-suc}
use lib.ListN.{length, get_or, take, length-append, length-map}
use borrow.Author.Tests.{eqb-true, eq-eqb}
use Rattle.general.specs.Booleans.{and_true, and_intro}
use Rattle.general.specs.Lists.{mem_get_or, mem_index, mem_map, map_mem}
use Rattle.general.specs.Search.{mem_filter, filter_mem, filter_length}
use Rattle.theory.specs.Formula.{Formula, true_count, Satisfies, Choice, assignment, Solution}
use Rattle.theory.specs.Order.{◌≼◌, ◌≺◌, Least, Ascends, Firsts}
use Rattle.theory.specs.Layouts.{choices, meets, layouts}
use Rattle.theory.proofs.Order.{≼_refl, ≺-asym, ≺-cons, ≺_zero_one}
use Rattle.theory.proofs.Ascending.{ascends_at, ascends_append, ascends_filter, ascends_map, firsts_taken}

-- all choices ----------------------------------------------------------------------------------------------------

-- one placement more, with the value x for the first
abbrev side : ℕ → Bool → List Choice
side n x = map (◌∷◌ x) (choices n)

-- in order, each once
choices_ascend : (n : ℕ) → Ascends ◌≺◌ (choices n)
unfolding choices Ascends
choices_ascend zero = (λ c m. absurd (Memᴰ.not-nil m), tt)
choices_ascend (suc n) =
    let within : (x : Bool) → Ascends ◌≺◌ (side n x) = λ x. ascends_map ◌≺◌ ◌≺◌ (◌∷◌ x) (≺-cons x) (choices n) (choices_ascend n) in
    ascends_append ◌≺◌ (side n false) (side n true) (within false) (within true) across
  where
    across : (c d : Choice) → Memᴰ c (side n false) → Memᴰ d (side n true) → c ≺ d
    across c d i j = let v = map_mem (◌∷◌ false) (choices n) c i in let w = map_mem (◌∷◌ true) (choices n) d j in rw (v.2, w.2) (≺_zero_one v.0 w.0)

choices_long : (n : ℕ) (c : Choice) → Memᴰ c (choices n) → length c ≡ n
unfolding choices
choices_long zero c m = ap length (Memᴰ.eq_of_singleton m)
choices_long (suc n) c m = ⊎_elim (go (choices_long n) false) (go (choices_long n) true) (Memᴰ.append_cases (side n false) m)
  where
    go : ((d : Choice) → Memᴰ d (choices n) → length d ≡ n) → (x : Bool) → Memᴰ c (side n x) → length c ≡ suc n
    go ih x k = let w = map_mem (◌∷◌ x) (choices n) c k in ap length w.2 ∙ ap suc (ih w.0 w.1)

choices_all : (n : ℕ) (c : Choice) → length c ≡ n → Memᴰ c (choices n)
unfolding choices
choices_all zero [] e = Memᴰ.head refl
choices_all zero (x ∷ c) e = absurd (omega arith)
choices_all (suc n) [] e = absurd (omega arith)
choices_all (suc n) (false ∷ c) e = Memᴰ.append_left (side n true) (mem_map (◌∷◌ false) (choices n) c (choices_all n c (omega arith)))
choices_all (suc n) (true ∷ c) e = Memᴰ.append_right (side n false) (mem_map (◌∷◌ true) (choices n) c (choices_all n c (omega arith)))

-- 2 ^ n choices of n placements
length_choices : (n : ℕ) → length (choices n) ≡ 2 ^ n
unfolding choices
length_choices zero = refl
length_choices (suc n) =
    let each : (x : Bool) → length (side n x) ≡ length (choices n) = λ x. length-map (choices n) (◌∷◌ x) in
    omega (arith, length-append (side n false) (side n true), each false, each true, length_choices n, pow-suc 2 n)

-- those that meet the formula --------------------------------------------------------------------------------------

meets_satisfies : (f : Formula) (c : Choice) → meets f c ≡ true → Satisfies (assignment c) f
unfolding meets
meets_satisfies [] c e g m = absurd (Memᴰ.not-nil m)
meets_satisfies (h ∷ f) c e g m =
    let w = and_true _ (meets f c) e in
    ⊎_elim (λ q. ap (true_count (assignment c)) q ∙ eqb-true (true_count (assignment c) h) 1 w.0) (meets_satisfies f c w.1 g) (Memᴰ.cases_cons m)

satisfies_meets : (f : Formula) (c : Choice) → Satisfies (assignment c) f → meets f c ≡ true
unfolding meets
satisfies_meets [] c h = refl
satisfies_meets (g ∷ f) c h =
    and_intro (eq-eqb (true_count (assignment c) g) 1 (h g (Memᴰ.head refl))) (satisfies_meets f c (λ d m. h d (Memᴰ.tail m)))

-- the layouts listed are the solutions, all of them and nothing else
pub layouts_exactly : (n : ℕ) (f : Formula) (c : Choice) → Memᴰ c (layouts n f) ↔ Solution n f c
layouts_exactly n f c = (
  λ m. let w = filter_mem (meets f) (choices n) c m in record { long = choices_long n c w.0; satisfies = meets_satisfies f c w.1 },
  λ s. mem_filter (meets f) (choices n) c (choices_all n c s.long) (satisfies_meets f c s.satisfies),
)

-- they are listed in order, each once
pub layouts_ascend : (n : ℕ) (f : Formula) → Ascends ◌≺◌ (layouts n f)
layouts_ascend n f = ascends_filter ◌≺◌ (meets f) (choices n) (choices_ascend n)

-- at most one for each choice
pub layouts_most : (n : ℕ) (f : Formula) → length (layouts n f) ≤ 2 ^ n
layouts_most n f = omega (arith, filter_length (meets f) (choices n), length_choices n)

-- the first k solutions are the first k layouts listed
pub firsts_layouts : (n : ℕ) (f : Formula) (k : ℕ) (l : List Choice) → Firsts ◌≺◌ (Solution n f) k l → l ≡ take k (layouts n f)
firsts_layouts n f k l w = firsts_taken ≺-asym w (layouts_ascend n f) (layouts_exactly n f)

-- the first of them is the least
pub layouts_first : (n : ℕ) (f : Formula) (d : Choice) → 0 < length (layouts n f) → Least ◌≼◌ (Solution n f) (get_or (layouts n f) 0 d)
layouts_first n f d h = record { member = (layouts_exactly n f (get_or (layouts n f) 0 d)).0 (mem_get_or (layouts n f) 0 d h); least = before }
  where
    before : (c : Choice) → Solution n f c → get_or (layouts n f) 0 d ≼ c
    before c s =
        let w = mem_index (layouts n f) c d ((layouts_exactly n f c).1 s) in
        elim (ℕ_discrete w.0 0) [
          | yes e ↦ let same : get_or (layouts n f) 0 d ≡ c = ap (λ (i : ℕ). get_or (layouts n f) i d) (sym e) ∙ w.2 in rw same (≼_refl c)
          | no e ↦ rw (← w.2) (ascends_at ◌≺◌ (layouts n f) (layouts_ascend n f) 0 w.0 (omega arith) w.1 d).0
        ]
