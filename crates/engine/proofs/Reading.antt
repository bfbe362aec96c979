-- Reading the open literals of a clause: a walk from place to place.
use mathlib.Core.Path.{◌≡◌, refl, ap, sym, ◌∙◌}
use mathlib.Core.Logic.{⊎_elim}
use mathlib.Core.List.{List, ◌∷◌, Memᴰ}
use Prim.Native.Nat.{ℕ, suc, ◌+◌, ◌-◌, ◌/◌, ◌≤◌, ◌<◌}
use native.Mathlib.Numerals.{add-one}
use native.Mathlib.Omega.{arith}
use native.Mathlib.Decide.{dec_lt}
use Rattle.general.specs.Counting.{count}
use Rattle.general.specs.Lists.{from}
use Rattle.literal.specs.declared.Literal.{Literal}
use Rattle.literal.specs.Literal.{TRUE, FALSE, var, code_of, max_variables, codes, max_table}
use Rattle.literal.proofs.Codes.{var_at, var_code}
use Rattle.theory.specs.State.{value, stand, standing}
use Rattle.theory.proofs.Literals.{constant, same_ne}
use Rattle.theory.proofs.Clauses.{mem_occurs}
use Rattle.occurrences.specs.Index.{clause_count, code_at, start_at}
use Rattle.tally.specs.Tally.{state_in, value_in}
use Rattle.moves.specs.Sound.{Sound}
use Rattle.theory.proofs.States.{value_variable}
use Rattle.gather.proofs.Written.{stands_for}
use Rattle.engine.specs.Reading.{Legible, written, rest, Opens, FirstOpen, OpenCode}
use Rattle.occurrences.specs.declared.Index.{Index}
use Rattle.tally.specs.declared.Tally.{Tally}
use Rattle.notes.specs.declared.Notes.{Notes}

pub legible : {ix : Index} {st : Tally} {wk : Notes} → Sound ix st wk → Legible ix st
legible s = record { index = s.index; exact = s.exact; classes = s.classes }

-- the code of what stands at a place of a clause, where that is open, is of an open root
module _ {ix : Index} {st : Tally} (k : Legible ix st) (g : ℕ) (inside : g < clause_count ix) (i : ℕ) (begins : start_at ix g ≤ i) (before : i < start_at ix (g + 1) - 1) where
  pub place_low : i < max_table
  place_low = omega (arith, k.index.stops (g + 1) (omega arith))

  pub code_known : code_at ix i < codes
  code_known = (k.index.known g i inside begins before).1

  pub open_code : (x : ℕ) → x ≡ code_of (value (state_in st) (written ix i)) → 0 < var (value (state_in st) (written ix i)) → OpenCode st x
  open_code x e o =
      let l : Literal = written ix i in
      let b : var l ≤ max_variables = omega (arith, var_at (code_at ix i), code_known) in
      let c = var_code (value (state_in st) l) in
      let h : x / 2 ≡ value_in st (var l) / 2 = ap (λ (j : ℕ). j / 2) e ∙ sym c ∙ value_variable (state_in st) l ∙ stands_for st.values (var l) b in
      record { opened = omega arith; below = omega (arith, k.classes.range (var l) b); root = rw h (k.classes.rooted (var l) b) }

-- the walk to the next open literal ------------------------------------------------------------------------------------

module _ {ix : Index} {st : Tally} {g i : ℕ} (o : Opens ix st g i) where
  -- where something is open the clause has not ended
  pub opens_before : i < start_at ix (g + 1) - 1
  unfolding standing count from
  opens_before = elim (dec_lt i (start_at ix (g + 1) - 1)) [
    | yes h ↦ h
    | no h ↦ let z : start_at ix (g + 1) - 1 - i ≡ 0 = omega arith in absurd (omega (arith, rw z at o.some_open))
  ]

  stands_here : standing (state_in st) (rest ix g i) ≡ stand (value (state_in st) (written ix i)) (standing (state_in st) (rest ix g (i + 1)))
  unfolding standing from
  stands_here = let e : start_at ix (g + 1) - 1 - i ≡ suc (start_at ix (g + 1) - 1 - (i + 1)) = omega (arith, opens_before) in rw (e, add-one i)

  stands_open : 0 < var (value (state_in st) (written ix i)) → standing (state_in st) (rest ix g i) ≡ value (state_in st) (written ix i) ∷ standing (state_in st) (rest ix g (i + 1))
  stands_open h = stands_here ∙ rw (same_ne (value (state_in st) (written ix i)) FALSE (λ e. omega (arith, ap var e)))

  -- with none true, what is not open is false, and does not stand
  stands_later : var (value (state_in st) (written ix i)) ≡ 0 → standing (state_in st) (rest ix g i) ≡ standing (state_in st) (rest ix g (i + 1))
  stands_later z = stands_here ∙ ⊎_elim
      (λ (e : value (state_in st) (written ix i) ≡ TRUE).
      let m : Memᴰ TRUE (standing (state_in st) (rest ix g i)) = rw (stands_here, e) (mathlib.Core.List.Memᴰ.head refl) in
      absurd (omega (arith, o.none_true, mem_occurs (standing (state_in st) (rest ix g i)) TRUE m)))
      (λ (e : value (state_in st) (written ix i) ≡ FALSE). rw e)
      (constant (value (state_in st) (written ix i)) z)

-- nothing open stands from place i on to place j
pub record Walk (ix : Index) (st : Tally) (g i j : ℕ) : Type 0 where
  pub begins : i ≤ j
  pub before : j < start_at ix (g + 1) - 1
  pub left : Opens ix st g j
  pub same : standing (state_in st) (rest ix g i) ≡ standing (state_in st) (rest ix g j)

pub walk_begins : {ix : Index} {st : Tally} {g i : ℕ} → Opens ix st g i → Walk ix st g i i
walk_begins o = record { begins = omega arith; before = opens_before o; left = o; same = refl }

module _ {ix : Index} {st : Tally} {g i j : ℕ} (w : Walk ix st g i j) (x : ℕ) (is : x ≡ code_of (value (state_in st) (written ix j))) where
  var_is : x / 2 ≡ var (value (state_in st) (written ix j))
  var_is = ap (λ (k : ℕ). k / 2) is ∙ sym (var_code (value (state_in st) (written ix j)))

  pub walk_goes : x < 2 → Walk ix st g i (j + 1)
  walk_goes h =
      let o = w.left in
      let e = stands_later o (omega (arith, var_is)) in
      let left : Opens ix st g (j + 1) = record {
        legible = o.legible;
        inside = o.inside;
        begins = omega (arith, o.begins);
        none_true = rw e at o.none_true;
        some_open = rw e at o.some_open;
      } in
      record { begins = omega (arith, w.begins); before = opens_before left; left = left; same = w.same ∙ e }

  pub walk_ends : 2 ≤ x → FirstOpen ix st g i j
  walk_ends h =
      let o : 0 < var (value (state_in st) (written ix j)) = omega (arith, var_is) in
      record { begins = w.begins; before = w.before; opened = o; splits = w.same ∙ stands_open w.left o }
