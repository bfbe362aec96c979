-- Two clauses of a table cross by a variable that occurs with both signs; the list of those.
use mathlib.Core.Path.{◌≡◌, refl, ap, sym, subst, ◌∙◌}
use mathlib.Core.Logic.{◌≢◌}
use mathlib.Core.List.{List, Memᴰ}
use Prim.Native.Nat.{ℕ, ◌+◌, ◌*◌, ◌%◌, ◌≤◌, ◌<◌}
use native.Mathlib.Decide.{dec_lt, ℕ_discrete as dec_eq}
use native.Mathlib.Omega.{arith}
use lib.ListN.{length}
use Rattle.literal.specs.declared.Literal.TheVariants.{Pos, Neg}
use Rattle.literal.specs.Literal.{literal_at, max_variables}
use Rattle.literal.proofs.Codes.{literal_at_code_of}
use Rattle.theory.specs.Formula.{Clause}
use Rattle.occurrences.specs.Index.{Indexed, clause_count, clause_of, formula_of, first_at, occurrence_at}
use Rattle.occurrences.proofs.Formulas.{formula_mem}
use Rattle.notes.specs.Notes.{block_at, with_block, with_blocks_end, max_blocks}
use Rattle.notes.proofs.Blocks.{block_there, block_kept}
use Rattle.gather.proofs.Placed.{literal_placed}
use Rattle.start.specs.Signs.{Signed, BothSigns, signs_block, ListedBelow, Listing}
use Rattle.occurrences.specs.declared.Index.{Index}
use Rattle.notes.specs.declared.Notes.{Notes}

-- two occurrences of different signs, and none
module _ (ix : Index) (p : ℕ) where
  pub signs_differ : (i j : ℕ) → first_at ix p ≤ i → i < first_at ix (p + 1) → first_at ix p ≤ j → j < first_at ix (p + 1) →
      occurrence_at ix i % 2 ≢ occurrence_at ix j % 2 → BothSigns ix p
  signs_differ i j a b c d n = elim (dec_eq (occurrence_at ix i % 2) 0) [
    | yes e ↦ record { plus = (i, a, b, e); minus = (j, c, d, omega arith) }
    | no e ↦ record { plus = (j, c, d, omega arith); minus = (i, a, b, omega arith) }
  ]

  pub signs_alike : (sign : ℕ) → ((k : ℕ) → first_at ix p ≤ k → k < first_at ix (p + 1) → occurrence_at ix k % 2 ≡ sign) → ¬ BothSigns ix p
  signs_alike sign same b = let i = b.plus in let j = b.minus in omega (arith, i.3, j.3, same i.0 i.1 i.2, same j.0 j.1 j.2)

module _ {ix : Index} (index : Indexed ix) where
  -- a literal that is written occurs with its sign
  written_signed : (p g k : ℕ) → p ≤ max_variables → g < clause_count ix → k < 2 → Memᴰ (literal_at (2 * p + k)) (clause_of ix g) → Signed ix p k
  written_signed p g k h i b m = let j = literal_placed index p g k h i b m in (j.0, j.1, j.2, omega (arith, j.3))

  signed_plus : (p g : ℕ) → p ≤ max_variables → g < clause_count ix → Memᴰ (Pos p) (clause_of ix g) → Signed ix p 0
  signed_plus p g h i m = let e : 2 * p + 0 ≡ 2 * p = omega arith in written_signed p g 0 h i (omega arith) (rw (e, literal_at_code_of (Pos p)) m)

  signed_minus : (p g : ℕ) → p ≤ max_variables → g < clause_count ix → Memᴰ (Neg p) (clause_of ix g) → Signed ix p 1
  signed_minus p g h i m = written_signed p g 1 h i (omega arith) (rw (literal_at_code_of (Neg p)) m)

  -- so where two clauses cross at the start they do by a variable with both signs
  pub signs_both : {g h : Clause} → Memᴰ g (formula_of ix) → Memᴰ h (formula_of ix) → (p : ℕ) → p ≤ max_variables → Memᴰ (Pos p) g → Memᴰ (Neg p) h → BothSigns ix p
  signs_both mg mh p low ig ih =
      let g = formula_mem ix mg in
      let h = formula_mem ix mh in
      record { plus = signed_plus p g.0 low g.1 (rw g.2 at ig); minus = signed_minus p h.0 low h.1 (rw h.2 at ih) }

-- the list -----------------------------------------------------------------------------------------------------------

pub listed_begins : {ix : Index} (w : Notes) → ListedBelow ix (with_blocks_end 0 w) 1
listed_begins w = record {
  listed = λ p o h s. absurd (omega arith);
  inside = λ i h. absurd (omega arith);
  few = omega arith;
}

module _ {ix : Index} (w : Notes) {end n : ℕ} (b : ListedBelow ix (with_blocks_end end w) n) where
  -- one that has not both signs need not be listed
  pub listed_past : (¬ BothSigns ix n) → ListedBelow ix (with_blocks_end end w) (n + 1)
  listed_past unlike = record {
    listed = λ p o h s. elim (dec_eq p n) [
      | yes e ↦ absurd (unlike (rw e at s))
      | no e ↦ b.listed p o (omega arith) s
    ];
    inside = λ i h. let k = b.inside i h in (k.0, omega (arith, k.1), k.2);
    few = omega (arith, b.few);
  }

  listed_goes : n ≤ max_variables → length w.blocks ≡ max_blocks → ListedBelow ix (with_blocks_end (end + 1) (with_block end (signs_block n) w)) (n + 1)
  listed_goes low long = record {
    listed = λ p q h s. elim (dec_eq p n) [
      | yes e ↦ (end, omega arith, last ∙ ap signs_block (sym e))
      | no e ↦ let k = b.listed p q (omega arith) s in (k.0, omega (arith, k.1), kept k.0 k.1 ∙ k.2)
    ];
    inside = λ i h. elim (dec_lt i end) [
      | yes l ↦ let k = b.inside i l in (k.0, omega (arith, k.1), kept i l ∙ k.2)
      | no l ↦ (n, omega arith, let e : i ≡ end = omega arith in rw e last)
    ];
    few = omega (arith, b.few);
  }
    where
      kept : (i : ℕ) → i < end → block_at (with_block end (signs_block n) w) i ≡ block_at w i
      kept i h = block_kept w end (signs_block n) i (λ q. omega arith)

      last : block_at (with_block end (signs_block n) w) end ≡ signs_block n
      last = block_there w end (signs_block n) (omega (arith, b.few))

-- no turn changes what is noted
module _ {ix : Index} where
  pub listing_none : {wk : Notes} {end n : ℕ} → ListedBelow ix (with_blocks_end end wk) n → Listing ix wk wk end n
  listing_none b = record { todo = refl; todo_end = refl; below = b }

  pub listing_one : {wk wk' : Notes} {end n : ℕ} → length wk.blocks ≡ max_blocks → n ≤ max_variables → ListedBelow ix (with_blocks_end end wk) n →
      wk' ≡ with_block end (signs_block n) wk → Listing ix wk wk' (end + 1) (n + 1)
  listing_one {wk} {end = end} {n = n} long h b e = record {
    todo = ap (λ (k : Notes). k.todo) e;
    todo_end = ap (λ (k : Notes). k.todo_end) e;
    below = subst (λ (k : Notes). ListedBelow ix (with_blocks_end (end + 1) k) (n + 1)) (sym e) (listed_goes wk b h long);
  }

  pub listing_goes : {wk wk' wk'' : Notes} {end n more m : ℕ} → Listing ix wk wk' end n → Listing ix wk' wk'' more m → Listing ix wk wk'' more m
  listing_goes a b = record { todo = b.todo ∙ a.todo; todo_end = b.todo_end ∙ a.todo_end; below = b.below }

  pub listing_ends : {wk wk' wk'' : Notes} {end n : ℕ} → Listing ix wk wk' end n → wk'' ≡ with_blocks_end end wk' →
      Listing ix wk wk'' wk''.blocks_end n
  listing_ends {n = n} a e = record {
    todo = ap (λ (k : Notes). k.todo) e ∙ a.todo;
    todo_end = ap (λ (k : Notes). k.todo_end) e ∙ a.todo_end;
    below = subst (λ (k : Notes). ListedBelow ix k n) (sym e) a.below;
  }
