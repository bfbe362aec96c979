-- Gathering the wide clauses of one variable: what holds at the loop's head, at the start, after a turn and at the end.
use mathlib.Core.Path.{◌≡◌, refl, ap, ◌∙◌}
use mathlib.Core.Bool.{Bool, true, ◌&&◌}
use mathlib.Core.Logic.{◌≢◌}
use mathlib.Core.List.{List}
use Prim.Native.Nat.{ℕ, ◌+◌, ◌/◌, ◌%◌, ◌≤◌, ◌<◌}
use native.Mathlib.Decide.{ℕ_discrete as dec_eq}
use native.Mathlib.Omega.{arith}
use mir.Val.{bool_byte}
use lib.ListN.{get_or, set, length}
use lib.Seq.{get_or-set_same, get_or-set_other}
use Rattle.general.specs.Bits.{bit_le}
use Rattle.general.specs.Booleans.{bit, byte_bit, and_intro}
use Rattle.occurrences.specs.Index.{clause_count, occurrences}
use Rattle.occurrences.proofs.Slices.{occurrences_long, occurrence_known}
use Rattle.tally.specs.Tally.{count_in}
use Rattle.notes.specs.Notes.{with_gathered, Gathered, max_gathered}
use Rattle.gather.specs.declared.Sign.{Sign}
use Rattle.gather.specs.Gathering.{is_wide, is_signed, Beside, Collecting, Collected}
use Rattle.gather.proofs.Waits.{Waits, waits_goes, waits_ends, waits_begins}
use Rattle.occurrences.specs.declared.Index.{Index}
use Rattle.tally.specs.declared.Tally.{Tally}
use Rattle.notes.specs.declared.Notes.{Notes}

-- a clause is put at place `end` ---------------------------------------------------------------------------------

module _ (wk wk' : Notes) (end x : ℕ) (put : wk' ≡ with_gathered end x wk) where
  gathered_put : wk'.gathered ≡ set wk.gathered end x
  gathered_put = ap (λ (w : Notes). w.gathered) put

  pub put_other : (i : ℕ) → i ≢ end → get_or wk'.gathered i 0 ≡ get_or wk.gathered i 0
  put_other i n = rw gathered_put (get_or-set_other wk.gathered end i x 0 n)

  pub put_there : length wk.gathered ≡ max_gathered → end < max_gathered → get_or wk'.gathered end 0 ≡ x
  put_there long h = rw gathered_put (get_or-set_same wk.gathered end x 0 (omega arith))

  pub put_beside : {wk₀ : Notes} → Beside wk₀ wk → Beside wk₀ wk'
  put_beside b = record {
    todo = ap (λ (n : Notes). n.todo) put ∙ b.todo;
    todo_end = ap (λ (n : Notes). n.todo_end) put ∙ b.todo_end;
    blocks = ap (λ (n : Notes). n.blocks) put ∙ b.blocks;
    blocks_end = ap (λ (n : Notes). n.blocks_end) put ∙ b.blocks_end;
  }

pub beside_refl : {wk : Notes} → Beside wk wk
beside_refl = record { todo = refl; todo_end = refl; blocks = refl; blocks_end = refl }

pub beside_trans : {wk wk' wk'' : Notes} → Beside wk wk' → Beside wk' wk'' → Beside wk wk''
beside_trans a b = record {
  todo = b.todo ∙ a.todo;
  todo_end = b.todo_end ∙ a.todo_end;
  blocks = b.blocks ∙ a.blocks;
  blocks_end = b.blocks_end ∙ a.blocks_end;
}

-- the walk --------------------------------------------------------------------------------------------------------

pub record Collects (ix : Index) (st : Tally) (wk : Notes) (start : ℕ) (s : Sign) (os : List ℕ) (wk' : Notes) (end j : ℕ) : Type 0 where
  pub waits : Waits ix st (λ k. is_signed s k ≡ true) (Gathered wk' start end) os j
  pub reached : j ≤ length os
  pub grew : start ≤ end
  pub paid : end ≤ start + j
  pub beside : Beside wk wk'
  pub kept : (i : ℕ) → i < start → get_or wk'.gathered i 0 ≡ get_or wk.gathered i 0
  pub beyond : (i : ℕ) → start + length os ≤ i → get_or wk'.gathered i 0 ≡ get_or wk.gathered i 0
  pub inside : (i : ℕ) → start ≤ i → i < end → get_or wk'.gathered i 0 < clause_count ix

pub collects_begins : {ix : Index} {st : Tally} {wk : Notes} {start : ℕ} {s : Sign} {os : List ℕ} → Collects ix st wk start s os wk start 0
collects_begins = record {
  waits = waits_begins;
  reached = omega arith;
  grew = omega arith;
  paid = omega arith;
  beside = beside_refl;
  kept = λ i h. refl;
  beyond = λ i h. refl;
  inside = λ i h k. absurd (omega arith);
}

module _ {ix : Index} {wk : Notes} {p start : ℕ} (c : Collecting ix wk p start) {os : List ℕ} (are : os ≡ occurrences ix p) {st : Tally} {s : Sign} {wk' : Notes} {end j : ℕ}
    (o : Collects ix st wk start s os wk' end j) where
  module _ (more : j < length os) where
    pub clause_known : get_or os j 0 / 2 < clause_count ix
    clause_known = omega (arith, occurrence_known c.index p c.inside os are j more)

    pub room_left : end < max_gathered
    room_left = omega (arith, o.paid, c.room, occurrences_long ix p os are)

    module _ (b : Bool) (counts : b ≡ (is_wide (count_in st (get_or os j 0 / 2)) && is_signed s (get_or os j 0 % 2))) (long : length wk'.gathered ≡ max_gathered) where
      abbrev put : Notes
      put = with_gathered end (get_or os j 0 / 2) wk'

      here : get_or put.gathered end 0 ≡ get_or os j 0 / 2
      here = put_there wk' put end (get_or os j 0 / 2) refl long room_left

      other : (i : ℕ) → i ≢ end → get_or put.gathered i 0 ≡ get_or wk'.gathered i 0
      other = put_other wk' put end (get_or os j 0 / 2) refl

      pub collects_goes : Collects ix st wk start s os (with_gathered end (get_or os j 0 / 2) wk') (end + bool_byte b) (j + 1)
      collects_goes = rw (byte_bit b) (record {
        waits = waits_goes o.waits more
            (λ g d. (d.0, d.1, omega (arith, d.2), other d.0 (λ e. omega (arith, d.2)) ∙ d.3))
            (λ w q. (end, o.grew, (let e : bit b ≡ 1 = ap bit (counts ∙ and_intro w.1 q) in omega arith), here));
        reached = omega arith;
        grew = omega (arith, o.grew);
        paid = omega (arith, o.paid, bit_le b);
        beside = put_beside wk' put end (get_or os j 0 / 2) refl o.beside;
        kept = λ i h. other i (λ e. omega (arith, o.grew)) ∙ o.kept i h;
        beyond = λ i h. other i (λ e. omega (arith, o.paid)) ∙ o.beyond i h;
        inside = λ i a h. elim (dec_eq i end) [
          | yes e ↦ rw (e, here) clause_known
          | no e ↦ rw (other i e) (o.inside i a (omega (arith, bit_le b)))
        ];
      })

  pub collects_ends : length os ≤ j → Collected ix st wk p start s wk' end
  collects_ends h = record {
    grew = o.grew;
    paid = omega (arith, o.paid, o.reached, occurrences_long ix p os are);
    beside = o.beside;
    kept = o.kept;
    beyond = λ i b. o.beyond i (omega (arith, occurrences_long ix p os are));
    inside = o.inside;
    all = λ g w (k, b, q, i). waits_ends o.waits h g w k b q (rw are i);
  }
