-- A key in the array, word by word: as it is written and as it is compared.
use mathlib.Core.Path.{◌≡◌, ap, sym, ◌∙◌}
use mathlib.Core.List.{List}
use Prim.Native.Nat.{ℕ, suc, ◌+◌, ◌-◌, ◌≤◌, ◌<◌}
use native.Mathlib.Decide.{dec_lt}
use native.Mathlib.Omega.{arith}
use lib.ListN.{length, get_or, set, length-set}
use lib.Seq.{get_or-set_same, get_or-set_other}
use Rattle.general.specs.Lists.{from, length_from, get_or_from}
use Rattle.literal.specs.Literal.{code_of, max_variables}
use Rattle.literal.proofs.Codes.{code_of_literal_at}
use Rattle.theory.specs.Memo.{word}
use Rattle.theory.proofs.Memo.{key_is}
use Rattle.state.proofs.Values.{state_of_inside}
use Rattle.tally.specs.Tally.{state_in, value_in}
use Rattle.tally.specs.declared.Tally.{Tally}
use Rattle.memo.specs.Memory.{slot_room, variable_in, key_in, KeyAt, Outside, Placing, Keyed}
use Rattle.memo.proofs.Slots.{outside_refl, outside_set, outside_trans}

-- the first j words of the key stand in the slot that begins at b, after the variable
pub record KeyedTo (p b : ℕ) (st : Tally) (m : List ℕ) (j : ℕ) : Type 0 where
  pub variable : get_or m (b + variable_in) 0 ≡ p
  pub words : (k : ℕ) → k < j → get_or m (b + key_in + k) 0 ≡ word p (value_in st (p + k))

module _ (p b : ℕ) (st : Tally) (m : List ℕ) where
  pub keyed_none : get_or m (b + variable_in) 0 ≡ p → KeyedTo p b st m 0
  keyed_none e = record { variable = e; words = λ k h. absurd (omega arith) }

  -- one more
  pub keyed_more : (j : ℕ) → KeyedTo p b st m j → get_or m (b + key_in + j) 0 ≡ word p (value_in st (p + j)) → KeyedTo p b st m (j + 1)
  keyed_more j w e = record {
    variable = w.variable;
    words = λ k h. elim (dec_lt k j) [
      | yes l ↦ w.words k l
      | no l ↦ let q : k ≡ j = omega arith in rw q e
    ];
  }

  -- all of them are the key
  pub keyed_all : (n j : ℕ) → n ≤ max_variables → p ≤ n → n + 1 - p ≤ j → KeyedTo p b st m j → KeyAt n p (state_in st) b m
  keyed_all n j small inside h w = record {
    variable = w.variable;
    words = key_is n p (state_in st) (from (λ i. get_or m (b + key_in + i) 0) 0 (suc n - p)) (length_from _ 0 (suc n - p)) (λ v l g.
        let at : p + (v - p) ≡ v = omega arith in
        let code : value_in st v ≡ code_of (state_in st v) = sym (ap code_of (state_of_inside st.values v (omega arith)) ∙ code_of_literal_at (value_in st v)) in
        get_or_from (λ i. get_or m (b + key_in + i) 0) 0 (suc n - p) (v - p) 0 (omega arith) ∙
        ap (λ i. get_or m (b + key_in + i) 0) (omega arith) ∙ w.words (v - p) (omega arith) ∙ rw (at, code));
  }

-- as it is written
pub record WritingTo (n p b : ℕ) (st : Tally) (m m' : List ℕ) (j : ℕ) : Type 0 where
  pub outside : Outside (b + variable_in) (b + (n + key_in)) m m'
  pub keyed : KeyedTo p b st m' j

module _ {n p b : ℕ} (m : List ℕ) (long : length m ≡ slot_room) (h : Placing n p b) (st : Tally) where
  abbrev begun : List ℕ
  begun = set m (b + variable_in) p

  pub writing_begun : WritingTo n p b st begun begun 0
  writing_begun = record { outside = outside_refl _ _ _; keyed = keyed_none p b st _ (get_or-set_same m (b + variable_in) p 0 (omega (arith, h.room, long))) }

  pub writing_goes : (m' : List ℕ) (j x : ℕ) → WritingTo n p b st begun m' j → j < n + 1 - p → x ≡ word p (value_in st (p + j)) → WritingTo n p b st begun (set m' (b + key_in + j) x) (j + 1)
  writing_goes m' j x w l e =
      let other : (i : ℕ) → i < b + key_in + j → get_or (set m' (b + key_in + j) x) i 0 ≡ get_or m' i 0 = λ i q. get_or-set_other m' (b + key_in + j) i x 0 (λ e. omega arith) in
      let size : length m' ≡ slot_room = w.outside.long ∙ length-set m (b + variable_in) p ∙ long in
      record {
        outside = outside_trans w.outside (outside_set _ _ (b + key_in + j) x m' (omega arith) (omega (arith, h.positive)));
        keyed = keyed_more p b st _ j
            (record { variable = other (b + variable_in) (omega arith) ∙ w.keyed.variable; words = λ k q. other (b + key_in + k) (omega arith) ∙ w.keyed.words k q })
            (get_or-set_same m' (b + key_in + j) x 0 (omega (arith, h.room, h.positive)) ∙ e);
      }

  pub writing_ends : (m' : List ℕ) (j : ℕ) → WritingTo n p b st begun m' j → n + 1 - p ≤ j → Keyed n p (state_in st) b m m'
  writing_ends m' j w l = record {
    outside = outside_trans (outside_set _ _ (b + variable_in) p m (omega arith) (omega arith)) w.outside;
    keyed = keyed_all p b st m' n j h.small h.inside l w.keyed;
  }
