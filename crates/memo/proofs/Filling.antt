-- What a slot is after it was begun, looked at, held and kept.
use mathlib.Core.Path.{◌≡◌, ap, sym, ◌∙◌}
use mathlib.Core.Logic.{inl, inr}
use mathlib.Core.List.{List}
use Prim.Native.Nat.{ℕ, suc, ◌+◌, ◌*◌, ◌-◌, ◌/◌, ◌≤◌, ◌<◌}
use native.Mathlib.Nat.{mul-le-mul_right, div-mul-le_self}
use native.Mathlib.Omega.{arith}
use borrow.Author.Tests.{le-leb, lt-leb}
use lib.ListN.{get_or, set, length}
use lib.Seq.{get_or-set_same}
use Rattle.general.specs.Lists.{from_same}
use Rattle.literal.specs.Literal.{max_variables}
use Rattle.theory.specs.State.{State}
use Rattle.theory.specs.Memo.{key, Slot}
use Rattle.memo.specs.Memory.{slot_room, splits_in, variable_in, key_in, pending, slot_at, number_in, slot_in, slot_count}
use Rattle.memo.specs.Memory.{Sized, Keying, Empty, Outside, Spared, Numbered, KeyAt, Placing, Keyed, Found, Taken, Holding, Learning}
use Rattle.memo.specs.declared.Memory.{Memory}
use Rattle.memo.proofs.Slots.{outside_set, outside_wider, outside_trans, same_changed, slot_before, slot_alone, spared_changed, spared_slots}

-- a slot is inside the array
pub slot_room_lem : {n : ℕ} {m : Memory} → Sized n m → (i : ℕ) → i < slot_count m → slot_at n i + (n + key_in) ≤ slot_room
slot_room_lem {n} {m} s i h = omega (arith, slot_before n i (slot_count m) h, s.room)

-- nothing is known in slots of zeros
pub new_empty : {n : ℕ} {m : Memory} → n ≤ max_variables → 0 < m.count → m.count ≤ slot_room / (n + key_in) → ((i : ℕ) → get_or m.slots i 0 ≡ 0) → Empty n m
unfolding slot_at
new_empty {n} {m} small some most zero = record {
  sized = record {
    small = small;
    some = some;
    room = omega (arith, mul-le-mul_right (n + key_in) most, div-mul-le_self slot_room (n + key_in));
  };
  nothing = λ i l. rw (zero (i * (n + key_in) + splits_in), zero (i * (n + key_in) + splits_in + 1));
}

module _ {n p : ℕ} {m : Memory} (h : Keying n p m) (j : ℕ) (inside : j < slot_count m) (b : ℕ) (e : b ≡ slot_at n j) where
  pub slot_placing : Placing n p b
  slot_placing = record { small = h.sized.small; positive = h.positive; inside = h.inside; room = rw e (slot_room_lem h.sized j inside) }

-- words of a slot whose variable is known
slot_words : (n p b : ℕ) (l : List ℕ) (s : State) → 0 < p → KeyAt n p s b l → (slot_in n l b).words ≡ key n p s
slot_words n p b l s h k =
    let q : n - (p - 1) ≡ suc n - p = omega arith in
    rw (k.variable, q) k.words

-- a slot with the key of a state
pub slot_found : {n p : ℕ} {m : Memory} → Keying n p m → (s : State) (j : ℕ) → j < slot_count m → (b : ℕ) → b ≡ slot_at n j → KeyAt n p s b m.slots → (r : ℕ) →
    r ≡ number_in m.slots (b + splits_in) → Found n p s m r
slot_found {n} {p} {m} h s j inside b e k r q = record {
  slot = j;
  inside = inside;
  variable = rw (← e) k.variable;
  words = rw (← e) (slot_words n p b m.slots s h.positive k);
  splits = rw (← e) (sym q);
}

-- a slot is taken: its tag, no splits, its key
pub slot_taken : {n p : ℕ} {m m' : Memory} → Keying n p m → (s : State) (j : ℕ) → j < slot_count m → (b : ℕ) → b ≡ slot_at n j → length m.slots ≡ slot_room → m'.count ≡ m.count →
    (tag : ℕ) {l : List ℕ} → Numbered (b + splits_in) 0 (set m.slots b (tag + pending)) l → Keyed n p s b l m'.slots → Taken n p s m m' j
slot_taken {n} {p} {m} {m'} h s j inside b e long count tag {l} c k =
    let small = h.sized.small in
    let fits : b + (n + key_in) ≤ slot_room = rw e (slot_room_lem h.sized j inside) in
    let written : Outside b (b + (n + key_in)) m.slots m'.slots =
    outside_trans (outside_set _ _ b (tag + pending) m.slots (omega arith) (omega arith))
    (outside_trans (outside_wider c.outside b (b + (n + key_in)) (omega arith) (omega arith)) (outside_wider k.outside b (b + (n + key_in)) (omega arith) (omega arith))) in
    let first : get_or m'.slots b 0 ≡ tag + pending =
    k.outside.same b (inl (omega arith)) ∙ c.outside.same b (inl (omega arith)) ∙ get_or-set_same m.slots b (tag + pending) 0 (omega arith) in
    record {
      changed = same_changed h.sized count;
      others = slot_alone n j m m' (rw e at written) (slot_count m);
      held = rw (← e, first) (le-leb pending (tag + pending) (omega arith));
      variable = rw (← e) k.keyed.variable;
      words = rw (← e) (slot_words n p b m'.slots s h.positive k.keyed);
      nothing = rw (← e, k.outside.same (b + splits_in) (inl (omega arith)), k.outside.same (b + splits_in + 1) (inl (omega arith))) c.is;
    }

-- after a payment
pub slot_holding : {n p : ℕ} {m m₁ m₂ : Memory} → Sized n m → Spared m m₁ → (s : State) (j : ℕ) → j < slot_count m₁ → (b : ℕ) → b ≡ slot_at n j → get_or m₁.slots b 0 < pending →
    Taken n p s m₁ m₂ j → Holding n p s m m₂ j
slot_holding {n} {p} {m} {m₁} {m₂} z o s j inside b e free t =
    let a = spared_changed z o in
    record {
      inside = rw (← a.count) inside;
      free = ap (λ (t : Slot). t.held) (sym (spared_slots z o j)) ∙ rw (← e) (lt-leb pending (get_or m₁.slots b 0) free);
      taken = record {
        changed = record { sized = t.changed.sized; count = t.changed.count ∙ a.count };
        others = record { same = λ i l d. t.others.same i (rw a.count l) d ∙ spared_slots z o i };
        held = t.held;
        variable = t.variable;
        words = t.words;
        nothing = t.nothing;
      };
    }

-- a held slot learns its splits
pub slot_learning : {n : ℕ} {m m' : Memory} → Sized n m → (j : ℕ) → j < slot_count m → (b : ℕ) → b ≡ slot_at n j → m'.count ≡ m.count → (x c : ℕ) →
    Numbered (b + splits_in) c (set m.slots b x) m'.slots → Learning n c m m' j
slot_learning {n} {m} {m'} z j inside b e count x c w =
    let written : Outside b (b + 3) m.slots m'.slots = outside_trans (outside_set _ _ b x m.slots (omega arith) (omega arith)) (outside_wider w.outside b (b + 3) (omega arith) (omega arith)) in
    let v : get_or m'.slots (b + variable_in) 0 ≡ get_or m.slots (b + variable_in) 0 = written.same (b + variable_in) (inr (omega arith)) in
    record {
      changed = same_changed z count;
      others = slot_alone n j m m' (rw e at (outside_wider written b (b + (n + key_in)) (omega arith) (omega arith))) (slot_count m);
      variable = rw (← e) v;
      words = rw (← e, v) (from_same (λ i. get_or m'.slots (b + key_in + i) 0) (λ i. get_or m.slots (b + key_in + i) 0) 0 (n - (get_or m.slots (b + variable_in) 0 - 1)) (λ i l g. written.same (b + key_in + i) (inr (omega arith))));
      splits = rw (← e) w.is;
    }
