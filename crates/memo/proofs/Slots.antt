-- Slots stand apart in the array: what is written outside of one leaves it as it was.
use mathlib.Core.Path.{◌≡◌, refl, ap, ◌∙◌}
use mathlib.Core.Logic.{◌⊎◌, inl, inr, ⊎_elim}
use mathlib.Core.List.{List}
use Prim.Native.Nat.{ℕ, ◌+◌, ◌-◌, ◌/◌, ◌%◌, ◌≤◌, ◌<◌}
use native.Mathlib.Decide.{dec_lt}
use native.Mathlib.Nat.{mul-le-mul_right, suc-mul}
use native.Mathlib.Omega.{arith}
use lib.ListN.{length, get_or, set, length-set}
use lib.Seq.{get_or-set_same, get_or-set_other}
use Rattle.general.specs.Lists.{from_same}
use Rattle.theory.specs.Memo.{Elsewhere}
use Rattle.memo.specs.declared.Memory.{Memory}
use Rattle.memo.specs.Memory.{slot_room, key_in, slot_at, slot_in, slots_of, Sized, Outside, Spared, Numbered, Changed}

-- what was written -------------------------------------------------------------------------------------------------

pub outside_refl : (a e : ℕ) (m : List ℕ) → Outside a e m m
outside_refl a e m = record { long = refl; same = λ i h. refl }

pub outside_set : (a e i x : ℕ) (m : List ℕ) → a ≤ i → i < e → Outside a e m (set m i x)
outside_set a e i x m l h = record {
  long = length-set m i x;
  same = λ k o. get_or-set_other m i k x 0 (λ q. ⊎_elim (λ (z : k < a). omega arith) (λ (z : e ≤ k). omega arith) o);
}

module _ {a e : ℕ} {m m' : List ℕ} (o : Outside a e m m') where
  pub outside_wider : (a' e' : ℕ) → a' ≤ a → e ≤ e' → Outside a' e' m m'
  outside_wider a' e' l h = record {
    long = o.long;
    same = λ i q. o.same i (⊎_elim (λ (z : i < a'). inl (omega arith)) (λ (z : e' ≤ i). inr (omega arith)) q);
  }

  pub outside_trans : {m'' : List ℕ} → Outside a e m' m'' → Outside a e m m''
  outside_trans p = record { long = p.long ∙ o.long; same = λ i h. p.same i h ∙ o.same i h }

-- where slots stand ------------------------------------------------------------------------------------------------

pub slot_before : (n i j : ℕ) → i < j → slot_at n i + (n + key_in) ≤ slot_at n j
unfolding slot_at
slot_before n i j h = omega (arith, mul-le-mul_right (n + key_in) h, suc-mul i (n + key_in))

-- a slot whose words are the same is the same
pub slot_same : (n b : ℕ) (m m' : List ℕ) → ((k : ℕ) → b ≤ k → k < b + (n + key_in) → get_or m' k 0 ≡ get_or m k 0) → slot_in n m' b ≡ slot_in n m b
slot_same n b m m' h =
    rw (
      h b (omega arith) (omega arith),
      h (b + 1) (omega arith) (omega arith),
      h (b + 1 + 1) (omega arith) (omega arith),
      h (b + 3) (omega arith) (omega arith),
      from_same (λ j. get_or m' (b + 4 + j) 0) (λ j. get_or m (b + 4 + j) 0) 0 (n - (get_or m (b + 3) 0 - 1)) (λ i l g. h (b + 4 + i) (omega arith) (omega arith)),
    )

-- what is written outside of a slot
pub slot_kept : (n : ℕ) {a e : ℕ} (m m' : Memory) → Outside a e m.slots m'.slots → (i : ℕ) → (slot_at n i + (n + key_in) ≤ a) ⊎ (e ≤ slot_at n i) → slots_of n m' i ≡ slots_of n m i
slot_kept n {a} {e} m m' o i q = slot_same n (slot_at n i) m.slots m'.slots
    (λ k l h. o.same k (⊎_elim (λ (z : slot_at n i + (n + key_in) ≤ a). inl (omega arith)) (λ (z : e ≤ slot_at n i). inr (omega arith)) q))

-- as many slots
pub same_changed : {n : ℕ} {m m' : Memory} → Sized n m → m'.count ≡ m.count → Changed n m m'
same_changed s c = record { sized = record { small = s.small; some = omega (arith, c, s.some); room = rw c s.room }; count = c }

-- marks and numbers
module _ {n : ℕ} {m m' : Memory} (s : Sized n m) (o : Spared m m') where
  pub spared_changed : Changed n m m'
  spared_changed = same_changed s o.count

  pub spared_slots : (i : ℕ) → slots_of n m' i ≡ slots_of n m i
  spared_slots i = ap (λ (l : List ℕ). slot_in n l (slot_at n i)) o.slots

-- one slot
pub slot_alone : (n j : ℕ) (m m' : Memory) → Outside (slot_at n j) (slot_at n j + (n + key_in)) m.slots m'.slots → (k : ℕ) → Elsewhere k j (slots_of n m) (slots_of n m')
slot_alone n j m m' o k = record {
  same = λ i l d. slot_kept n m m' o i (elim (dec_lt i j) [
    | yes h ↦ inl (slot_before n i j h)
    | no h ↦ inr (slot_before n j i (omega (arith, d)))
  ]);
}

-- a number, written as its two words
pub numbered : (i x : ℕ) (m : List ℕ) → i + 1 < slot_room → length m ≡ slot_room → Numbered i x m (set (set m i (x % 65536)) (i + 1) (x / 65536))
numbered i x m h l =
    let n : List ℕ = set m i (x % 65536) in
    let low : get_or (set n (i + 1) (x / 65536)) i 0 ≡ x % 65536 = get_or-set_other n (i + 1) i (x / 65536) 0 (λ q. omega arith) ∙ get_or-set_same m i (x % 65536) 0 (omega arith) in
    let high : get_or (set n (i + 1) (x / 65536)) (i + 1) 0 ≡ x / 65536 = get_or-set_same n (i + 1) (x / 65536) 0 (omega (arith, length-set m i (x % 65536))) in
    record {
      outside = outside_trans (outside_set i (i + 2) i (x % 65536) m (omega arith) (omega arith)) (outside_set i (i + 2) (i + 1) (x / 65536) n (omega arith) (omega arith));
      is = rw (low, high) (omega arith);
    }
