-- The memo as code keeps it: how many slots there are, what stands in them, and beside them weights, marks and numbers that promise nothing.
use Rattle.std.specs.Prelude.{◌≡◌, true, false, ◌⊎◌, List, ℕ, suc, ◌+◌, ◌*◌, ◌-◌, ◌≤◌, ◌<◌, leb, get_or, length, Option, None, Some}
use Rattle.general.specs.Lists.{from}
use Rattle.literal.specs.Literal.{variables, max_variables}
use Rattle.theory.specs.Formula.{Formula}
use Rattle.theory.specs.State.{State}
use Rattle.theory.specs.Memo.{key, Slot, Learned, Kept, Elsewhere}
use Rattle.memo.specs.declared.Memory.{Memory}

-- so many words have the slots
abbrev pub slot_room : ℕ
slot_room = 65536 - 2 * variables - 5

-- inside a slot: its tag, the splits as two words, the variable, the key
abbrev pub splits_in : ℕ
splits_in = 1

abbrev pub variable_in : ℕ
variable_in = 3

abbrev pub key_in : ℕ
key_in = 4

-- a tag from here on is of a slot that is held
abbrev pub pending : ℕ
pending = 32768

-- what bounds the weights, what may be spent, and what a word adds to the hash
abbrev pub spread_most : ℕ
spread_most = 4096

abbrev pub credit_most : ℕ
credit_most = 2000000

abbrev pub share_most : ℕ
share_most = 1023 * 8191

-- where slot i begins, for n variables
unfoldable pub slot_at : ℕ → ℕ → ℕ
slot_at n i = i * (n + key_in)

-- a number of two words
abbrev pub number_in : List ℕ → ℕ → ℕ
number_in l i = get_or l i 0 + 65536 * get_or l (i + 1) 0

-- a slot that begins at index b
abbrev pub slot_in : ℕ → List ℕ → ℕ → Slot
slot_in n l b = record {
  held = leb pending (get_or l b 0);
  variable = get_or l (b + variable_in) 0;
  words = from (λ j. get_or l (b + key_in + j) 0) 0 (n - (get_or l (b + variable_in) 0 - 1));
  splits = number_in l (b + splits_in);
}

abbrev pub slots_of : ℕ → Memory → ℕ → Slot
slots_of n m i = slot_in n m.slots (slot_at n i)

abbrev pub slot_count : Memory → ℕ
slot_count m = m.count

-- there are slots, and room for all
pub record Sized (n : ℕ) (m : Memory) : Type 0 where
  pub small : n ≤ max_variables
  pub some : 0 < slot_count m
  pub room : slot_at n (slot_count m) ≤ slot_room

-- a split on p is looked for or held
pub record Keying (n p : ℕ) (m : Memory) : Type 0 where
  pub sized : Sized n m
  pub positive : 0 < p
  pub inside : p ≤ n

-- nothing is known
pub record Empty (n : ℕ) (m : Memory) : Type 0 where
  pub sized : Sized n m
  pub nothing : (i : ℕ) → i < slot_count m → (slots_of n m i).splits ≡ 0

-- only the words from a up to e were written
pub record Outside (a e : ℕ) (l l' : List ℕ) : Type 0 where
  pub long : length l' ≡ length l
  pub same : (i : ℕ) → (i < a) ⊎ (e ≤ i) → get_or l' i 0 ≡ get_or l i 0

-- only marks and numbers: weights and slots are as they were
pub record Spared (m m' : Memory) : Type 0 where
  pub weights : m'.weights ≡ m.weights
  pub count : m'.count ≡ m.count
  pub slots : m'.slots ≡ m.slots

-- a number of two words was written
pub record Numbered (i x : ℕ) (l l' : List ℕ) : Type 0 where
  pub outside : Outside i (i + 2) l l'
  pub is : number_in l' i ≡ x

-- the slot that begins at b has the key of a state that is split on p
pub record KeyAt (n p : ℕ) (s : State) (b : ℕ) (l : List ℕ) : Type 0 where
  pub variable : get_or l (b + variable_in) 0 ≡ p
  pub words : from (λ j. get_or l (b + key_in + j) 0) 0 (suc n - p) ≡ key n p s

-- a place for a key
pub record Placing (n p b : ℕ) : Type 0 where
  pub small : n ≤ max_variables
  pub positive : 0 < p
  pub inside : p ≤ n
  pub room : b + (n + key_in) ≤ slot_room

-- a key was written there
pub record Keyed (n p : ℕ) (s : State) (b : ℕ) (l l' : List ℕ) : Type 0 where
  pub outside : Outside (b + variable_in) (b + (n + key_in)) l l'
  pub keyed : KeyAt n p s b l'

-- a slot with the key of state s, which is split on p, and with r splits
pub record Found (n p : ℕ) (s : State) (m : Memory) (r : ℕ) : Type 0 where
  pub slot : ℕ
  pub inside : slot < slot_count m
  pub variable : (slots_of n m slot).variable ≡ p
  pub words : (slots_of n m slot).words ≡ key n p s
  pub splits : (slots_of n m slot).splits ≡ r

-- a slot that is held, or empty, has none
abbrev pub Recalled : (n p : ℕ) → State → Memory → ℕ → Type 0
Recalled n p s m r = (0 < r) × Found n p s m r

-- as many slots as before
pub record Changed (n : ℕ) (m m' : Memory) : Type 0 where
  pub sized : Sized n m'
  pub count : slot_count m' ≡ slot_count m

-- slot j is held, with the key of state s, which is split on p
pub record Taken (n p : ℕ) (s : State) (m m' : Memory) (j : ℕ) : Type 0 where
  pub changed : Changed n m m'
  pub others : Elsewhere (slot_count m) j (slots_of n m) (slots_of n m')
  pub held : (slots_of n m' j).held ≡ true
  pub variable : (slots_of n m' j).variable ≡ p
  pub words : (slots_of n m' j).words ≡ key n p s
  pub nothing : (slots_of n m' j).splits ≡ 0

-- and was free before
pub record Holding (n p : ℕ) (s : State) (m m' : Memory) (j : ℕ) : Type 0 where
  pub inside : j < slot_count m
  pub free : (slots_of n m j).held ≡ false
  pub taken : Taken n p s m m' j

abbrev pub HoldOf : (n p : ℕ) → State → (m m' : Memory) → Option ℕ → Type 0
HoldOf n p s m m' (Some j) = Holding n p s m m' j
HoldOf n p s m m' None = Spared m m'

-- slot j, which was held, now has c splits
pub record Learning (n c : ℕ) (m m' : Memory) (j : ℕ) : Type 0 where
  pub changed : Changed n m m'
  pub others : Elsewhere (slot_count m) j (slots_of n m) (slots_of n m')
  pub variable : (slots_of n m' j).variable ≡ (slots_of n m j).variable
  pub words : (slots_of n m' j).words ≡ (slots_of n m j).words
  pub splits : (slots_of n m' j).splits ≡ c

abbrev pub KeepOf : (n c : ℕ) → (m m' : Memory) → Option ℕ → Type 0
KeepOf n c m m' (Some j) = Learning n c m m' j
KeepOf n c m m' None = m' ≡ m

pub record Keepable (n : ℕ) (m : Memory) (held : Option ℕ) : Type 0 where
  pub sized : Sized n m
  pub inside : (j : ℕ) → held ≡ Some j → j < slot_count m

-- what the slots say of the formula f is true
pub record Remembering (n : ℕ) (f : Formula) (m : Memory) : Type 0 where
  pub sized : Sized n m
  pub learned : Learned n f (slot_count m) (slots_of n m)

-- and still is, and those that were held are as they were
pub record Remembered (n : ℕ) (f : Formula) (m m' : Memory) : Type 0 where
  pub remembering : Remembering n f m'
  pub count : slot_count m' ≡ slot_count m
  pub kept : Kept (slot_count m) (slots_of n m) (slots_of n m')
