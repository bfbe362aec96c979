-- A call of the window, and the words in which the user's demands speak of it.
use Rattle.std.specs.Prelude.{◌≡◌, List, ℕ, ◌+◌, ◌*◌, ◌≤◌, length, take, get_or}
use Rattle.literal.specs.Literal.{clause_number}
use Rattle.receipt.specs.declared.Outcome.{Outcome}
use Rattle.receipt.specs.declared.Receipt.{Receipt}
use Rattle.receipt.specs.declared.Refusal.{Refusal}
use Rattle.receipt.specs.Receipt.{outcome_number, refused_receipt}
use Rattle.theory.specs.Calls.{over, receipt_length, receipt_bytes, WindowCall, window_call}
use Rattle.theory.specs.Encoding.{Item, StripWithin, Bytes}

-- "within the limits of document 01, with room lent for the results": a strip of n placements and these chapters and groups
pub record Acceptable (s : List ℕ) (n : ℕ) (l : List Item) (plan : List ℕ) : Type 0 where
  pub strip : StripWithin s n l
  pub plan_room : n ≤ length plan

-- a call with a receipt long enough and an allowance of b, and what it leaves
pub record Stamped (s : List ℕ) (b : ℕ) (plan old : List ℕ) (w : WindowCall) : Type 0 where
  pub receipt_room : receipt_length ≤ length old
  pub is : w ≡ window_call s b plan old

-- and one of an acceptable strip
pub record Call (s : List ℕ) (n : ℕ) (l : List Item) (b : ℕ) (plan old : List ℕ) (w : WindowCall) : Type 0 where
  pub bytes : Bytes s
  pub acceptable : Acceptable s n l plan
  pub stamped : Stamped s b plan old w

-- how it ended, by the number that the call returns
abbrev pub Reports : WindowCall → Outcome → Type 0
Reports w o = w.number ≡ outcome_number o

-- "a refused call changes no lent element except a receipt long enough to be written": "16 bytes", number, place and count, "with the group number last"
abbrev pub refused_call : Refusal → List ℕ → List ℕ → WindowCall
refused_call f plan old = let r = refused_receipt f in record { number = r.number; plan = plan; receipt = over receipt_length (receipt_bytes r) old }

-- "four bytes each, high byte first", read again from an index on
abbrev pub number_at : ℕ → List ℕ → ℕ
number_at i r = ((get_or r i 0 * 256 + get_or r (i + 1) 0) * 256 + get_or r (i + 2) 0) * 256 + get_or r (i + 3) 0

abbrev pub count_of : WindowCall → ℕ
count_of w = number_at 8 w.receipt

-- all that stands on a receipt
abbrev pub receipt_on : List ℕ → Receipt
receipt_on r = record { number = number_at 0 r; place = number_at 4 r; count = number_at 8 r; clause = clause_number (number_at 12 r) }

-- "alike in the outcome, the count, the first n of the plan": the window lends no trail
pub record Alike (n : ℕ) (w w' : WindowCall) : Type 0 where
  pub number : w'.number ≡ w.number
  pub count : count_of w' ≡ count_of w
  pub plan : take n w'.plan ≡ take n w.plan
