-- A call of List, and the words in which document 02's A6 speaks of it.
use Rattle.std.specs.Prelude.{◌≡◌, true, List, map, ℕ, ◌*◌, ◌≤◌, ℤ, length, take, drop, Result}
use Rattle.general.specs.Booleans.{bit}
use Rattle.receipt.specs.declared.Listed.{Listed}
use Rattle.receipt.specs.declared.Outcome.{Outcome}
use Rattle.receipt.specs.declared.Refusal.{Refusal}
use Rattle.receipt.specs.Receipt.{outcome_number}
use Rattle.receipt.specs.Answers.{listing_receipt, says_more}
use Rattle.theory.specs.Calls.{ListCall, list_call}
use Rattle.theory.specs.Formula.{Choice}
use Rattle.theory.specs.Table.{WithinLimits}

-- what the code answers, and the rows after it
abbrev pub called : Result Listed Refusal → List ℕ → ListCall
called r rows = record { answer = r; rows = rows }

-- "within the limits of document 01, with room lent for the results"
pub record Acceptable (n : ℕ) (t : List ℤ) (k : ℕ) (rows : List ℕ) : Type 0 where
  pub table : WithinLimits n t
  pub room : k * n ≤ length rows

-- such a call for k rows with an allowance of b, and what it leaves
pub record Call (n : ℕ) (t : List ℤ) (k b : ℕ) (rows : List ℕ) (s : ListCall) : Type 0 where
  pub acceptable : Acceptable n t k rows
  pub is : s ≡ list_call n t k b rows

-- how it ended, by its number on the receipt, the count there, "place is the rows written", and whether "the answer says "more""
abbrev pub Reports : ListCall → Outcome → Type 0
Reports s o = (listing_receipt s.answer).number ≡ outcome_number o

abbrev pub count_of : ListCall → ℕ
count_of s = (listing_receipt s.answer).count

abbrev pub place_of : ListCall → ℕ
place_of s = (listing_receipt s.answer).place

abbrev pub More : ListCall → Type 0
More s = says_more s.answer ≡ true

-- row i, counted from 0, has the choice c: its n bytes
abbrev pub RowIs : ℕ → ListCall → ℕ → Choice → Type 0
RowIs n s i c = take n (drop (i * n) s.rows) ≡ map bit c

-- alike in the answer, and so in the number, the place, "more" and the count, and in the first k times n bytes
pub record Alike (n k : ℕ) (s s' : ListCall) : Type 0 where
  pub answer : s'.answer ≡ s.answer
  pub rows : take (k * n) s'.rows ≡ take (k * n) s.rows
