-- A call of Search, and the words in which the user's demands speak of it.
use Rattle.std.specs.Prelude.{◌≡◌, List, ℕ, ◌≤◌, ℤ, length, take, Result, Ok, Err}
use Rattle.receipt.specs.declared.Outcome.{Outcome}
use Rattle.receipt.specs.declared.Refusal.{Refusal}
use Rattle.receipt.specs.declared.Searched.{Searched}
use Rattle.receipt.specs.Receipt.{outcome_number}
use Rattle.receipt.specs.Answers.{searching_receipt}
use Rattle.theory.specs.Calls.{SearchCall, search_call}
use Rattle.theory.specs.Table.{WithinLimits}
use Rattle.search.specs.declared.Tried.{Tried}

-- the answer of a try, without the number of splits that were walked
abbrev pub answer_of : Result Tried Refusal → Result Searched Refusal
answer_of (Ok t) = Ok t.searched
answer_of (Err r) = Err r

-- what the code answers, and the lists after it
abbrev pub called : Result Searched Refusal → List ℕ → List ℤ → SearchCall
called r p t = record { answer = r; plan = p; trail = t }

-- "within the limits of document 01, with room lent for the results"
pub record Acceptable (n : ℕ) (t : List ℤ) (plan : List ℕ) (trail : List ℤ) : Type 0 where
  pub table : WithinLimits n t
  pub plan_room : n ≤ length plan
  pub trail_room : n ≤ length trail

-- such a call with an allowance of b, and what it leaves
pub record Call (n : ℕ) (t : List ℤ) (b : ℕ) (plan : List ℕ) (trail : List ℤ) (s : SearchCall) : Type 0 where
  pub acceptable : Acceptable n t plan trail
  pub is : s ≡ search_call n t b plan trail

-- how it ended, by its number on the receipt, and the count there
abbrev pub Reports : SearchCall → Outcome → Type 0
Reports s o = (searching_receipt s.answer).number ≡ outcome_number o

abbrev pub count_of : SearchCall → ℕ
count_of s = (searching_receipt s.answer).count

-- "alike in the outcome, the count, the first n of the plan and the first n of the trail"
pub record Alike (n : ℕ) (s s' : SearchCall) : Type 0 where
  pub answer : s'.answer ≡ s.answer
  pub plan : take n s'.plan ≡ take n s.plan
  pub trail : take n s'.trail ≡ take n s.trail
