-- Document 01's filings tried by hand that are marked *, each a call of Search, with its result.
use Rattle.std.specs.Prelude.{List, [], ◌∷◌, ◌++◌, ℕ, suc, ℤ, neg_ℤ, pos as posℤ, replicate}
use Rattle.receipt.specs.declared.Outcome.{Outcome}
use Rattle.receipt.specs.declared.Outcome.TheVariants.{LaidOut, NoLayout}
use Rattle.receipt.specs.declared.Receipt.{Receipt}
use Rattle.receipt.specs.Receipt.{outcome_number, receipt}
use Rattle.receipt.specs.Answers.{searching_receipt}
use Rattle.theory.specs.Calls.{SearchCall, search_call}

pub record Row : Type 0 where
  pub variables : ℕ
  pub table : List ℤ
  pub outcome : Outcome
  pub count : ℕ
  pub plan : List ℕ
  pub trail : List ℤ

-- what is on the receipt after a call, and in the whole lists that were lent
pub record Tried : Type 0 where
  pub receipt : Receipt
  pub plan : List ℕ
  pub trail : List ℤ

abbrev pub leaves : SearchCall → Tried
leaves c = record { receipt = searching_receipt c.answer; plan = c.plan; trail = c.trail }

-- the call: more splits are allowed than any of the filings needs, and each list lent has one element more than n, all of them 9
unfoldable pub try : Row → Tried
try r = leaves (search_call r.variables r.table 100 (replicate (suc r.variables) 9) (replicate (suc r.variables) (posℤ 9)))

-- the result: the outcome's number, place 0 and the count; plan and trail, and after them the 9 as it was
unfoldable pub expected : Row → Tried
expected r = record { receipt = receipt (outcome_number r.outcome) 0 r.count; plan = r.plan ++ (9 ∷ []); trail = r.trail ++ (posℤ 9 ∷ []) }

abbrev row : ℕ → List ℤ → Outcome → ℕ → List ℕ → List ℤ → Row
row n t o k p q = record { variables = n; table = t; outcome = o; count = k; plan = p; trail = q }

-- entries: +p, -p, and the 0 that closes a group
abbrev + : ℕ → ℤ
+ p = posℤ p

abbrev - : ℕ → ℤ
- p = neg_ℤ (posℤ p)

abbrev z : ℤ
z = posℤ 0

unfoldable pub starred : List Row
starred =
    row 0 [] LaidOut 0 [] [] ∷
    row 2 [] LaidOut 0 (0 ∷ 0 ∷ []) (z ∷ z ∷ []) ∷
    row 1 (z ∷ []) NoLayout 0 (0 ∷ []) (z ∷ []) ∷
    row 1 (+ 1 ∷ z ∷ []) LaidOut 0 (1 ∷ []) (z ∷ []) ∷
    row 1 (+ 1 ∷ + 1 ∷ z ∷ []) NoLayout 0 (0 ∷ []) (z ∷ []) ∷
    row 1 (+ 1 ∷ - 1 ∷ z ∷ []) LaidOut 0 (0 ∷ []) (z ∷ []) ∷
    row 2 (+ 1 ∷ + 2 ∷ z ∷ []) LaidOut 0 (0 ∷ 1 ∷ []) (z ∷ z ∷ []) ∷
    row 3 (- 1 ∷ + 2 ∷ + 3 ∷ z ∷ []) LaidOut 1 (0 ∷ 0 ∷ 0 ∷ []) (- 1 ∷ z ∷ z ∷ []) ∷
    row 3 (+ 1 ∷ + 2 ∷ + 3 ∷ z ∷ + 1 ∷ + 2 ∷ - 3 ∷ z ∷ []) NoLayout 0 (0 ∷ 0 ∷ 0 ∷ []) (z ∷ z ∷ z ∷ []) ∷
    row 4 (+ 1 ∷ + 2 ∷ + 3 ∷ z ∷ - 1 ∷ - 2 ∷ + 4 ∷ z ∷ []) LaidOut 0 (0 ∷ 1 ∷ 0 ∷ 0 ∷ []) (z ∷ z ∷ z ∷ z ∷ []) ∷
    row 4 (+ 1 ∷ + 2 ∷ + 3 ∷ + 4 ∷ z ∷ []) LaidOut 2 (0 ∷ 0 ∷ 0 ∷ 1 ∷ []) (- 1 ∷ - 2 ∷ z ∷ z ∷ []) ∷
    row 4 (+ 1 ∷ + 2 ∷ + 3 ∷ z ∷ + 1 ∷ + 2 ∷ + 4 ∷ z ∷ + 1 ∷ + 3 ∷ + 4 ∷ z ∷ []) LaidOut 1 (1 ∷ 0 ∷ 0 ∷ 0 ∷ []) (+ 1 ∷ z ∷ z ∷ z ∷ []) ∷
    []
