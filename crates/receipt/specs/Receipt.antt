-- The numbers on the receipt (documents 01 and 02), each with its trade word.
use Rattle.std.specs.Prelude.{ℕ, Result, Ok}
use Rattle.literal.specs.declared.ClauseNumber.{ClauseNumber}
use Rattle.literal.specs.Literal.{clause_number}
use Rattle.receipt.specs.declared.Fault.{Fault}
use Rattle.receipt.specs.declared.Fault.TheVariants.{TooManyVariables, TooManyClauses, TooManyLiterals, OpenClause, UnknownVariable, PlanShort, TrailShort, HeadsShort, ReceiptShort, UsedLengthWrong, StateShort, UnknownMark, CutStrip, OutOfTurn, TableShort, StripTooLong, StripShort, UnmentionedVariable, ReasonsShort, RowsShort, NoClause}
use Rattle.receipt.specs.declared.Outcome.{Outcome}
use Rattle.receipt.specs.declared.Outcome.TheVariants.{LaidOut, NoLayout, Stopped}
use Rattle.receipt.specs.declared.Settling.{Settling}
use Rattle.receipt.specs.declared.Settling.TheVariants as settling
use Rattle.receipt.specs.declared.Refusal.{Refusal}
use Rattle.receipt.specs.declared.Receipt.{Receipt}

abbrev pub number_of : Fault → ℕ
-- too many placements
number_of TooManyVariables = 1
-- groups over the filing
number_of TooManyClauses = 2
-- entries over the filing
number_of TooManyLiterals = 3
-- open group
number_of OpenClause = 4
-- unknown placement
number_of (UnknownVariable k) = 5
-- plan short
number_of PlanShort = 6
-- trail short
number_of TrailShort = 7
-- heads short
number_of HeadsShort = 8
-- receipt short
number_of ReceiptShort = 9
-- used length wrong
number_of UsedLengthWrong = 12
-- state short
number_of StateShort = 14
-- unknown mark
number_of UnknownMark = 20
-- cut strip
number_of CutStrip = 21
-- out of turn
number_of OutOfTurn = 22
-- table short
number_of TableShort = 23
-- strip too long
number_of StripTooLong = 24
-- strip room short
number_of StripShort = 25
-- unnamed placement
number_of UnmentionedVariable = 26
-- reason list short
number_of ReasonsShort = 19
-- row room short
number_of RowsShort = 27
-- nothing to take back
number_of NoClause = 28

-- the group that a fault names: "for all other numbers it is 0" (document 02, A2)
abbrev pub named_clause : Fault → ClauseNumber
named_clause TooManyVariables = clause_number 0
named_clause TooManyClauses = clause_number 0
named_clause TooManyLiterals = clause_number 0
named_clause OpenClause = clause_number 0
named_clause (UnknownVariable k) = k
named_clause PlanShort = clause_number 0
named_clause TrailShort = clause_number 0
named_clause HeadsShort = clause_number 0
named_clause ReceiptShort = clause_number 0
named_clause UsedLengthWrong = clause_number 0
named_clause StateShort = clause_number 0
named_clause UnknownMark = clause_number 0
named_clause CutStrip = clause_number 0
named_clause OutOfTurn = clause_number 0
named_clause TableShort = clause_number 0
named_clause StripTooLong = clause_number 0
named_clause StripShort = clause_number 0
named_clause UnmentionedVariable = clause_number 0
named_clause ReasonsShort = clause_number 0
named_clause RowsShort = clause_number 0
named_clause NoClause = clause_number 0

-- how a search ends: laid out, no layout, stopped
abbrev pub outcome_number : Outcome → ℕ
outcome_number LaidOut = 0
outcome_number NoLayout = 10
outcome_number Stopped = 11

-- how settling ends: settled, no layout
abbrev pub settling_number : Settling → ℕ
settling_number settling.Settled = 13
settling_number settling.NoLayout = 10

-- done: "Success is 18, done, here and in each later operation without an outcome of its own" (document 02)
abbrev pub done : ℕ
done = 18

-- an unknown placement in group k
abbrev pub unknown_variable : ℕ → Fault
unknown_variable k = UnknownVariable (clause_number k)

-- the one way to make a refusal
abbrev pub refusal : Fault → ℕ → Refusal
refusal why at = record { fault = why; place = at }

-- a check, or a call that answers nothing else: passed, or the refusal
abbrev pub Checked : Type 0
Checked = Result (Unit {0}) Refusal

abbrev pub pass : Checked
pass = Ok tt

-- a receipt that names no group
abbrev pub receipt : ℕ → ℕ → ℕ → Receipt
receipt m p k = record { number = m; place = p; count = k; clause = clause_number 0 }

-- a refusal has its fault's number, its place, and the group that the fault names
abbrev pub refused_receipt : Refusal → Receipt
refused_receipt r = record { number = number_of r.fault; place = r.place; count = 0; clause = named_clause r.fault }
