-- What C gets of a call: its answer in one flat struct, and the lists that were lent.
use Rattle.std.specs.Prelude.{Bool, false, List, ℕ, ℤ}
use Rattle.receipt.specs.declared.Receipt.{Receipt}
use Rattle.receipt.specs.Answers.{settling_receipt, searching_receipt, listing_receipt, rows_written, says_more, saving_receipt, reading_receipt, read_length, read_variables, adding_receipt, added_length, taking_back_receipt, length_left}
use Rattle.theory.specs.Calls.{SettleCall, SearchCall, ListCall, SaveCall, ReadCall, AddCall, TakeBackCall}
use Rattle.platewright.specs.declared.Answer.{Answer}

-- a receipt, with n, the used length, the rows written and whether there is a layout more
abbrev pub flat : Receipt → ℕ → ℕ → ℕ → Bool → Answer
flat r n u k m = record { number = r.number; count = r.count; place = r.place; n = n; used = u; rows = k; clause = r.clause.0; more = m }

-- of an operation that answers no more than its receipt
abbrev pub plain : Receipt → Answer
plain r = flat r 0 0 0 false

-- of one that answers a used length
abbrev pub counted : Receipt → ℕ → Answer
counted r u = flat r 0 u 0 false

abbrev pub settled : SettleCall → Answer × (List ℤ × List ℕ)
settled c = (plain (settling_receipt c.answer), (c.list, c.reasons))

abbrev pub searched : SearchCall → Answer × (List ℕ × List ℤ)
searched c = (plain (searching_receipt c.answer), (c.plan, c.trail))

abbrev pub listed : ListCall → Answer × List ℕ
listed c = (flat (listing_receipt c.answer) 0 0 (rows_written c.answer) (says_more c.answer), c.rows)

abbrev pub saved : SaveCall → Answer × List ℕ
saved c = (plain (saving_receipt c.answer), c.strip)

abbrev pub read_in : ReadCall → Answer × List ℤ
read_in c = (flat (reading_receipt c.answer) (read_variables c.answer) (read_length c.answer) 0 false, c.table)

abbrev pub added : AddCall → Answer × List ℤ
added c = (counted (adding_receipt c.answer) (added_length c.answer), c.buffer)

abbrev pub taken_back : TakeBackCall → Answer × List ℤ
taken_back c = (counted (taking_back_receipt c.answer) (length_left c.answer), c.buffer)
