-- What each answer puts on the receipt, and the values that it gives. An answer is a Result: what the call did, or its refusal.
use Rattle.std.specs.Prelude.{Bool, false, ℕ, Result, Ok, Err}
use Rattle.receipt.specs.declared.Outcome.{Outcome}
use Rattle.receipt.specs.declared.Settling.{Settling}
use Rattle.receipt.specs.declared.Searched.{Searched}
use Rattle.receipt.specs.declared.Read.{Read}
use Rattle.receipt.specs.declared.Listed.{Listed}
use Rattle.receipt.specs.declared.Receipt.{Receipt}
use Rattle.receipt.specs.declared.Refusal.{Refusal}
use Rattle.receipt.specs.Receipt.{Checked, outcome_number, settling_number, done, receipt, refused_receipt}

-- what a search, a list and a read answer that are not refused
abbrev pub searching : Outcome → ℕ → Result Searched Refusal
searching o k = Ok (record { outcome = o; count = k })

abbrev pub listed : Outcome → ℕ → Bool → ℕ → Listed
listed o r m k = record { outcome = o; rows = r; more = m; count = k }

abbrev pub listing : Outcome → ℕ → Bool → ℕ → Result Listed Refusal
listing o r m k = Ok (listed o r m k)

abbrev pub reading : ℕ → ℕ → Result Read Refusal
reading n u = Ok (record { variables = n; used = u })

-- the table check by itself (document 02, A4): 18 done
abbrev pub checked_receipt : Checked → Receipt
checked_receipt (Ok u) = receipt done 0 0
checked_receipt (Err r) = refused_receipt r

-- Settle: 13 settled, 10 no layout
abbrev pub settling_receipt : Result Settling Refusal → Receipt
settling_receipt (Ok s) = receipt (settling_number s) 0 0
settling_receipt (Err r) = refused_receipt r

-- Search: each outcome with its count
abbrev pub searching_receipt : Result Searched Refusal → Receipt
searching_receipt (Ok s) = receipt (outcome_number s.outcome) 0 s.count
searching_receipt (Err r) = refused_receipt r

-- Index: 17 indexed
abbrev pub indexing_receipt : Checked → Receipt
indexing_receipt (Ok u) = receipt 17 0 0
indexing_receipt (Err r) = refused_receipt r

-- Add: 15 group added
abbrev pub adding_receipt : Result ℕ Refusal → Receipt
adding_receipt (Ok u) = receipt 15 0 0
adding_receipt (Err r) = refused_receipt r

-- "the answer is the new used length, 0 on refusal"
abbrev pub added_length : Result ℕ Refusal → ℕ
added_length (Ok u) = u
added_length (Err r) = 0

-- Taking back (document 02, A7): 18 done
abbrev pub taking_back_receipt : Result ℕ Refusal → Receipt
taking_back_receipt (Ok u) = receipt done 0 0
taking_back_receipt (Err r) = refused_receipt r

-- "the new used length is the answer, 0 on refusal"
abbrev pub length_left : Result ℕ Refusal → ℕ
length_left (Ok u) = u
length_left (Err r) = 0

-- Read: 16 strip read
abbrev pub reading_receipt : Result Read Refusal → Receipt
reading_receipt (Ok d) = receipt 16 0 0
reading_receipt (Err r) = refused_receipt r

-- "the answer is n and the used length, both 0 on refusal"
abbrev pub read_variables : Result Read Refusal → ℕ
read_variables (Ok d) = d.variables
read_variables (Err r) = 0

abbrev pub read_length : Result Read Refusal → ℕ
read_length (Ok d) = d.used
read_length (Err r) = 0

-- Save: 18 done; "where a strip or text is written, place is its length"
abbrev pub saving_receipt : Result ℕ Refusal → Receipt
saving_receipt (Ok k) = receipt done k 0
saving_receipt (Err r) = refused_receipt r

-- List (document 02, A6): each outcome with its count; "place is the rows written"
abbrev pub listing_receipt : Result Listed Refusal → Receipt
listing_receipt (Ok l) = receipt (outcome_number l.outcome) l.rows l.count
listing_receipt (Err r) = refused_receipt r

abbrev pub rows_written : Result Listed Refusal → ℕ
rows_written (Ok l) = l.rows
rows_written (Err r) = 0

-- "the answer says "more" when a further one exists and otherwise not"
abbrev pub says_more : Result Listed Refusal → Bool
says_more (Ok l) = l.more
says_more (Err r) = false
