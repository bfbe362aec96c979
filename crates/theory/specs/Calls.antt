-- What the operations answer, and what they leave in the lists lent to them.
use Rattle.std.specs.Prelude.{Bool, not, ◌||◌, cond, List, [], ◌∷◌, ◌++◌, ℕ, zero, suc, ◌+◌, ◌-◌, ◌*◌, ◌/◌, ◌%◌, min, ltb, eqb, ℤ, negsuc, pos as posℤ, length, replicate, take, drop}
use Rattle.std.specs.Prelude.{Option, None, Some}
use Rattle.general.specs.Lists.{up_to}
use Rattle.general.specs.Search.{first_place}
use Rattle.literal.specs.declared.Literal.{Literal}
use Rattle.literal.specs.declared.Literal.TheVariants.{Pos, Neg}
use Rattle.literal.specs.Literal.{max_variables, max_clauses, max_literals, max_table}
use Rattle.receipt.specs.declared.Fault.TheVariants.{TooManyClauses, TooManyLiterals, PlanShort, TrailShort, HeadsShort, ReceiptShort, UsedLengthWrong, StateShort, TableShort, StripShort, UnmentionedVariable, ReasonsShort, RowsShort, NoClause}
use Rattle.receipt.specs.declared.Refusal.{Refusal}
use Rattle.std.specs.Prelude.{Result, Ok, Err}
use Rattle.receipt.specs.Receipt.{Checked, pass}
use Rattle.receipt.specs.declared.Settling.{Settling}
use Rattle.receipt.specs.declared.Searched.{Searched}
use Rattle.receipt.specs.declared.Read.{Read}
use Rattle.receipt.specs.declared.Listed.{Listed}
use Rattle.receipt.specs.declared.Settling.TheVariants as settling
use Rattle.receipt.specs.declared.Head.{Head}
use Rattle.receipt.specs.declared.Receipt.{Receipt}
use Rattle.receipt.specs.Receipt.{number_of, unknown_variable}
use Rattle.receipt.specs.Answers.{searching_receipt, read_variables, listing, searching}
use Rattle.theory.specs.Formula.{Formula, Choice, clauses}
use Rattle.theory.specs.Heads.{heads_of, last_start}
use Rattle.theory.specs.SettledList.{decided}
use Rattle.theory.specs.State.{initial}
use Rattle.theory.specs.Table.{closes, zeros, nonzeros, refused, is_unknown, check}
use Rattle.theory.specs.Refusing.{refused_if, at_most, first_refusal, unless}
use Rattle.theory.specs.Propagation.{Settled, dead, rest, settle}
use Rattle.theory.specs.Reasons.{Explanation, unexplained, explain}
use Rattle.theory.specs.Reasons as explanation
use Rattle.theory.specs.Tree.{choices_found, Limited}
use Rattle.theory.specs.Search.{search, plan_of, trail_of}
use Rattle.theory.specs.Listing.{list, rows_of}
use Rattle.theory.specs.Mentions.{mentions_all}
use Rattle.theory.specs.Strip.{Decoding, read_strip}
use Rattle.theory.specs.Encoding.{saved_strip}

-- the first n elements of a list, and "Elements not named are never changed"
abbrev pub over : {A : Type 0} → ℕ → List A → List A → List A
over n new old = new ++ drop n old

-- Settle ----------------------------------------------------------------------------------------------------------

-- "257 taken, -257 left out, +p open, +r or -r tied to r"
abbrev pub state_entry : Literal → ℤ
state_entry (Pos zero) = posℤ decided
state_entry (Neg zero) = negsuc max_variables
state_entry (Pos (suc r)) = posℤ (suc r)
state_entry (Neg (suc r)) = negsuc r

abbrev pub settling_of : Settled → Result Settling Refusal
settling_of dead = (Ok settling.NoLayout)
settling_of (rest s) = (Ok settling.Settled)

-- "On a dead end they become 0."
abbrev pub state_list : ℕ → Settled → List ℤ
state_list n dead = replicate n (posℤ 0)
state_list n (rest s) = up_to (λ p. state_entry (s p)) n

-- "Settling writes these numbers to a second lent list of n elements, all 0 on a dead end" (document 02, A5)
abbrev pub reason_list : ℕ → Explanation → List ℕ
reason_list n explanation.dead = replicate n 0
reason_list n (explanation.rest e) = up_to e.reasons n

pub record SettleCall : Type 0 where
  pub answer : Result Settling Refusal
  pub list : List ℤ
  pub reasons : List ℕ

abbrev pub settled_call : ℕ → Formula → List ℤ → List ℕ → SettleCall
settled_call n f l m =
    let s = settle n f initial in
    record { answer = settling_of s; list = over n (state_list n s) l; reasons = over n (reason_list n (explain n f (unexplained initial))) m }

abbrev pub settle_refused : Refusal → List ℤ → List ℕ → SettleCall
settle_refused r l m = record { answer = Err r; list = l; reasons = m }

-- "Tables: 1, 2, 3, 4, 5, then .. 14 (settle)"; "Turned away: 19, reason list short, after 14" (A5)
unfoldable pub settle_call : ℕ → List ℤ → List ℤ → List ℕ → SettleCall
settle_call n t l m =
    unless (first_refusal (check n t ∷ at_most n (length l) StateShort ∷ at_most n (length m) ReasonsShort ∷ []))
    (λ r. settle_refused r l m)
    (settled_call n (clauses t) l m)

-- Search ----------------------------------------------------------------------------------------------------------

pub record SearchCall : Type 0 where
  pub answer : Result Searched Refusal
  pub plan : List ℕ
  pub trail : List ℤ

abbrev pub search_answer : Limited Choice → Result Searched Refusal
search_answer r = searching r.outcome r.count

abbrev pub searched_call : ℕ → Limited Choice → List ℕ → List ℤ → SearchCall
searched_call n r plan trail =
    record { answer = search_answer r; plan = over n (plan_of n r.found) plan; trail = over n (trail_of n r.found) trail }

abbrev pub search_refused : Refusal → List ℕ → List ℤ → SearchCall
search_refused r plan trail = record { answer = Err r; plan = plan; trail = trail }

-- "Tables: 1, 2, 3, 4, 5, then 6, 7 (search)"
unfoldable pub search_call : ℕ → List ℤ → ℕ → List ℕ → List ℤ → SearchCall
search_call n t b plan trail =
    unless (first_refusal (check n t ∷ at_most n (length plan) PlanShort ∷ at_most n (length trail) TrailShort ∷ []))
    (λ r. search_refused r plan trail)
    (searched_call n (search n t b) plan trail)

-- List ------------------------------------------------------------------------------------------------------------

pub record ListCall : Type 0 where
  pub answer : Result Listed Refusal
  pub rows : List ℕ

-- "place is the rows written, and the answer says "more" when a further one exists and otherwise not"
abbrev pub list_answer : ℕ → Limited Choice → Result Listed Refusal
list_answer k r = listing r.outcome (min k (length r.found)) (ltb k (length r.found)) r.count

-- a stop finds nothing: "place 0, the first k times n bytes 0, no "more""
abbrev pub listed_call : ℕ → ℕ → Limited Choice → List ℕ → ListCall
listed_call n k r rows = record { answer = list_answer k r; rows = over (k * n) (rows_of n k (choices_found r.found)) rows }

abbrev pub list_refused : Refusal → List ℕ → ListCall
list_refused r rows = record { answer = Err r; rows = rows }

-- "Turned away: 1 to 5, then 27, row room under k times n."
unfoldable pub list_call : ℕ → List ℤ → ℕ → ℕ → List ℕ → ListCall
list_call n t k b rows = unless (first_refusal (check n t ∷ at_most (k * n) (length rows) RowsShort ∷ [])) (λ r. list_refused r rows) (listed_call n k (list n t k b) rows)

-- Index -----------------------------------------------------------------------------------------------------------

pub record IndexCall : Type 0 where
  pub answer : Checked
  pub heads : List Head

abbrev pub index_refused : Refusal → List Head → IndexCall
index_refused r hs = record { answer = Err r; heads = hs }

abbrev pub indexed_call : List ℤ → List Head → IndexCall
indexed_call t hs = record { answer = pass; heads = over (zeros t) (heads_of t) hs }

-- "Tables: 1, 2, 3, 4, 5, then .. 8 (index)"
unfoldable pub index_call : ℕ → List ℤ → List Head → IndexCall
index_call n t hs = unless (first_refusal (check n t ∷ at_most (zeros t) (length hs) HeadsShort ∷ [])) (λ r. index_refused r hs) (indexed_call t hs)

-- Add -------------------------------------------------------------------------------------------------------------

pub record AddCall : Type 0 where
  pub answer : Result ℕ Refusal
  pub buffer : List ℤ

abbrev pub add_refused : Refusal → List ℤ → AddCall
add_refused r b = record { answer = Err r; buffer = b }

-- "or a zero .. in an added list"
abbrev pub is_wrong : ℕ → ℤ → Bool
is_wrong n e = closes e || is_unknown n e

abbrev pub list_unknown : ℕ → Option ℕ → Checked
list_unknown k None = pass
list_unknown k (Some i) = refused (unknown_variable k) i

-- "5 on the list (place u plus its index there)"; k is the number that the added group would have (document 02, A2)
unfoldable pub unknown_in : ℕ → ℕ → ℕ → List ℤ → Checked
unknown_in u k n g = list_unknown k (first_place (is_wrong n) u g)

-- "The list and a closing 0 are stored at u"
abbrev pub added : ℕ → List ℤ → List ℤ → List ℤ
added u g b = take u b ++ (g ++ (posℤ 0 ∷ drop (u + length g + 1) b))

abbrev pub added_call : ℕ → List ℤ → List ℤ → AddCall
added_call u g b = record { answer = Ok (u + length g + 1); buffer = added u g b }

-- "Add: 12, then 1 to 5 on the used part, 2 and 3 with the group added (each element of the list counts as an entry), 5 on the list": all but the room
unfoldable pub check_group : ℕ → ℕ → List ℤ → List ℤ → Checked
check_group u n g b =
    let t = take u b in
    first_refusal (at_most u (length b) UsedLengthWrong ∷ check n t ∷ at_most (zeros t + 1) max_clauses TooManyClauses ∷ at_most (nonzeros t + length g) max_literals TooManyLiterals ∷
    unknown_in u (zeros t + 1) n g ∷ [])

-- and then 23, where the table has room for so many elements
abbrev pub check_added : ℕ → ℕ → List ℤ → List ℤ → ℕ → Checked
check_added u n g b room = first_refusal (check_group u n g b ∷ at_most (u + length g + 1) room TableShort ∷ [])

unfoldable pub add_call : ℕ → ℕ → List ℤ → List ℤ → AddCall
add_call u n g b = unless (check_added u n g b (length b)) (λ r. add_refused r b) (added_call u g b)

-- Taking back -----------------------------------------------------------------------------------------------------

pub record TakeBackCall : Type 0 where
  pub answer : Result ℕ Refusal
  pub buffer : List ℤ

abbrev pub take_back_refused : Refusal → List ℤ → TakeBackCall
take_back_refused r b = record { answer = Err r; buffer = b }

-- "its elements and its closing zero become 0": those from v, the new used length, up to u
abbrev pub cleared : ℕ → ℕ → List ℤ → List ℤ
cleared v u b = take v b ++ (replicate (u - v) (posℤ 0) ++ drop u b)

-- "the last group of the used part is removed"
abbrev pub taken_back_call : ℕ → List ℤ → TakeBackCall
taken_back_call u b = let v = last_start (take u b) in record { answer = Ok v; buffer = cleared v u b }

-- "taking back has 12, 1 to 5, then 28, nothing to take back, when there is no group" (document 02, A7)
unfoldable pub take_back_call : ℕ → ℕ → List ℤ → TakeBackCall
take_back_call u n b =
    unless (first_refusal (at_most u (length b) UsedLengthWrong ∷ check n (take u b) ∷ refused_if (eqb (zeros (take u b)) 0) NoClause ∷ []))
    (λ r. take_back_refused r b)
    (taken_back_call u b)

-- Preview ---------------------------------------------------------------------------------------------------------

-- "a copy with room enough" for list g
abbrev pub with_room : List ℤ → List ℤ → List ℤ
with_room g b = b ++ replicate (length g + 1) (posℤ 0)

-- Settle of the used part that Add leaves, unless Add refuses
abbrev pub settle_after : Result ℕ Refusal → ℕ → List ℤ → List ℤ → List ℕ → SettleCall
settle_after (Err r) n b l m = settle_refused r l m
settle_after (Ok u) n b l m = settle_call n (take u b) l m

-- "the state list and reasons, and .. the number, that settling would after adding it to a copy with room enough"; "add's refusals without 23, then 14, 19" (document 02, A7)
unfoldable pub preview_call : ℕ → ℕ → List ℤ → List ℤ → List ℤ → List ℕ → SettleCall
preview_call u n g b l m =
    let a = add_call u n g (with_room g b) in
    unless (at_most u (length b) UsedLengthWrong) (λ r. settle_refused r l m) (settle_after a.answer n a.buffer l m)

-- Read ------------------------------------------------------------------------------------------------------------

pub record ReadCall : Type 0 where
  pub answer : Result Read Refusal
  pub table : List ℤ

-- the table is written only where the whole strip passes
abbrev pub read_as : Decoding → List ℤ → ReadCall
read_as d t = record { answer = d.reading; table = over (length d.table) d.table t }

unfoldable pub read_call : List ℕ → List ℤ → ReadCall
read_call s t = read_as (read_strip s (length t)) t

-- Save ------------------------------------------------------------------------------------------------------------

-- what is asked of a table: "1 to 5 as for any table", then that it names every placement (A3)
unfoldable pub save_check : ℕ → List ℤ → Checked
save_check n t = first_refusal (check n t ∷ refused_if (not (mentions_all n t)) UnmentionedVariable ∷ [])

pub record SaveCall : Type 0 where
  pub answer : Result ℕ Refusal
  pub strip : List ℕ

-- "On refusal the strip buffer is untouched"
abbrev pub save_refused : Refusal → List ℕ → SaveCall
save_refused r s = record { answer = Err r; strip = s }

-- "past the written bytes it is untouched always"
abbrev pub saved_call : List ℕ → List ℕ → SaveCall
saved_call b s = record { answer = Ok (length b); strip = over (length b) b s }

-- "Turned away: 1 to 5 as for any table, then 25, strip room short."; 26 "in saving after 5 and before 25" (A3)
unfoldable pub save_call : ℕ → List ℤ → List ℕ → SaveCall
save_call n t s =
    unless (first_refusal (save_check n t ∷ at_most (length (saved_strip n t)) (length s) StripShort ∷ []))
    (λ r. save_refused r s)
    (saved_call (saved_strip n t) s)

-- Solving a strip: reading it, and searching what was read ---------------------------------------------------------

abbrev pub solve_read : Result Read Refusal → List ℤ → ℕ → List ℕ → List ℤ → SearchCall
solve_read (Err f) t b plan trail = search_refused f plan trail
solve_read (Ok d) t b plan trail = search_call d.variables t b plan trail

-- there is room for the table of every strip within the limits
unfoldable pub solve_call : List ℕ → ℕ → List ℕ → List ℤ → SearchCall
solve_call s b plan trail = let d = read_strip s max_table in solve_read d.reading d.table b plan trail

-- the placements of the strip, 0 where it is refused
unfoldable pub solve_variables : List ℕ → ℕ
solve_variables s = read_variables (read_strip s max_table).reading

-- Window ----------------------------------------------------------------------------------------------------------

-- "The receipt becomes 16 bytes, with the group number last" (document 02, A2)
abbrev pub receipt_length : ℕ
receipt_length = 16

-- "four bytes each, high byte first"
abbrev pub bytes4 : ℕ → List ℕ
bytes4 v = v / 16777216 ∷ v / 65536 % 256 ∷ v / 256 % 256 ∷ v % 256 ∷ []

abbrev pub receipt_bytes : Receipt → List ℕ
receipt_bytes r = bytes4 r.number ++ (bytes4 r.place ++ (bytes4 r.count ++ bytes4 r.clause.0))

pub record WindowCall : Type 0 where
  pub number : ℕ
  pub plan : List ℕ
  pub receipt : List ℕ

-- "The call itself returns the number"
abbrev pub written : SearchCall → List ℕ → WindowCall
written c old = let r = searching_receipt c.answer in record { number = r.number; plan = c.plan; receipt = over receipt_length (receipt_bytes r) old }

-- "Window: 9, strip refusals except 23, then 6"; "It searches what was read, without a trail": the trail is its own
unfoldable pub window_call : List ℕ → ℕ → List ℕ → List ℕ → WindowCall
window_call s b plan old =
    cond (ltb (length old) receipt_length)
    (record { number = number_of ReceiptShort; plan = plan; receipt = old })
    (written (solve_call s b plan (replicate max_variables (posℤ 0))) old)
