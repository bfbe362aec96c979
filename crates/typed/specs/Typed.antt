-- What strip_of writes for a text: the strip that Save makes of the filing typed in it, or one line that says what is wrong, and where.
use Rattle.std.specs.Prelude.{◌≡◌, cond, List, [], ◌∷◌, ◌++◌, ℕ, ◌≤◌, ltb, ℤ, length, take, Result, Ok, Err}
use Rattle.general.specs.Times.{times}
use Rattle.std.specs.Prelude.{Ok, Err}
use Rattle.receipt.specs.Receipt.{Checked, pass}
use Rattle.theory.specs.Encoding.{saved_strip}
use Rattle.theory.specs.Calls.{over, save_check}
use Rattle.scan.specs.Scan.{Filing, filing, wrong, filing_of}
use Rattle.text.specs.Text.{codes, decimal, line, refused_text}
use Rattle.typed.specs.declared.Message.{Message}

-- the bytes of the longest text
abbrev pub max_text : ℕ
max_text = 32768

-- the bytes for standard output, or those for standard error
pub data Output : Type 0 where
  strip : List ℕ → Output
  message : List ℕ → Output

-- what is wrong, and where
abbrev pub place_text : List ℕ → ℕ → List ℕ
place_text what at = line what (decimal at ∷ [])

abbrev pub too_long_text : List ℕ
too_long_text = place_text (codes "text too long at byte") max_text

abbrev pub wrong_text : ℕ → List ℕ
wrong_text at = place_text (codes "no valid number at byte") at

-- a table that Save refuses gets the layout program's line
abbrev pub table_output : Checked → ℕ → List ℤ → Output
table_output (Err f) n t = message (refused_text f)
table_output (Ok u) n t = strip (saved_strip n t)

abbrev pub filing_output : Filing → Output
filing_output (filing n t) = table_output (save_check n t) n t
filing_output (wrong at) = message (wrong_text at)

unfoldable pub output_of : List ℕ → Output
output_of s = cond (ltb max_text (length s)) (message too_long_text) (filing_output (filing_of s))

-- A call ----------------------------------------------------------------------------------------------------------

-- how long the strip or the message is
abbrev pub Typed : Type 0
Typed = Result ℕ Message

abbrev pub message_of : ℕ → Message
message_of k = record { length = k }

-- its answer, and the bytes lent to it
pub record TypedCall : Type 0 where
  pub answer : Typed
  pub out : List ℕ

abbrev pub called : Typed → List ℕ → TypedCall
called r l = record { answer = r; out = l }

-- the output stands at the front of the bytes lent, and those past it are never changed
abbrev pub output_call : Output → List ℕ → TypedCall
output_call (strip b) l = called (Ok (length b)) (over (length b) b l)
output_call (message b) l = called (Err (message_of (length b))) (over (length b) b l)

abbrev pub length_of : Typed → ℕ
length_of (Ok k) = k
length_of (Err m) = m.length

-- What the promises speak of ----------------------------------------------------------------------------------------

-- what an answer says of the bytes after the call
abbrev pub written : Typed → List ℕ → Output
written (Ok k) out = strip (take k out)
written (Err m) out = message (take m.length out)

-- a text within the limit that is a filing whose table Save accepts, where there is room
pub record Filed (s : List ℕ) (n : ℕ) (t : List ℤ) : Type 0 where
  pub short : length s ≤ max_text
  pub is : filing_of s ≡ filing n t
  pub accepted : save_check n t ≡ pass

-- one line: it ends in a newline, and has no other
abbrev pub OneLine : List ℕ → Type 0
OneLine b = (w : List ℕ) × (b ≡ w ++ codes "\n") × (times 10 w ≡ 0)
