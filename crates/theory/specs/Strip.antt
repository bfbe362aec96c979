-- The strip: its commands, where each is allowed, and what reading one makes of a table.
use Rattle.receipt.specs.Answers.{reading}
use Rattle.std.specs.Prelude.{Bool, true, false, ◌||◌, cond, List, [], ◌∷◌, ◌++◌, ℕ, zero, suc, ◌+◌, ◌*◌, eqb, leb, ltb, ℤ, pos, length, get_or}
use Rattle.std.specs.Prelude.{Option, None, Some}
use Rattle.general.specs.Search.{find}
use Rattle.literal.specs.declared.Literal.{Literal}
use Rattle.literal.specs.declared.Literal.TheVariants.{Pos, Neg}
use Rattle.literal.specs.Literal.{var, entry_of, max_variables, max_clauses, max_literals}
use Rattle.receipt.specs.declared.Fault.TheVariants.{TooManyVariables, TooManyClauses, TooManyLiterals, UnknownMark, CutStrip, OutOfTurn, TableShort, StripTooLong, UnmentionedVariable}
use Rattle.receipt.specs.declared.Fault.{Fault}
use Rattle.receipt.specs.declared.Refusal.{Refusal}
use Rattle.std.specs.Prelude.{Result, Ok, Err}
use Rattle.receipt.specs.declared.Read.{Read}
use Rattle.receipt.specs.Receipt.{unknown_variable, refusal}
use Rattle.theory.specs.declared.Mark.{Mark}
use Rattle.theory.specs.declared.Mark.TheVariants.{Placements, Chapter, Opens, Taken, LeftOut, Closes, Ends}
use Rattle.theory.specs.declared.Turn.{Turn}
use Rattle.theory.specs.declared.Turn.TheVariants.{Start, Outside, Inside, After}
use Rattle.theory.specs.declared.Command.{Command}
use Rattle.theory.specs.declared.Progress.{Progress}
use Rattle.theory.specs.declared.Obeyed.{Obeyed}
use Rattle.theory.specs.Mentions.{mentions_all}

-- Commands ----------------------------------------------------------------------------------------------------------

-- "Commands of one byte", "Bytes in hexadecimal"
abbrev pub byte_of : Mark → ℕ
byte_of Placements = 0x50
byte_of Chapter = 0x43
byte_of Opens = 0x47
byte_of Taken = 0x54
byte_of LeftOut = 0x4C
byte_of Closes = 0x45
byte_of Ends = 0x5A

abbrev pub marks : List Mark
marks = Placements ∷ Chapter ∷ Opens ∷ Taken ∷ LeftOut ∷ Closes ∷ Ends ∷ []

-- the mark whose byte it is
unfoldable pub mark_of : ℕ → Option Mark
mark_of b = find (λ m. eqb b (byte_of m)) marks

-- the number of bytes of its operand
abbrev pub operand_bytes : Mark → ℕ
operand_bytes Placements = 2
operand_bytes Chapter = 1
operand_bytes Opens = 0
operand_bytes Taken = 2
operand_bytes LeftOut = 2
operand_bytes Closes = 0
operand_bytes Ends = 0

-- where each command is allowed; after the end none is
abbrev pub turn_of : Mark → Turn
turn_of Placements = Start
turn_of Chapter = Outside
turn_of Opens = Outside
turn_of Taken = Inside
turn_of LeftOut = Inside
turn_of Closes = Inside
turn_of Ends = Outside

abbrev pub same : Turn → Turn → Bool
same Start Start = true
same Start Outside = false
same Start Inside = false
same Start After = false
same Outside Start = false
same Outside Outside = true
same Outside Inside = false
same Outside After = false
same Inside Start = false
same Inside Outside = false
same Inside Inside = true
same Inside After = false
same After Start = false
same After Outside = false
same After Inside = false
same After After = true

-- "operands high byte first": the k bytes after the mark at index i
abbrev pub operand_at : List ℕ → ℕ → ℕ → ℕ
operand_at s i k = cond (eqb k 0) 0 (cond (eqb k 1) (get_or s (i + 1) 0) (get_or s (i + 1) 0 * 256 + get_or s (i + 2) 0))

abbrev pub commands : Mark → ℕ → ℕ → Result Command Refusal
commands m v j = Ok (record { mark = m; operand = v; next = j })

-- "command by command 20, 22, 21": the command at index i, "or a refusal with its place"
abbrev pub command_of : List ℕ → ℕ → Turn → Option Mark → Result Command Refusal
command_of s i t None = Err (refusal UnknownMark i)
command_of s i t (Some m) =
    cond (same t (turn_of m))
    (cond (leb (i + 1 + operand_bytes m) (length s))
    (commands m (operand_at s i (operand_bytes m)) (i + 1 + operand_bytes m))
    (Err (refusal CutStrip i)))
    (Err (refusal OutOfTurn i))

unfoldable pub command_at : List ℕ → ℕ → Turn → Result Command Refusal
command_at s i t = command_of s i t (mark_of (get_or s i 0))

-- What a command does -----------------------------------------------------------------------------------------------

abbrev pub progress : Turn → ℕ → ℕ → ℕ → Progress
progress t n c l = record { turn = t; variables = n; clauses = c; literals = l }

abbrev pub nothing_read : Progress
nothing_read = progress Start 0 0 0

-- a command that is not refused: the numbers after it, and what it stores
abbrev pub obeyed : Progress → Option ℤ → Result Obeyed Fault
obeyed q e = Ok (record { progress = q; stored = e })

-- an entry: "value (1 or 5), limit (.., 3 at the 2,049th entry)"; 5 names the group that is open, the last one opened
abbrev pub entered : Progress → Literal → Result Obeyed Fault
entered p l =
    cond (eqb (var l) 0 || ltb p.variables (var l)) (Err (unknown_variable p.clauses))
    (cond (ltb p.literals max_literals)
    (obeyed (progress Inside p.variables p.clauses (p.literals + 1)) (Some (entry_of l)))
    (Err TooManyLiterals))

-- the number of placements, the opening of a group, and its closing
abbrev pub declared : Progress → ℕ → Result Obeyed Fault
declared p n = cond (ltb max_variables n) (Err TooManyVariables) (obeyed (progress Outside n p.clauses p.literals) None)

abbrev pub opened : Progress → Result Obeyed Fault
opened p = cond (ltb p.clauses max_clauses) (obeyed (progress Inside p.variables (p.clauses + 1) p.literals) None) (Err TooManyClauses)

abbrev pub closed : Progress → Result Obeyed Fault
closed p = obeyed (progress Outside p.variables p.clauses p.literals) (Some (pos 0))

-- the end mark: it may stand here, or it is "26, unnamed placement, in reading at the end mark" (document 02, A3)
abbrev pub ended : Progress → Bool → Result Obeyed Fault
ended p may = cond may (obeyed (progress After p.variables p.clauses p.literals) None) (Err UnmentionedVariable)

-- what a command with operand v does: limits are counted over the whole filing, "2 at the 513th opening", "Chapters don't change the table",
-- "entries and closings each need an element"; may says whether the end mark may stand here
unfoldable pub obey : Progress → Bool → ℕ → Mark → Result Obeyed Fault
obey p may v Placements = declared p v
obey p may v Chapter = obeyed p None
obey p may v Opens = opened p
obey p may v Taken = entered p (Pos v)
obey p may v LeftOut = entered p (Neg v)
obey p may v Closes = closed p
obey p may v Ends = ended p may

-- The whole strip ---------------------------------------------------------------------------------------------------

-- the answer, and the table that was read; a refused strip has none
pub record Decoding : Type 0 where
  pub reading : Result Read Refusal
  pub table : List ℤ

abbrev pub not_read : Refusal → Decoding
not_read f = record { reading = Err f; table = [] }

-- at the end of a strip of n bytes, with u elements read: "Missing 5A: place is the strip's length"
abbrev pub ending : ℕ → Progress → ℕ → Result Read Refusal
ending n p u = cond (same p.turn After) (reading p.variables u) (Err (refusal CutStrip n))

abbrev pub finish : List ℕ → Progress → List ℤ → Decoding
finish s p t = record { reading = ending (length s) p (length t); table = cond (same p.turn After) t [] }

module _ (room : ℕ) where
  -- last of all 23, "no room for the next element"; i is the command's place
  abbrev pub storing : (List ℤ → Decoding) → ℕ → List ℤ → Option ℤ → Decoding
  storing go i t None = go t
  storing go i t (Some e) = cond (ltb (length t) room) (go (t ++ (e ∷ []))) (not_read (refusal TableShort i))

  abbrev pub onward : (Progress → List ℤ → Decoding) → ℕ → List ℤ → Result Obeyed Fault → Decoding
  onward go i t (Ok o) = storing (go o.progress) i t o.stored
  onward go i t (Err why) = not_read (refusal why i)

-- whether the end mark may stand after the table of so many placements that was read
abbrev pub EndRule : Type 0
EndRule = ℕ → List ℤ → Bool

module _ (rule : EndRule) (s : List ℕ) (room : ℕ) where
  abbrev pub follow : (ℕ → Progress → List ℤ → Decoding) → ℕ → Progress → List ℤ → Result Command Refusal → Decoding
  follow go i p t (Ok c) = onward room (go c.next) i t (obey p (rule p.variables t) c.operand c.mark)
  follow go i p t (Err f) = not_read f

  -- command by command, with fuel for k - 1 commands
  unfoldable pub read_from : ℕ → ℕ → Progress → List ℤ → Decoding
  read_from zero i p t = not_read (refusal CutStrip i)
  read_from (suc k) i p t = cond (ltb i (length s)) (follow (read_from k) i p t (command_at s i p.turn)) (finish s p t)

-- "Strips: 24 first, place 0"
abbrev pub max_strip : ℕ
max_strip = 16384

-- the reading of a strip with room for so many elements: each command takes a byte, so fuel of one more than the length is enough
unfoldable pub read_by : EndRule → List ℕ → ℕ → Decoding
read_by rule s room = cond (ltb max_strip (length s)) (not_read (refusal StripTooLong 0)) (read_from rule s room (suc (length s)) 0 nothing_read [])

-- "A strip must name every declared placement in at least one entry." (document 02, A3)
abbrev pub read_strip : List ℕ → ℕ → Decoding
read_strip s room = read_by mentions_all s room

-- document 01's reading, as it was before A3: the end mark may stand after every table
abbrev pub free : EndRule
free n t = true

abbrev pub read_freely : List ℕ → ℕ → Decoding
read_freely s room = read_by free s room
