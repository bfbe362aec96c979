-- What a strip is refused for, and which number comes first: "Strips: 24 first, place 0; then command by command 20, 22, 21, value (1 or 5), limit (2 .., 3 ..), 23";
-- 26 "in reading at the end mark" (document 02, A3). The place is the command's, but for a missing 5A the strip's length.
use Rattle.std.specs.Prelude.{◌≡◌, true, false, ◌⊎◌, List, [], ◌∷◌, ◌++◌, ℕ, ◌+◌, ◌<◌, ◌≤◌, ℤ, length, get_or}
use Rattle.std.specs.Prelude.{None, Some}
use Rattle.literal.specs.Literal.{max_variables, max_clauses, max_literals}
use Rattle.receipt.specs.declared.Fault.{Fault}
use Rattle.receipt.specs.declared.Fault.TheVariants.{TooManyVariables, TooManyClauses, TooManyLiterals, UnknownMark, CutStrip, OutOfTurn, TableShort, StripTooLong, UnmentionedVariable}
use Rattle.receipt.specs.declared.Refusal.{Refusal}
use Rattle.receipt.specs.Receipt.{unknown_variable, refusal}
use Rattle.theory.specs.declared.Mark.{Mark}
use Rattle.theory.specs.declared.Mark.TheVariants.{Placements, Opens, Taken, LeftOut, Ends}
use Rattle.theory.specs.declared.Turn.TheVariants.{After}
use Rattle.std.specs.Prelude.{Option}
use Rattle.theory.specs.declared.Progress.{Progress}
use Rattle.theory.specs.Mentions.{mentions_all}
use Rattle.theory.specs.Strip.{mark_of, operand_bytes, turn_of, same, command_at, nothing_read, obey, max_strip, commands, obeyed}

-- the table with what a command stores
abbrev pub with : List ℤ → Option ℤ → List ℤ
with t None = t
with t (Some e) = t ++ (e ∷ [])

-- the two marks of an entry
abbrev pub IsEntry : Mark → Type 0
IsEntry m = (m ≡ Taken) ⊎ (m ≡ LeftOut)

module _ (s : List ℕ) (room : ℕ) where
  -- the commands before index i are obeyed, and leave this progress and this table
  pub data Reads : ℕ → Progress → List ℤ → Type 0 where
    begun : Reads 0 nothing_read []
    goes : {i : ℕ} {p : Progress} {t : List ℤ} → Reads i p t → i < length s → (m : Mark) (v j : ℕ) → command_at s i p.turn ≡ commands m v j →
        (q : Progress) (e : Option ℤ) → obey p (mentions_all p.variables t) v m ≡ obeyed q e → length (with t e) ≤ room → Reads j q (with t e)

  -- the first fault of the command at index i; each case says that those above it in document 01's order don't hold
  pub data FirstFault (i : ℕ) (p : Progress) (t : List ℤ) : Fault → Type 0 where
    -- 20: no mark has this byte
    unknown_mark : mark_of (get_or s i 0) ≡ None → FirstFault i p t UnknownMark
    -- 22: a mark that isn't allowed here
    out_of_turn : (m : Mark) → mark_of (get_or s i 0) ≡ Some m → same p.turn (turn_of m) ≡ false → FirstFault i p t OutOfTurn
    -- 21: one that is, with its operand past the strip's end
    cut : (m : Mark) → mark_of (get_or s i 0) ≡ Some m → same p.turn (turn_of m) ≡ true → length s < i + 1 + operand_bytes m → FirstFault i p t CutStrip
    -- 1: placements over 256
    variables_over : (v j : ℕ) → command_at s i p.turn ≡ commands Placements v j → max_variables < v → FirstFault i p t TooManyVariables
    -- 5: an entry of 0 or of an unknown placement; the group is the one that is open
    unknown_variable_lem : (m : Mark) → IsEntry m → (v j : ℕ) → command_at s i p.turn ≡ commands m v j → (v ≡ 0) ⊎ (p.variables < v) → FirstFault i p t (unknown_variable p.clauses)
    -- "2 at the 513th opening"
    clauses_over : (v j : ℕ) → command_at s i p.turn ≡ commands Opens v j → max_clauses ≤ p.clauses → FirstFault i p t TooManyClauses
    -- "3 at the 2,049th entry"
    literals_over : (m : Mark) → IsEntry m → (v j : ℕ) → command_at s i p.turn ≡ commands m v j → 0 < v → v ≤ p.variables → max_literals ≤ p.literals → FirstFault i p t TooManyLiterals
    -- 26: an end mark before which some placement isn't named
    unmentioned : (v j : ℕ) → command_at s i p.turn ≡ commands Ends v j → mentions_all p.variables t ≡ false → FirstFault i p t UnmentionedVariable
    -- 23: "no room for the next element"
    table_short : (m : Mark) (v j : ℕ) → command_at s i p.turn ≡ commands m v j → (q : Progress) (e : ℤ) → obey p (mentions_all p.variables t) v m ≡ obeyed q (Some e) → room ≤ length t →
        FirstFault i p t TableShort

  -- the strip is refused with this number at this place
  pub data RefusedStrip : Refusal → Type 0 where
    -- "24 first, place 0"
    too_long : max_strip < length s → RefusedStrip (refusal StripTooLong 0)
    -- the command at index i, after commands that are obeyed
    at_command : length s ≤ max_strip → (i : ℕ) (p : Progress) (t : List ℤ) → Reads i p t → i < length s → (why : Fault) → FirstFault i p t why → RefusedStrip (refusal why i)
    -- "Missing 5A: place is the strip's length"
    no_end : length s ≤ max_strip → (p : Progress) (t : List ℤ) → Reads (length s) p t → same p.turn After ≡ false → RefusedStrip (refusal CutStrip (length s))
