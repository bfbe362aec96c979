-- What the functions answer, read as the definitions say it.
use Rattle.std.specs.Prelude.{Bool, not, cond, List, ℕ, ℤ, take, Result, Ok, Err}
use Rattle.scan.specs.declared.Scanned.{Scanned}
use Rattle.scan.specs.declared.WrongWord.{WrongWord}
use Rattle.scan.specs.Scan.{is_blank, Filing, filing, wrong}

-- blanks are asked for, or what is none
abbrev pub blank_is : Bool → ℕ → Bool
blank_is asked b = cond asked (is_blank b) (not (is_blank b))

-- the table is the first cells; those past it are free
abbrev pub scanned_of : Result Scanned WrongWord → List ℤ → Filing
scanned_of (Ok s) cells = filing s.variables (take s.used cells)
scanned_of (Err w) cells = wrong w.place
