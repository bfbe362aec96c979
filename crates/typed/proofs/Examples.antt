-- A text of each kind, and what it gets.
use mathlib.Core.Path.{◌≡◌, refl}
use mathlib.Core.List.{List, [], ◌∷◌, map}
use Prim.Native.Nat.{ℕ}
use Prim.Native.String.{String}
use Rattle.general.specs.Search.{first_place, any}
use Rattle.theory.specs.Formula.{clauses}
use Rattle.theory.specs.Calls.{save_check}
use Rattle.theory.specs.Mentions.{mentions_all}
use Rattle.theory.specs.Table.{check, zeros, nonzeros, ends_open}
use Rattle.theory.specs.Encoding.{entry_bytes, item_bytes, saved_strip}
use Rattle.scan.specs.Scan.{value_from, leading, word_at, table_from}
use Rattle.text.specs.Text.{codes, digits_within, decimal, spaced}
use Rattle.typed.specs.Typed.{Output, strip, message, output_of}

pub record Row : Type 0 where
  pub text : List ℕ
  pub output : Output

abbrev pub row : String → Output → Row
row s o = record { text = codes s; output = o }

abbrev pub rows : List Row
rows =
    row "3 1 2 3 0\n" (strip (0x50 ∷ 0x00 ∷ 0x03 ∷ 0x47 ∷ 0x54 ∷ 0x00 ∷ 0x01 ∷ 0x54 ∷ 0x00 ∷ 0x02 ∷ 0x54 ∷ 0x00 ∷ 0x03 ∷ 0x45 ∷ 0x5A ∷ []))
    ∷ row " 1\n-1 0" (strip (0x50 ∷ 0x00 ∷ 0x01 ∷ 0x47 ∷ 0x4C ∷ 0x00 ∷ 0x01 ∷ 0x45 ∷ 0x5A ∷ []))
    ∷ row "2 1 0" (message (codes "refused 26 0\n"))
    ∷ row "1 -32768 0" (message (codes "refused 5 0 1\n"))
    ∷ row "1 32768 0" (message (codes "no valid number at byte 2\n"))
    ∷ row " -1" (message (codes "no valid number at byte 1\n"))
    ∷ row "" (message (codes "no valid number at byte 0\n"))
    ∷ []

pub examples_hold : map (λ (r : Row). output_of r.text) rows ≡ map (λ (r : Row). r.output) rows
unfolding output_of word_at leading value_from table_from save_check check zeros nonzeros ends_open first_place any mentions_all clauses saved_strip item_bytes entry_bytes decimal digits_within spaced
examples_hold = refl
