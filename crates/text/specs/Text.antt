-- Text as bytes: words, numbers, lines of words, and the line of a refusal.
use Rattle.std.specs.Prelude.{true, false, cond, List, [], ◌∷◌, ◌++◌, ℕ, zero, suc, ◌+◌, ◌/◌, ◌%◌, eqb, ltb, ℤ, pos, negsuc}
use Prim.Native.Char.{code}
use Prim.Native.String.{String, [] as empty, ◌∷◌ as character}
use Rattle.receipt.specs.declared.Fault.{Fault}
use Rattle.receipt.specs.declared.Refusal.{Refusal}
use Rattle.receipt.specs.Receipt.{number_of, named_clause}

-- the codes of a text's characters
abbrev pub codes : String → List ℕ
codes empty = []
codes (character c s) = code c ∷ codes s

-- Numbers ---------------------------------------------------------------------------------------------------------

abbrev pub digit : ℕ → ℕ
digit d = 48 + d

-- the decimal digits of v, with fuel for so many
unfoldable pub digits_within : ℕ → ℕ → List ℕ
digits_within zero v = []
digits_within (suc k) v = elim (ltb v 10) [ true ↦ digit v ∷ [] | false ↦ digits_within k (v / 10) ++ (digit (v % 10) ∷ []) ]

-- a number has no more digits than one more than itself
unfoldable pub decimal : ℕ → List ℕ
decimal v = digits_within (suc v) v

abbrev pub signed : ℤ → List ℕ
signed (pos k) = decimal k
signed (negsuc k) = codes "-" ++ decimal (suc k)

-- Lines -----------------------------------------------------------------------------------------------------------

-- each word after a single space
unfoldable pub spaced : List (List ℕ) → List ℕ
spaced [] = []
spaced (w ∷ ws) = codes " " ++ (w ++ spaced ws)

-- a word, further words, and one newline byte
abbrev pub line : List ℕ → List (List ℕ) → List ℕ
line w ws = w ++ (spaced ws ++ codes "\n")

-- after the place: "The layout program's refused line for 5 ends with the group number." (document 02, A2)
abbrev pub clause_words : Fault → List (List ℕ)
clause_words why = cond (eqb (number_of why) 5) (decimal (named_clause why).0 ∷ []) []

-- a refusal: "one line, `refused`, number, place, with single spaces"
abbrev pub refused_text : Refusal → List ℕ
refused_text f = line (codes "refused") (decimal (number_of f.fault) ∷ decimal f.place ∷ clause_words f.fault)
