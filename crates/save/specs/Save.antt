-- What Save writes, element by element of the table, and a call of Save: its answer, and the strip buffer after it.
use Rattle.std.specs.Prelude.{Bool, cond, List, [], ◌∷◌, ◌++◌, ℕ, ℤ, Result}
use Rattle.literal.specs.declared.Literal.{Literal}
use Rattle.literal.specs.Literal.{is_open, literal_of}
use Rattle.receipt.specs.declared.Refusal.{Refusal}
use Rattle.theory.specs.declared.Mark.TheVariants.{Opens, Closes}
use Rattle.theory.specs.Encoding.{command_bytes, entry_bytes}
use Rattle.theory.specs.Calls.{SaveCall}

-- 47 before the first element of a group
abbrev pub opening_bytes : Bool → List ℕ
opening_bytes inside = cond inside [] (command_bytes Opens 0)

-- an entry; or the 0 that closes the group, which reads as the constant
abbrev pub element_bytes : Literal → List ℕ
element_bytes l = cond (is_open l) (entry_bytes (l ∷ [])) (command_bytes Closes 0)

-- the elements of a table; inside a group the element before is an entry
unfoldable pub elements_bytes : Bool → List ℤ → List ℕ
elements_bytes inside [] = []
elements_bytes inside (e ∷ t) = (opening_bytes inside ++ element_bytes (literal_of e)) ++ elements_bytes (is_open (literal_of e)) t

abbrev pub called : Result ℕ Refusal → List ℕ → SaveCall
called r s = record { answer = r; strip = s }
