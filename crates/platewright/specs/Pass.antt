-- A pass over a table as C keeps it between two parts, and back.
use Rattle.std.specs.Prelude.{Bool, true, false, cond, List, [], ◌∷◌, ℕ, ℤ, Option, None, Some}
use Rattle.literal.specs.Literal.{clause_number}
use Rattle.table.specs.declared.Unknown.{Unknown}
use Rattle.table.specs.declared.Pass as table
use Rattle.table.specs.Pass.{after}
use Rattle.platewright.specs.declared.Pass.{Pass}

abbrev pub found_in : Option Unknown → Bool
found_in None = false
found_in (Some w) = true

abbrev pub place_in : Option Unknown → ℕ
place_in None = 0
place_in (Some w) = w.place

abbrev pub clause_in : Option Unknown → ℕ
clause_in None = 0
clause_in (Some w) = w.clause.0

abbrev pub lent_pass : table.Pass → Pass
lent_pass p =
    let u = p.unknown in
    record { variables = p.variables; place = place_in u; clause = clause_in u; clauses = p.clauses; literals = p.literals; unclosed = p.unclosed; unknown = found_in u }

abbrev pub pass_of : Pass → table.Pass
pass_of p =
    record { variables = p.variables; clauses = p.clauses; literals = p.literals; unclosed = p.unclosed; unknown = cond p.unknown (Some (record { place = p.place; clause = clause_number p.clause })) None }

-- one part after the other, each with what C kept of those before
unfoldable pub parts : Pass → List (List ℤ) → Pass
parts p [] = p
parts p (t ∷ ts) = parts (lent_pass (after (pass_of p) t)) ts
