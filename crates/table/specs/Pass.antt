-- The table check as a pass that goes on from where it stopped (document 02, A4): what it keeps of the elements so far, and document 01's refusals 1 to 5 read off it.
use Rattle.std.specs.Prelude.{Bool, false, not, cond, List, [], ◌∷◌, ℕ, ◌+◌, ltb, eqb, ℤ, nat_abs}
use Rattle.literal.specs.declared.ClauseNumber.{ClauseNumber}
use Rattle.literal.specs.Literal.{clause_number, max_variables, max_clauses, max_literals}
use Rattle.receipt.specs.declared.Fault.TheVariants.{TooManyVariables, TooManyClauses, TooManyLiterals, OpenClause, UnknownVariable}
use Rattle.std.specs.Prelude.{Option, None, Some}
use Rattle.std.specs.Option.{option_or}
use Rattle.receipt.specs.Receipt.{Checked, pass}
use Rattle.theory.specs.Table.{refused}
use Rattle.table.specs.declared.Unknown.{Unknown}
use Rattle.table.specs.declared.Pass.{Pass}

-- no element yet, of a filing with n placements
abbrev pub begin : ℕ → Pass
begin n = record { variables = n; clauses = 0; literals = 0; unclosed = false; unknown = None }

-- one past each limit: a table that has so many is refused, whatever follows
abbrev pub enough_clauses : ℕ
enough_clauses = max_clauses + 1

abbrev pub enough_literals : ℕ
enough_literals = max_literals + 1

-- one more, but no further than enough
abbrev pub one_more : ℕ → ℕ → ℕ
one_more count enough = cond (ltb count enough) (count + 1) count

abbrev pub count_if : Bool → ℕ → ℕ → ℕ
count_if b count enough = cond b (one_more count enough) count

-- the index of the next element, and the number of the clause that it stands in; past a limit 2 or 3 speaks first, and neither is asked for
abbrev pub place_next : Pass → ℕ
place_next s = s.clauses + s.literals

abbrev pub clause_next : Pass → ClauseNumber
clause_next s = clause_number (one_more s.clauses enough_clauses)

-- the next element, of size k, if its variable is unknown
abbrev pub unknown_next : Pass → ℕ → Option Unknown
unknown_next s k = cond (ltb s.variables k) (Some (record { place = place_next s; clause = clause_next s })) None

-- the first one found stays
abbrev pub earlier : Option Unknown → Option Unknown → Option Unknown
earlier = option_or

-- one element more, of size k; one of size 0 closes a clause
unfoldable pub next : Pass → ℕ → Pass
next s k =
    record {
      variables = s.variables;
      clauses = count_if (eqb k 0) s.clauses enough_clauses;
      literals = count_if (not (eqb k 0)) s.literals enough_literals;
      unclosed = not (eqb k 0);
      unknown = earlier s.unknown (unknown_next s k);
    }

-- one part more
unfoldable pub after : Pass → List ℤ → Pass
after s [] = s
after s (e ∷ t) = after (next s (nat_abs e)) t

-- one part after the other
unfoldable pub after_all : Pass → List (List ℤ) → Pass
after_all s [] = s
after_all s (t ∷ ts) = after_all (after s t) ts

abbrev pub refused_at : Option Unknown → Checked
refused_at None = pass
refused_at (Some u) = refused (UnknownVariable u.clause) u.place

-- "Tables: 1, 2, 3, 4, 5"
unfoldable pub verdict : Pass → Checked
verdict s =
    cond (ltb max_variables s.variables) (refused TooManyVariables 0)
    (cond (ltb max_clauses s.clauses) (refused TooManyClauses 0)
    (cond (ltb max_literals s.literals) (refused TooManyLiterals 0)
    (cond s.unclosed (refused OpenClause 0)
    (refused_at s.unknown))))
