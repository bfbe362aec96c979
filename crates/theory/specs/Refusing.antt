-- How a call is refused: checks in an order, each with its number and place. The first that refuses gives the answer, and "a refused call changes no lent element".
use Rattle.std.specs.Prelude.{Bool, false, cond, List, [], ◌∷◌, ◌++◌, ◌≡◌, ℕ, ltb, ℤ}
use Rattle.general.specs.Search.{first_place}
use Rattle.literal.specs.Literal.{max_variables, max_clauses, max_literals}
use Rattle.receipt.specs.declared.Fault.{Fault}
use Rattle.receipt.specs.declared.Fault.TheVariants.{TooManyVariables, TooManyClauses, TooManyLiterals, OpenClause}
use Rattle.receipt.specs.declared.Refusal.{Refusal}
use Rattle.std.specs.Prelude.{Result, Ok, Err}
use Rattle.receipt.specs.Receipt.{Checked, pass}
use Rattle.theory.specs.Table.{zeros, nonzeros, ends_open, refused, is_unknown, table_unknown}

-- refused at place 0 where the test holds
abbrev pub refused_if : Bool → Fault → Checked
refused_if test why = cond test (refused why 0) pass

-- a count above its limit is refused, at place 0
abbrev pub at_most : ℕ → ℕ → Fault → Checked
at_most count limit why = refused_if (ltb limit count) why

-- two checks, one after the other
abbrev pub first_of : Checked → Checked → Checked
first_of (Ok u) c = c
first_of (Err r) c = Err r

-- checks in their order
abbrev pub first_refusal : List Checked → Checked
first_refusal [] = pass
first_refusal (c ∷ cs) = first_of c (first_refusal cs)

-- this refusal is given by the first check that refuses: those before it pass
pub record RefusedFirst (cs : List Checked) (w : Refusal) : Type 0 where
  pub before : List Checked
  pub after : List Checked
  pub whole : cs ≡ before ++ (Err w ∷ after)
  pub passed : first_refusal before ≡ pass

-- the table check, by its checks: "Tables: 1, 2, 3, 4, 5"
abbrev pub table_checks : ℕ → List ℤ → List Checked
table_checks n t =
    at_most n max_variables TooManyVariables ∷
    at_most (zeros t) max_clauses TooManyClauses ∷
    at_most (nonzeros t) max_literals TooManyLiterals ∷
    refused_if (ends_open false t) OpenClause ∷
    table_unknown t (first_place (is_unknown n) 0 t) ∷
    []

-- what a call answers and leaves: what the refusal leaves where the checks refuse, and else what is accepted
abbrev pub unless : {C : Type 0} → Checked → (Refusal → C) → C → C
unless (Ok u) turned accepted = accepted
unless (Err r) turned accepted = turned r

-- "accepted when it isn't refused", of an answer that may be a refusal
abbrev pub NotRefused : {A : Type 0} → Result A Refusal → Type 0
NotRefused r = (w : Refusal) → ¬ (r ≡ Err w)
