-- The clauses of a table as it stands in a state, what is left of one whose literals are read one after the other, and the one that is counted.
use Rattle.std.specs.Prelude.{ℕ, List}
use Rattle.theory.specs.Formula.{Clause}
use Rattle.clause.specs.declared.Standing.{Standing}
use Rattle.clause.specs.declared.Literals.{Literals}
use Rattle.clause.specs.declared.Counted.{Counted}
use Rattle.clause.specs.Reading.{clause_at, clauses_from}

-- the clause that begins at an index, and all that begin from there on
abbrev pub clause_of : Standing → ℕ → Clause
clause_of s from = clause_at s.table.now s.state.now.values from

abbrev pub clauses_of : Standing → ℕ → List Clause
clauses_of s from = clauses_from s.table.now s.state.now.values from

abbrev pub left : Literals → Clause
left l = clause_of l.of l.at

abbrev pub counted : Counted → Clause
counted c = clause_of c.of c.at
