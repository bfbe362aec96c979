-- Walks over the literals of a clause: those still to be read, and the two walks at the loop's head, at the start, after a turn and at the end.
use mathlib.Core.Path.{◌≡◌, ap}
use mathlib.Core.Bool.{cond}
use mathlib.Core.List.{List, [], ◌∷◌, map}
use Prim.Native.Nat.{ℕ, ◌+◌, ◌/◌, ◌<◌, ◌≤◌}
use native.Mathlib.Omega.{arith}
use lib.Dec.{eqb}
use lib.ListN.{get_or, set, replicate, length, drop, drop_of_length-le}
use Rattle.std.proofs.lemmas.List.{drop_more}
use Rattle.literal.specs.Literal.{var, opposite, code_of, literal_at, max_variables, codes, variables}
use Rattle.literal.proofs.Codes.{var_at, var_code}
use Rattle.theory.specs.Formula.{Clause}
use Rattle.theory.specs.State.{value, standing}
use Rattle.theory.proofs.States.{value_variable}
use Rattle.occurrences.specs.Index.{Indexed, clause_count, clause_of, literals}
use Rattle.occurrences.proofs.Slices.{literals_clause, literal_known}
use Rattle.tally.specs.Tally.{state_in}
use Rattle.tally.specs.Ring.{Classes}
use Rattle.gather.proofs.Written.{stands_for}
use Rattle.meet.specs.Meeting.{Readable, Marked}
use Rattle.meet.proofs.Marks.{Marks, marks_begin, marks_go, marks_end}
use Rattle.meet.proofs.Meeting.{Meeting, meeting_begins, meeting_goes}
use Rattle.occurrences.specs.declared.Index.{Index}
use Rattle.tally.specs.declared.Tally.{Tally}

-- what is still to be read -----------------------------------------------------------------------------------------

-- the literals with codes xs, from place i on
abbrev pub rest_of : List ℕ → ℕ → Clause
rest_of xs i = map literal_at (drop i xs)

pub rest_none : (xs : List ℕ) (i : ℕ) → length xs ≤ i → rest_of xs i ≡ []
rest_none xs i h = ap (map literal_at) (drop_of_length-le xs h)

pub rest_cons : (xs : List ℕ) (i : ℕ) → i < length xs → rest_of xs i ≡ literal_at (get_or xs i 0) ∷ rest_of xs (i + 1)
rest_cons xs i h = ap (map literal_at) (drop_more xs i 0 h)

-- the literal at place i of clause g stands for one of a variable of the array
module _ {ix : Index} (index : Indexed ix) {g : ℕ} (inside : g < clause_count ix) {xs : List ℕ} (are : xs ≡ literals ix g) {i : ℕ} (more : i < length xs) where
  pub code_low : get_or xs i 0 < codes
  code_low = literal_known index g inside xs are i more

  module _ (st : Tally) (classes : Classes st.values st.links) where
    pub value_inside : var (value (state_in st) (literal_at (get_or xs i 0))) ≤ max_variables
    value_inside =
        let l = literal_at (get_or xs i 0) in
        let b : var l ≤ max_variables = omega (arith, var_at (get_or xs i 0), code_low) in
        omega (arith, value_variable (state_in st) l, stands_for st.values (var l) b, classes.range (var l) b)

    pub value_low : {x : ℕ} → x ≡ code_of (value (state_in st) (literal_at (get_or xs i 0))) → x < codes
    value_low e = omega (arith, value_inside, var_code (value (state_in st) (literal_at (get_or xs i 0))))

pub ruleset reading_laws = (code_low, value_low)

-- marking ---------------------------------------------------------------------------------------------------------

abbrev pub Marking : (ix : Index) (st : Tally) → ℕ → List ℕ → List ℕ → ℕ → Type 0
Marking ix st g xs marks i = Marks (state_in st) (clause_of ix g) (rest_of xs i) marks

module _ {ix : Index} {st : Tally} {g : ℕ} (r : Readable ix st g) {xs : List ℕ} (are : xs ≡ literals ix g) where
  pub mark_begins : Marking ix st g xs (replicate variables 0) 0
  mark_begins = rw (literals_clause ix g xs are) (marks_begin (state_in st) (clause_of ix g))

  module _ {marks : List ℕ} {i : ℕ} (o : Marking ix st g xs marks i) where
    pub mark_goes : i < length xs → {x : ℕ} → x ≡ code_of (value (state_in st) (literal_at (get_or xs i 0))) → Marking ix st g xs (set marks (x / 2) x) (i + 1)
    mark_goes more {x} e =
        marks_go (state_in st) (clause_of ix g) r.wide r.distinct (rw (rest_cons xs i more) at o) (value_inside r.index r.inside are more st r.classes) x e

    pub mark_ends : length xs ≤ i → Marked (standing (state_in st) (clause_of ix g)) (set marks 0 2)
    mark_ends h = marks_end (state_in st) (clause_of ix g) r.wide r.distinct (rw (rest_none xs i h) at o)

-- meeting ---------------------------------------------------------------------------------------------------------

abbrev pub Meets : (ix : Index) (st : Tally) → List ℕ → ℕ → List ℕ → (common crossing again i : ℕ) → Type 0
Meets ix st marks h xs common crossing again i = Meeting (state_in st) (clause_of ix h) (rest_of xs i) marks common crossing again

module _ {ix : Index} {st : Tally} {h : ℕ} (r : Readable ix st h) {xs : List ℕ} (are : xs ≡ literals ix h) {marks : List ℕ} where
  pub meet_begins : Meets ix st marks h xs 0 0 0 0
  meet_begins = rw (literals_clause ix h xs are) (meeting_begins (state_in st) (clause_of ix h) marks r.distinct)

  module _ {common crossing again i : ℕ} (o : Meets ix st marks h xs common crossing again i) where
    pub meet_goes : i < length xs → get_or marks 0 0 ≡ 2 →
        {x mark across : ℕ} → x ≡ code_of (value (state_in st) (literal_at (get_or xs i 0))) → mark ≡ get_or marks (x / 2) 0 → across ≡ code_of (opposite (literal_at x)) →
        {common' again' crossing' : ℕ} → common' ≡ cond (eqb mark x) x common → again' ≡ cond (eqb mark across) crossing again → crossing' ≡ cond (eqb mark across) x crossing →
        Meets ix st marks h xs common' crossing' again' (i + 1)
    meet_goes more unseen e m t p q s =
        meeting_goes (state_in st) (clause_of ix h) r.wide marks (rw (rest_cons xs i more) at o) unseen _ _ _ e m t _ _ _ p q s

    pub met_all : length xs ≤ i → Meeting (state_in st) (clause_of ix h) [] marks common crossing again
    met_all b = rw (rest_none xs i b) at o
