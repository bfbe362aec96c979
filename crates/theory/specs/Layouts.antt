-- All layouts of a filing: every choice is tried, in document 01's order.
use Rattle.std.specs.Prelude.{Bool, true, false, ◌&&◌, List, [], ◌∷◌, ◌++◌, map, ℕ, zero, suc, eqb}
use Rattle.general.specs.Search.{filter}
use Rattle.theory.specs.Formula.{Formula, true_count, Choice, assignment}

-- "Choices are ordered from placement 1 on, 0 before 1"
unfoldable pub choices : ℕ → List Choice
choices zero = [] ∷ []
choices (suc n) = map (◌∷◌ false) (choices n) ++ map (◌∷◌ true) (choices n)

-- "exactly one occurrence in it is true", in every group
unfoldable pub meets : Formula → Choice → Bool
meets [] c = true
meets (g ∷ f) c = eqb (true_count (assignment c) g) 1 && meets f c

abbrev pub layouts : ℕ → Formula → List Choice
layouts n f = filter (meets f) (choices n)
