-- What the layout program prints for a strip: "the outcome, the splits, the choice and the path".
use Rattle.std.specs.Prelude.{List, [], ◌∷◌, ◌++◌, map, ℕ, ℤ, pos, replicate, take}
use Rattle.literal.specs.Literal.{max_variables}
use Rattle.receipt.specs.declared.Outcome.{Outcome}
use Rattle.receipt.specs.declared.Outcome.TheVariants.{LaidOut, NoLayout, Stopped}
use Rattle.std.specs.Prelude.{Result, Err, Ok}
use Rattle.receipt.specs.declared.Searched.{Searched}
use Rattle.receipt.specs.declared.Refusal.{Refusal}
use Rattle.theory.specs.Calls.{solve_variables, solve_call}
use Rattle.text.specs.Text.{codes, decimal, signed, line, refused_text}

-- "allows 1,000,000 splits"
abbrev pub allowance : ℕ
allowance = 1_000_000

abbrev pub outcome_words : Outcome → List ℕ
outcome_words LaidOut = codes "laid out"
outcome_words NoLayout = codes "no layout"
outcome_words Stopped = codes "stopped"

abbrev pub count_text : ℕ → List ℕ
count_text k = line (codes "count") (decimal k ∷ [])

-- the choice and the path
abbrev pub lists_text : List ℕ → List ℤ → List ℕ
lists_text plan trail = line (codes "plan") (map decimal plan) ++ line (codes "trail") (map signed trail)

-- "No layout and stopped print the first two lines"
abbrev pub lists_of : Outcome → List ℕ → List ℤ → List ℕ
lists_of LaidOut plan trail = lists_text plan trail
lists_of NoLayout plan trail = []
lists_of Stopped plan trail = []

unfoldable pub ended_text : Outcome → ℕ → List ℕ → List ℤ → List ℕ
ended_text o k plan trail = line (outcome_words o) [] ++ (count_text k ++ lists_of o plan trail)

abbrev pub search_text : Result Searched Refusal → List ℕ → List ℤ → List ℕ
search_text (Ok d) plan trail = ended_text d.outcome d.count plan trail
search_text (Err f) plan trail = refused_text f

-- the bytes printed: a strip is solved with lists of the program's own, of which the first n are printed
unfoldable pub report_of : List ℕ → List ℕ
report_of s =
    let c = solve_call s allowance (replicate max_variables 0) (replicate max_variables (pos 0)) in
    let n = solve_variables s in
    search_text c.answer (take n c.plan) (take n c.trail)
