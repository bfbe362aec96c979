-- Document 01's printed example, and a text of each other kind.
use mathlib.Core.Path.{◌≡◌, refl}
use mathlib.Core.List.{List, [], ◌∷◌, map}
use Rattle.std.specs.Prelude.{option_and_then}
use Rattle.std.specs.Option.{option_or}
use Prim.Native.Nat.{ℕ}
use Rattle.general.specs.Lists.{from}
use Rattle.general.specs.Search.{find, first_place, any}
use Rattle.receipt.specs.declared.Outcome.TheVariants.{Stopped}
use Rattle.theory.specs.Formula.{clauses}
use Rattle.theory.specs.State.{standing}
use Rattle.theory.specs.Rules.{occurs}
use Rattle.theory.specs.Propagation.{first_clause, first_pair, ask, propagate}
use Rattle.theory.specs.Tree.{tree, limited}
use Rattle.theory.specs.Search.{live_variables, lowest, branch_variable, choice_of, decide, tree_of, search}
use Rattle.theory.specs.Calls.{search_call, solve_call, solve_variables}
use Rattle.theory.specs.Table.{check, zeros, nonzeros, ends_open}
use Rattle.theory.specs.Mentions.{mentions_all}
use Rattle.theory.specs.Strip.{mark_of, obey, command_at, read_from, read_by}
use Rattle.text.specs.Text.{codes, digits_within, decimal, spaced}
use Rattle.report.specs.Report.{allowance, ended_text, report_of}

-- a strip and what is printed for it
pub record Row : Type 0 where
  pub strip : List ℕ
  pub text : List ℕ

abbrev pub row : List ℕ → List ℕ → Row
row s t = record { strip = s; text = t }

abbrev pub rows : List Row
rows =
    row (0x50 ∷ 0x00 ∷ 0x03 ∷ 0x47 ∷ 0x54 ∷ 0x00 ∷ 0x01 ∷ 0x54 ∷ 0x00 ∷ 0x02 ∷ 0x54 ∷ 0x00 ∷ 0x03 ∷ 0x45 ∷ 0x5A ∷ []) (codes "laid out\ncount 1\nplan 0 0 1\ntrail -1 0 0\n")
    ∷ row (0x50 ∷ 0x00 ∷ 0x00 ∷ 0x5A ∷ []) (codes "laid out\ncount 0\nplan\ntrail\n")
    ∷ row (0x50 ∷ 0x00 ∷ 0x00 ∷ 0x47 ∷ 0x45 ∷ 0x5A ∷ []) (codes "no layout\ncount 0\n")
    ∷ row (0x50 ∷ 0x00 ∷ 0x01 ∷ 0x5A ∷ 0x47 ∷ []) (codes "refused 26 3\n")
    ∷ row (0x50 ∷ 0x00 ∷ 0x02 ∷ 0x47 ∷ 0x54 ∷ 0x00 ∷ 0x03 ∷ []) (codes "refused 5 4 1\n")
    ∷ []

pub examples_hold : map (λ (r : Row). report_of r.strip) rows ≡ map (λ (r : Row). r.text) rows
unfolding report_of ended_text solve_call solve_variables search_call check zeros nonzeros ends_open first_place decimal digits_within spaced read_by read_from command_at mark_of obey mentions_all search tree_of decide tree limited propagate ask first_clause first_pair standing occurs find any clauses live_variables lowest branch_variable choice_of from
examples_hold = refl

pub stopped_holds : ended_text Stopped allowance [] [] ≡ codes "stopped\ncount 1000000\n"
unfolding ended_text decimal digits_within spaced
stopped_holds = refl
