-- What is printed for a strip is what solving it answers, with the first n of the program's own lists.
use mathlib.Core.Path.{◌≡◌, refl, ap, sym, ◌∙◌}
use mathlib.Core.List.{List}
use Prim.Native.Nat.{ℕ, ◌≤◌}
use native.Mathlib.Nat.{zero-add}
use native.Mathlib.Omega.{arith}
use lib.IntN.{ℤ, pos}
use lib.ListN.{length, take, replicate}
use lib.Seq.{length-take-le}
use Rattle.general.specs.Appending.{Appended, appended_length}
use Rattle.io.specs.Counts.{IsPrefixLen}
use Rattle.literal.specs.Literal.{max_variables, max_table}
use Rattle.std.specs.Prelude.{Result, Err, Ok}
use Rattle.receipt.specs.declared.Searched.{Searched}
use Rattle.receipt.specs.declared.Read.{Read}
use Rattle.receipt.specs.declared.Refusal.{Refusal}
use Rattle.receipt.specs.Answers.{read_variables}
use Rattle.theory.specs.Calls.{over, SearchCall, solve_call, solve_variables}
use Rattle.theory.specs.Strip.{read_strip}
use Rattle.theory.proofs.Tables.{accepted_sizes}
use Rattle.strip.proofs.Accepted.{read_accepted}
use Rattle.search.specs.Call.{called}
use Rattle.report.specs.Report.{allowance, search_text, report_of}

-- a strip that was read has at most 256 placements
pub few_variables : (s : List ℕ) → solve_variables s ≤ max_variables
unfolding solve_variables
few_variables s = go (read_strip s max_table).reading refl
  where
    go : (r : Result Read Refusal) → (read_strip s max_table).reading ≡ r → read_variables r ≤ max_variables
    go (Err f) e = omega arith
    go (Ok d) e = (accepted_sizes d.variables (read_strip s max_table).table (read_accepted s max_table d.variables d.used e)).variables

module _ (s : List ℕ) (n : ℕ) (a : Result Searched Refusal) (plan : List ℕ) (trail : List ℤ)
    (is : called a plan trail ≡ solve_call s allowance (replicate max_variables 0) (replicate max_variables (pos 0))) (v : n ≡ solve_variables s) where
  pub printed : search_text a (take n plan) (take n trail) ≡ report_of s
  unfolding report_of
  printed = rw v (ap (λ (c : SearchCall). search_text c.answer (take (solve_variables s) c.plan) (take (solve_variables s) c.trail)) is)

-- the text stands at the start of the list, and the rest is as it was
pub reported : {l l' text : List ℕ} {r : ℕ} (s : List ℕ) → text ≡ report_of s → Appended l 0 text l' r →
    (l' ≡ over r (report_of s) l) × (IsPrefixLen r l' × (r ≡ length (report_of s)))
reported {l} {l'} {text} {r} s e a =
    let h : r ≤ length l' = omega (arith, a.room, appended_length a) in
    (a.whole ∙ rw e, ((h, sym (length-take-le r l' h)), a.ends ∙ zero-add (length text) ∙ ap length e))
