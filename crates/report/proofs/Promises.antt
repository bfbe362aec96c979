-- What the layout program prints: the text of a call of Search on what was read, or one line for a refused strip. With 5 it ends with the group that is open at the place (A2); every other one keeps its two numbers, 26 too (A3).
use Rattle.receipt.specs.Answers.{reading}
use mathlib.Core.Path.{◌≡◌, refl, ap}
use mathlib.Core.Logic.{◌≢◌}
use mathlib.Core.List.{List, [], ◌∷◌}
use Prim.Native.Nat.{ℕ}
use native.Mathlib.Omega.{arith}
use borrow.Author.Tests.{ne_eqb}
use lib.IntN.{ℤ, pos}
use lib.ListN.{length, take, replicate, length-replicate}
use Rattle.literal.specs.Literal.{max_variables, max_table}
use Rattle.std.specs.Prelude.{Err}
use Rattle.receipt.specs.declared.Refusal.{Refusal}
use Rattle.receipt.specs.declared.Fault.TheVariants.{UnmentionedVariable}
use Rattle.receipt.specs.Receipt.{number_of, named_clause, refusal}
use Rattle.theory.specs.Calls.{SearchCall, search_call, solve_call, solve_variables}
use Rattle.theory.specs.Encoding.{Item, groups, table_of, StripWithin, UnmentionedInStrip, Bytes}
use Rattle.theory.specs.Strip.{Decoding, read_strip}
use Rattle.theory.specs.Table.{Accepted}
use Rattle.theory.specs.Unknown.{UnknownInStrip}
use Rattle.theory.proofs.Tables.{accepted_sizes}
use Rattle.strip.proofs.Accepted.{read_accepted}
use Rattle.strip.proofs.Encoded.{within_read}
use Rattle.strip.proofs.Receipts.{strip_names, strip_unmentioned}
use Rattle.strip.proofs.Unmentioned.{unmentioned_exactly}
use Rattle.search.specs.Call as search
use Rattle.text.specs.Text.{codes, decimal, line, refused_text}
use Rattle.report.specs.Report.{allowance, search_text, report_of}

module _ (s : List ℕ) (f : Refusal) (e : (read_strip s max_table).reading ≡ Err f) where
  -- a refused strip prints one line
  report_refused : report_of s ≡ refused_text f
  unfolding report_of solve_call
  report_refused = rw e

  -- "The layout program's refused line for 5 ends with the group number."
  pub report_unknown : Bytes s → number_of f.fault ≡ 5 →
      (k : ℕ) × UnknownInStrip s k f.place × (report_of s ≡ line (codes "refused") (decimal 5 ∷ decimal f.place ∷ decimal k ∷ []))
  report_unknown b q = ((named_clause f.fault).0, (rw e at (strip_names s b max_table)).unknown q, rw (report_refused, q))

  -- its other lines stay
  pub report_other : number_of f.fault ≢ 5 → report_of s ≡ line (codes "refused") (decimal (number_of f.fault) ∷ decimal f.place ∷ [])
  report_other h = rw (report_refused, ne_eqb (number_of f.fault) 5 h)

  -- A3: with 26 the place is that of an end mark before which a placement isn't named
  pub report_unmentioned : Bytes s → number_of f.fault ≡ 26 →
      UnmentionedInStrip s max_table f.place × (report_of s ≡ line (codes "refused") (decimal 26 ∷ decimal f.place ∷ []))
  report_unmentioned b q = ((rw e at (strip_unmentioned s b max_table)) q, rw (report_refused, q))

-- and every such strip gets that line
pub report_unmentioned_refused : (s : List ℕ) → Bytes s → (i : ℕ) → UnmentionedInStrip s max_table i → report_of s ≡ line (codes "refused") (decimal 26 ∷ decimal i ∷ [])
report_unmentioned_refused s b i w = report_other s (refusal UnmentionedVariable i) ((unmentioned_exactly s b max_table i).1 w) (λ z. omega arith)

-- an accepted strip ------------------------------------------------------------------------------------------------------

module _ {s : List ℕ} {n : ℕ} {l : List Item} (bytes : Bytes s) (within : StripWithin s n l) where
  -- lists of the program's own
  abbrev plan : List ℕ
  plan = replicate max_variables 0

  abbrev trail : List ℤ
  trail = replicate max_variables (pos 0)

  abbrev found : SearchCall
  found = search_call n (table_of (groups l)) allowance plan trail

  reads : read_strip s max_table ≡ record { reading = reading n (length (table_of (groups l))); table = table_of (groups l) }
  reads = within_read bytes within

  -- what is printed is the text of a call of Search on the table of the strip's groups: the outcome, the count, and of a layout the first n of the plan and of the trail
  pub report_searches : search.Call n (table_of (groups l)) allowance plan trail found × (report_of s ≡ search_text found.answer (take n found.plan) (take n found.trail))
  unfolding report_of solve_call solve_variables
  report_searches =
      let a : Accepted n (table_of (groups l)) = rw reads at (read_accepted s max_table n (length (table_of (groups l))) (ap (λ (d : Decoding). d.reading) reads)) in
      let k = accepted_sizes n (table_of (groups l)) a in (
        record {
          acceptable = record {
            table = k;
            plan_room = omega (arith, k.variables, length-replicate {A = ℕ} max_variables 0);
            trail_room = omega (arith, k.variables, length-replicate max_variables (pos 0));
          };
          is = refl;
        },
        rw reads,
      )
