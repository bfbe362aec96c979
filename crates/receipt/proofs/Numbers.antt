-- No refusal has the number of an answer: 0 laid out, 10 no layout, 11 stopped, 13 settled, 15 group added, 16 strip read, 17 indexed, 18 done; and outcomes differ in their numbers.
use mathlib.Core.Path.{◌≡◌, refl, ap, sym, ◌∙◌}
use mathlib.Core.Bool.{Bool, true, false, ◌||◌, true≢false, cond}
use Prim.Native.Nat.{ℕ}
use lib.Dec.{eqb}
use Rattle.literal.specs.declared.ClauseNumber.{ClauseNumber}
use Rattle.literal.specs.Literal.{clause_number}
use Rattle.receipt.specs.declared.Fault.{Fault}
use Rattle.receipt.specs.declared.Fault.TheVariants.{TooManyVariables, TooManyClauses, TooManyLiterals, OpenClause, UnknownVariable, PlanShort, TrailShort, HeadsShort, ReceiptShort, UsedLengthWrong, StateShort, UnknownMark, CutStrip, OutOfTurn, TableShort, StripTooLong, StripShort, UnmentionedVariable, ReasonsShort, RowsShort, NoClause}
use Rattle.receipt.specs.declared.Outcome.{Outcome}
use Rattle.receipt.specs.declared.Outcome.TheVariants.{LaidOut, NoLayout, Stopped}
use Rattle.receipt.specs.declared.Refusal.{Refusal}
use Rattle.receipt.specs.Receipt.{number_of, named_clause, outcome_number, done, refused_receipt}

abbrev pub answers : ℕ → Bool
answers k = eqb k 0 || eqb k 10 || eqb k 11 || eqb k 13 || eqb k 15 || eqb k 16 || eqb k 17 || eqb k done

refuses : (why : Fault) → answers (number_of why) ≡ false
refuses TooManyVariables = refl
refuses TooManyClauses = refl
refuses TooManyLiterals = refl
refuses OpenClause = refl
refuses (UnknownVariable k) = refl
refuses PlanShort = refl
refuses TrailShort = refl
refuses HeadsShort = refl
refuses ReceiptShort = refl
refuses UsedLengthWrong = refl
refuses StateShort = refl
refuses UnknownMark = refl
refuses CutStrip = refl
refuses OutOfTurn = refl
refuses TableShort = refl
refuses StripTooLong = refl
refuses StripShort = refl
refuses UnmentionedVariable = refl
refuses ReasonsShort = refl
refuses RowsShort = refl
refuses NoClause = refl

-- so a call with the number k of an answer wasn't refused
pub not_refused : (why : Fault) (k : ℕ) → answers k ≡ true → ¬ (number_of why ≡ k)
not_refused why k a e = true≢false (sym a ∙ ap answers (sym e) ∙ refuses why)

pub outcome_answers : (o : Outcome) → answers (outcome_number o) ≡ true
outcome_answers LaidOut = refl
outcome_answers NoLayout = refl
outcome_answers Stopped = refl

-- no other fault names a group
pub others_none : (why : Fault) → ((k : ClauseNumber) → ¬ (why ≡ UnknownVariable k)) → named_clause why ≡ clause_number 0
others_none TooManyVariables h = refl
others_none TooManyClauses h = refl
others_none TooManyLiterals h = refl
others_none OpenClause h = refl
others_none (UnknownVariable k) h = absurd (h k refl)
others_none PlanShort h = refl
others_none TrailShort h = refl
others_none HeadsShort h = refl
others_none ReceiptShort h = refl
others_none UsedLengthWrong h = refl
others_none StateShort h = refl
others_none UnknownMark h = refl
others_none CutStrip h = refl
others_none OutOfTurn h = refl
others_none TableShort h = refl
others_none StripTooLong h = refl
others_none StripShort h = refl
others_none UnmentionedVariable h = refl
others_none ReasonsShort h = refl
others_none RowsShort h = refl
others_none NoClause h = refl

-- "for all other numbers it is 0"
pub names_none : (r : Refusal) → ¬ ((refused_receipt r).number ≡ 5) → (refused_receipt r).clause ≡ clause_number 0
names_none r h = others_none r.fault (λ k e. h (ap number_of e))

-- outcomes with one number are one
abbrev outcome_at : ℕ → Outcome
outcome_at k = cond (eqb k 0) LaidOut (cond (eqb k 10) NoLayout Stopped)

pub same_outcome : (o v : Outcome) → outcome_number o ≡ outcome_number v → o ≡ v
same_outcome o v e = sym (back o) ∙ ap outcome_at e ∙ back v
  where
    back : (o : Outcome) → outcome_at (outcome_number o) ≡ o
    back LaidOut = refl
    back NoLayout = refl
    back Stopped = refl
