-- What C gets of a trial: the receipt of Search in one flat struct, with the splits that were walked, and the lists that were lent.
use Rattle.std.specs.Prelude.{List, ℕ, ℤ}
use Rattle.receipt.specs.declared.Receipt.{Receipt}
use Rattle.receipt.specs.Answers.{searching_receipt}
use Rattle.theory.specs.Calls.{SearchCall}
use Rattle.memo_trial.specs.declared.MemoTrial.{MemoTrial}

abbrev pub flat : Receipt → ℕ → MemoTrial
flat r w = record { number = r.number; count = r.count; place = r.place; group = r.clause.0; walked = w }

abbrev pub tried : ℕ → SearchCall → MemoTrial × (List ℕ × List ℤ)
tried w c = (flat (searching_receipt c.answer) w, (c.plan, c.trail))
