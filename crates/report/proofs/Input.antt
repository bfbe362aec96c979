-- The layout program reads one byte past the longest strip: that prints what the whole input would.
use mathlib.Core.Path.{◌≡◌, sym, ap, ◌∙◌}
use mathlib.Core.List.{List}
use Prim.Native.Nat.{ℕ, suc, ◌<◌}
use native.Mathlib.Decide.{dec_le}
use native.Mathlib.Omega.{arith}
use borrow.Author.Tests.{lt-ltb}
use lib.ListN.{length, take, length-take}
use lib.Seq.{take_all}
use Rattle.receipt.specs.declared.Fault.TheVariants.{StripTooLong}
use Rattle.receipt.specs.Receipt.{refusal}
use Rattle.theory.specs.Calls.{solve_call, solve_variables}
use Rattle.theory.specs.Strip.{max_strip, read_by}
use Rattle.text.specs.Text.{refused_text}
use Rattle.report.specs.Report.{report_of}

too_long : (s : List ℕ) → max_strip < length s → report_of s ≡ refused_text (refusal StripTooLong 0)
unfolding report_of solve_call solve_variables read_by
too_long s h = rw (lt-ltb max_strip (length s) h)

pub report_one_past : (s : List ℕ) → report_of (take (suc max_strip) s) ≡ report_of s
report_one_past s = elim (dec_le (length s) (suc max_strip)) [
  | yes h ↦ ap report_of (take_all (suc max_strip) s h)
  | no h ↦ too_long (take (suc max_strip) s) (omega (arith, length-take (suc max_strip) s)) ∙ sym (too_long s (omega arith))
]
