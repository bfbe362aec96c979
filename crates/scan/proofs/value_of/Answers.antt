-- By the laws of Words.
use Rattle.std.proofs.Common.{sym, ◌∙◌, arith}
use Rattle.scan.proofs.Words.{no_digit, past_limit, valued_more, valued_ended}
use Rattle.scan.proofs.value_of.Goals as goal

pub returns-then-not-is_digit : goal.returns-then-not-is_digit
returns-then-not-is_digit c = no_digit _ _ c.loop-byte.invariant c.loop-byte-test.true (sym c.is_digit.ensures ∙ c.if-not-is_digit.true)

pub returns-then-limit-value : goal.returns-then-limit-value
returns-then-limit-value c = past_limit _ _ c.loop-byte.invariant c.loop-byte-test.true (sym c.is_digit.ensures ∙ c.if-not-is_digit.false) (omega (arith, c.from.ensures))

pub loop-byte-preserved : goal.loop-byte-preserved
loop-byte-preserved c = rw c.from.ensures (valued_more _ _ c.loop-byte.invariant c.loop-byte-test.true (sym c.is_digit.ensures ∙ c.if-not-is_digit.false) (omega (arith, c.from.ensures)))

pub returns : goal.returns
returns c = valued_ended _ _ c.loop-byte.invariant c.loop-byte-test.false
