-- `is_key`: no difference says that all words are the key's.
use Rattle.std.proofs.Common.{eqb-true}
use Rattle.memo.proofs.Keys.{keyed_all}
use Rattle.memo.proofs.is_key.Goals as goal

pub returns : goal.returns
returns c = λ e. keyed_all _ _ _ _ _ _ c.requires.small c.requires.inside c.loop-j-test.false (c.loop-j.invariant.1 (eqb-true _ _ e))
