-- `begin`: by the law of Beginning.
use Rattle.std.proofs.Common.{refl}
use Rattle.std.specs.Prelude.{is_err}
use Rattle.side.proofs.Beginning.{siding_begun}
use Rattle.side.proofs.begin.Goals as goal

pub returns : goal.returns
returns c = siding_begun c.requires _ _ _ refl refl (is_err c.decide.result) c.decide.ensures
