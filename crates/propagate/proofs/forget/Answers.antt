-- Past the end of the table nothing stands.
use Rattle.std.proofs.Common.{rules, arith}
use mathlib.Core.List.Memᴰ
use native.Mathlib.Decide.{dec_lt}
use lib.ListN.{length}
use Rattle.clause.proofs.Walk.{clause_past}
use Rattle.propagate.proofs.Keeping.{kept_where}
use Rattle.propagate.proofs.forget.Goals as goal

pub returns : goal.returns
returns c =
    let s = c.args.standing in
    kept_where
    (λ i k. elim (dec_lt i (length s.table.now)) [
      | yes h ↦ let w = k h in search rules
      | no h ↦ λ l m. absurd (Memᴰ.not-nil (rw (clause_past s.table.now i s.state.now.values (omega arith)) at m))
    ])
    c.keep.ensures
