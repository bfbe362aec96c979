-- Past the end of the table nothing stands.
use Rattle.std.proofs.Common.{rules, arith, ◌≡◌, sym, None}
use native.Mathlib.Decide.{dec_lt}
use lib.ListN.{length}
use Rattle.general.specs.Search.{find_end}
use Rattle.clause.specs.Literals.{clause_of, counted}
use Rattle.clause.proofs.Walk.{clause_past}
use Rattle.rules.specs.Rules.{pair_step}
use Rattle.rules.proofs.Fits.{none_crosses}
use Rattle.propagate.proofs.Keeping.{kept_where}
use Rattle.propagate.proofs.part.Goals as goal

pub returns : goal.returns
returns c =
    let s = c.args.standing in
    kept_where
    (λ i k. elim (dec_lt i (length s.table.now)) [
      | yes h ↦
          let w = k h in
          let r = c.count-counted.result in
          let f : pair_step c.args.rule (counted r) (clause_of r.of i) ≡ None = search rules in
          rw (c.count-counted.ensures.of, c.count-counted.ensures.at) at f
      | no h ↦ none_crosses c.args.rule _ _ (sym (find_end _ (clause_past s.table.now i s.state.now.values (omega arith))))
    ])
    c.keep.ensures
