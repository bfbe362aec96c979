-- Settling from the state and the reasons of each turn ends where settling from the first does, and what is noted holds in that state.
use Rattle.std.proofs.Common.{arith, refl, ap, ◌∙◌}
use Rattle.literal.specs.Literal.{variables}
use Rattle.theory.specs.Formula.{clauses}
use Rattle.theory.specs.Reasons.{explained, explain}
use Rattle.state.specs.State.{state_of}
use Rattle.propagate.specs.Code.{reasons_of}
use Rattle.propagate.proofs.Partners.{noted_none}
use Rattle.propagate.proofs.Settling.{Turn, uncredited, settle_rest, settle_dead, settle_more}
use Rattle.propagate.proofs.propagate.Goals as goal
use Rattle.propagate.proofs.propagate.Goals.{In-Becomes}

-- the step that is asked
turn : (c : In-Becomes) → let l = c.loop-asked in
    Turn c.args.n (clauses c.args.table.now) (explained (state_of l.state.values) (reasons_of l.reasons)) c.in-Some.asked.clause.0 c.in-Becomes.x c.in-Becomes.t
turn c =
    let l = c.loop-asked in
    settle_more c.args.n (clauses c.args.table.now) (explained (state_of l.state.values) (reasons_of l.reasons)) c.in-Some.asked c.in-Some.ensures.says c.in-Becomes.is
    c.requires.within l.invariant.well

pub loop-asked-init : goal.loop-asked-init
loop-asked-init c =
    let a = c.args in
    record {
      well = c.requires.well_formed;
      same = ap (explain a.n (clauses a.table.now)) (uncredited variables (state_of a.start.values));
      room = refl;
      noted = record { seven = noted_none _ _ _; eight = noted_none _ _ _ };
    }

pub returns-in-DeadEnd : goal.returns-in-DeadEnd
returns-in-DeadEnd c = settle_dead _ _ _ c.in-Some.asked c.in-Some.ensures.says c.in-DeadEnd.is ∙ c.loop-asked.invariant.same

pub assign-state-requires-clause-x_bound : goal.assign-state-requires-clause-x_bound
assign-state-requires-clause-x_bound c = let k = turn (goal.at.assign-state-requires-clause-x_bound c).In-Becomes in omega (arith, k.x_inside)

pub assign-state-requires-clause-t_bound : goal.assign-state-requires-clause-t_bound
assign-state-requires-clause-t_bound c = let k = turn (goal.at.assign-state-requires-clause-t_bound c).In-Becomes in omega (arith, k.t_inside)

pub credit-requires-clause-x_bound : goal.credit-requires-clause-x_bound
credit-requires-clause-x_bound c = let k = turn (goal.at.credit-requires-clause-x_bound c).In-Becomes in omega (arith, k.x_inside)

pub loop-asked-smaller : goal.loop-asked-smaller
loop-asked-smaller c = let k = turn (goal.at.loop-asked-smaller c).In-Becomes in rw c.assign-state.ensures k.fewer

pub loop-asked-preserved : goal.loop-asked-preserved
loop-asked-preserved c =
    let l = c.loop-asked in
    let k = turn (goal.at.loop-asked-preserved c).In-Becomes in
    let s = c.assign-state.ensures in
    let after = c.look_again_at_both.ensures in
    record {
      well = rw s k.well;
      same = rw (s, c.credit.ensures.says) k.same_end ∙ l.invariant.same;
      room = c.credit.ensures.room ∙ l.invariant.room;
      noted = record { seven = (rw c.in-Becomes.is at after.seven) k.x_open s; eight = (rw c.in-Becomes.is at after.eight) k.x_open s };
    }

pub returns : goal.returns
returns c = settle_rest _ _ _ (rw c.in_default.is at c.ask.ensures.says) ∙ c.loop-asked.invariant.same
