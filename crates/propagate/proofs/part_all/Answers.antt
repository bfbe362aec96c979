-- Clause by clause.
use Rattle.std.proofs.Common.{ap, ◌∙◌}
use Rattle.clause.proofs.Advancing.{Advances, passed_advances}
use Rattle.propagate.proofs.Partners.{parting_none, parting_without, parting_next, parting_all}
use Rattle.propagate.proofs.part_all.Goals as goal
use Rattle.propagate.proofs.part_all.Goals.{In-Some}

further : (c : In-Some) → Advances c.args.standing.table.now c.in-Some.h c.next.new.self.at
further c = let p = c.in-Some.ensures.steps in rw p.here (rw c.loop-h.invariant.table at (passed_advances p))

pub loop-h-init : goal.loop-h-init
loop-h-init c =
    let e = c.into_iter-h-iterator.ensures.into_iter_gives in
    record {
      can = tt;
      finite = tt;
      table = ap (λ s. s.of.table.now) e ∙ ap (λ s. s.table.now) c.clauses-h-items.ensures.of;
      kept = rw (ap (λ s. s.at) e ∙ c.clauses-h-items.ensures.at) (parting_none c.args.standing.table.now c.args.before.now.values c.args.standing.state.now.values c.args.rule c.args.y _);
    }

pub part-requires : goal.part-requires
part-requires c = c.loop-h.invariant.kept.room ∙ c.requires

pub loop-h-preserved-then-holds : goal.loop-h-preserved-then-holds
loop-h-preserved-then-holds c =
    let a = c.args in
    let p = c.in-Some.ensures.steps in
    record {
      can = tt;
      finite = tt;
      table = ap (λ s. s.table.now) p.same ∙ c.loop-h.invariant.table;
      kept =
          parting_next a.standing.table.now a.before.now.values a.standing.state.now.values a.rule a.y (rw (← p.here) at c.loop-h.invariant.kept)
          (further (goal.at.loop-h-preserved-then-holds c).In-Some) c.part.ensures;
    }

pub loop-h-preserved : goal.loop-h-preserved
loop-h-preserved c =
    let a = c.args in
    let p = c.in-Some.ensures.steps in
    record {
      can = tt;
      finite = tt;
      table = ap (λ s. s.table.now) p.same ∙ c.loop-h.invariant.table;
      kept =
          parting_without a.standing.table.now a.before.now.values a.standing.state.now.values a.rule a.y (rw (← p.here) at c.loop-h.invariant.kept)
          (further (goal.at.loop-h-preserved c).In-Some) (c.holds.ensures c.if-holds.false);
    }

pub returns : goal.returns
returns c =
    let a = c.args in
    parting_all a.standing.table.now a.before.now.values a.standing.state.now.values a.rule a.y c.loop-h.invariant.kept (rw c.loop-h.invariant.table at c.in-None.ensures.steps)
