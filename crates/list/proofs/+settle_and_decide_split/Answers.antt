-- The walk: a dead end, a layout, or a split and its two sides.
use Rattle.std.proofs.Common.{ℕ, ◌+◌, ◌-◌, refl, ap, sym, ◌∙◌, rules, arith}
use Rattle.std.specs.Prelude.{is_err, None}
use Rattle.literal.specs.declared.Literal.TheVariants.{Pos}
use Rattle.literal.specs.Literal.{TRUE, FALSE, var, opposite, code_of}
use Rattle.theory.specs.State.{assign}
use Rattle.occurrences.specs.Index.{formula_of}
use Rattle.tally.specs.Tally.{state_in}
use Rattle.side.proofs.Splitting.{side_siding, side_falls}
use Rattle.list.specs.Walk.{Walked, under, tree_run}
use Rattle.list.proofs.Settling.{Settled, is_settled, begun_dead, settled_dead, settled_openable, settled_falls, settled_splittable, settled_walked}
use Rattle.list.proofs.Sides.{branch_open, side_walkable}
use Rattle.list.proofs.SideRuns.{first_is, second_is, side_walked, first_rows, first_whole, both_whole}
use Rattle.list.proofs.+settle_and_decide_split.Goals.{settle_and_decide-Else-is_err-2, split-After-settle_and_decide-a}
use Rattle.list.proofs.+settle_and_decide_split.Goals as goal

-- settling and the decision ----------------------------------------------------------------------------------------

pub settle_and_decide-returns-then-is_err : goal.settle_and_decide-returns-then-is_err
settle_and_decide-returns-then-is_err t c = begun_dead c.requires c.if-is_err.ensures.value

pub settle_and_decide-returns-then-is_err-2 : goal.settle_and_decide-returns-then-is_err-2
settle_and_decide-returns-then-is_err-2 t c = settled_dead c.requires c.if-is_err.ensures.value (rw (← c.if-is_err-2.ensures.value) at c.propagate.ensures)

settles : (t : ℕ) (c : settle_and_decide-Else-is_err-2 t) →
    let a = c.args in Settled a.index.now a.state.now a.work.now (is_err a.begun) a.level a.rows.now c.propagate.new.state c.propagate.new.work
settles t c = is_settled c.requires c.if-is_err.ensures.value _ _ _ c.propagate.ensures c.if-is_err-2.ensures.value

pub settle_and_decide-open_variable-requires : goal.settle_and_decide-open_variable-requires
settle_and_decide-open_variable-requires t c = settled_openable (settles t (goal.at.settle_and_decide-open_variable-requires t c).Else-is_err-2)

pub settle_and_decide-returns-in_default : goal.settle_and_decide-returns-in_default
settle_and_decide-returns-in_default t c =
    settled_walked (settles t (goal.at.settle_and_decide-returns-in_default t c).Else-is_err-2) None (sym c.in_default.ensures) _ _ c.write_row.ensures

pub settle_and_decide-split-requires : goal.settle_and_decide-split-requires
settle_and_decide-split-requires t c =
    let s = settles t (goal.at.settle_and_decide-split-requires t c).Else-is_err-2 in
    (omega (arith, c.decreases, settled_falls s), settled_splittable s _ (sym c.in-Some.ensures))

pub settle_and_decide-returns : goal.settle_and_decide-returns
settle_and_decide-returns t c =
    settled_walked (settles t (goal.at.settle_and_decide-returns t c).Else-is_err-2) _ (sym c.in-Some.ensures) _ _ c.split.ensures

-- a split and its two sides ----------------------------------------------------------------------------------------

pub split-code-requires : goal.split-code-requires
split-code-requires t c =
    let k = c.requires in
    omega (arith, ap var c.new-x.ensures, (branch_open k).inside, k.lasting.rowable.small)

pub split-begin-out-requires : goal.split-begin-out-requires
split-begin-out-requires t c =
    let k = c.requires in
    side_siding k.calm k.lasting.rowable.small k.well (branch_open k) _ (omega (arith, c.code.ensures ∙ ap code_of c.new-x.ensures))

pub split-settle_and_decide-a-requires : goal.split-settle_and_decide-a-requires
split-settle_and_decide-a-requires t c =
    let k = c.requires in
    let is = first_is k _ _ c.new-x.ensures c.code.ensures in
    let b = c.begin-out in
    let r = is_err b.result in
    rw c.below-lower.ensures (
      omega (arith, side_falls k.calm k.lasting.rowable.small k.well (branch_open k) _ FALSE refl is b.new.state b.new.work r b.ensures, c.decreases),
      side_walkable k _ FALSE refl is b.new.state b.new.work r b.ensures _ _ _ k.lasting.rowable.next refl,
    )

-- what the left-out side comes to
walked_out : (t : ℕ) (c : split-After-settle_and_decide-a t) →
    let l = c.args.level in let p = c.args.p.0 in let a = c.settle_and_decide-a in
    Walked (under p (l.left - 1) l.row l) (tree_run (under p (l.left - 1) l.row l) (formula_of c.args.index.now) (assign (Pos p) FALSE (state_in c.args.state.now)))
    c.args.rows.now a.new.rows a.result
walked_out t c =
    let l = c.args.level in
    let a = c.settle_and_decide-a in
    side_walked c.requires FALSE refl _ (first_is c.requires _ _ c.new-x.ensures c.code.ensures) _ _ (is_err c.begin-out.result) c.begin-out.ensures (l.left - 1) l.row _ c.below-lower.ensures
    c.args.rows.now a.new.rows a.result a.ensures

pub split-returns-then-ne : goal.split-returns-then-ne
split-returns-then-ne t c =
    let a = c.settle_and_decide-a in
    rw c.through.ensures (first_whole c.requires c.if-level-eq0.false a.new.rows a.result (walked_out t (goal.at.split-returns-then-ne t c).After-settle_and_decide-a) (search rules))

pub split-begin-taken-requires : goal.split-begin-taken-requires
split-begin-taken-requires t c =
    let k = c.requires in
    side_siding k.calm k.lasting.rowable.small k.well (branch_open k) _ (omega (arith, c.code-2.ensures ∙ ap code_of (c.opposite.ensures ∙ ap opposite c.new-x.ensures)))

pub split-settle_and_decide-b-requires : goal.split-settle_and_decide-b-requires
split-settle_and_decide-b-requires t c =
    let k = c.requires in
    let a = c.settle_and_decide-a in
    let wa = walked_out t (goal.at.split-settle_and_decide-b-requires t c).After-settle_and_decide-a in
    let is = second_is k _ _ _ c.new-x.ensures c.opposite.ensures c.code-2.ensures in
    let b = c.begin-taken in
    let r = is_err b.result in
    rw c.below-rest.ensures (
      omega (arith, side_falls k.calm k.lasting.rowable.small k.well (branch_open k) _ TRUE refl is b.new.state b.new.work r b.ensures, c.decreases),
      side_walkable k _ TRUE refl is b.new.state b.new.work r b.ensures _ _ _ (first_rows k c.if-level-eq0.false a.new.rows a.result wa) a.auto.rows,
    )

pub split-returns : goal.split-returns
split-returns t c =
    let k = c.requires in
    let l = c.args.level in
    let a = c.settle_and_decide-a in
    let wa = walked_out t (goal.at.split-returns t c).After-settle_and_decide-a in
    let b = c.settle_and_decide-b in
    let is = second_is k _ _ _ c.new-x.ensures c.opposite.ensures c.code-2.ensures in
    let wb = side_walked k TRUE refl _ is _ _ (is_err c.begin-taken.result) c.begin-taken.ensures (l.left - (1 + a.result.count)) (l.row + a.result.written) _ c.below-rest.ensures
    a.new.rows b.new.rows b.result b.ensures in
    rw c.through-2.ensures (both_whole k c.if-level-eq0.false a.new.rows a.result wa b.new.rows b.result wb (search rules))
