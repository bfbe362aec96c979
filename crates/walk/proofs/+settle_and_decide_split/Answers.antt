-- The walk: a dead end, a layout, what the memo knows, or a split and its two sides.
use Rattle.std.proofs.Common.{◌≡◌, ℕ, ◌+◌, ◌-◌, ◌≤◌, Fits, refl, ap, sym, ◌∙◌, rules, arith}
use Rattle.std.specs.Prelude.{is_err, None}
use Rattle.std.specs.Int.{w32}
use native.Mathlib.Nat.{zero-add}
use Rattle.literal.specs.declared.Literal.TheVariants.{Pos}
use Rattle.literal.specs.Literal.{TRUE, FALSE, var, opposite, code_of}
use Rattle.occurrences.specs.Index.{formula_of}
use Rattle.tally.specs.Tally.{state_in}
use Rattle.engine.specs.Ready.{Rested}
use Rattle.engine.proofs.Settles.{rested_settles}
use Rattle.theory.specs.State.{assign}
use Rattle.theory.proofs.Picking.{branch_picking, at_rest}
use Rattle.side.proofs.Splitting.{side_siding, side_falls}
use Rattle.memo.specs.Memory.{Remembered}
use Rattle.memo.proofs.Learning.{remembered_spared, remembered_trans}
use Rattle.walk.specs.Walk.{Beginning, walked, tree_walk, under}
use Rattle.walk.proofs.Sides.{died_walk, rested_fewer, rested_branchable, rested_splittable, branch_open, side_walkable, side_passable, side_room}
use Rattle.walk.proofs.Walking.{leaf_walk, none_left, first_side}
use Rattle.walk.proofs.Remembering.{remembered_stops, remembered_none, split_keying, held_remembering, held_keepable, split_remembered}
use Rattle.walk.proofs.SideWalks.{first_is, second_is, side_walked, first_count, both_count, whole_walk}
use Rattle.walk.proofs.+settle_and_decide_split.Goals.{settle_and_decide-Else-is_err, settle_and_decide-Else-is_err-2, split-After-settle_and_decide-a, split-After-settle_and_decide-b}
use Rattle.walk.proofs.+settle_and_decide_split.Goals as goal

-- settling and the decision ----------------------------------------------------------------------------------------

begins : (t : ℕ) (c : settle_and_decide-Else-is_err t) → let a = c.args in Beginning a.index.now a.state.now a.work.now a.level
begins t c = rw (← c.if-is_err.ensures.value) at c.requires.walkable.begins

rests : (t : ℕ) (c : settle_and_decide-Else-is_err-2 t) → let a = c.args in Rested a.index.now a.state.now c.propagate.new.state c.propagate.new.work
rests t c = rw (← c.if-is_err-2.ensures.value) at c.propagate.ensures

pub settle_and_decide-returns-then-is_err-2-clause-walks : goal.settle_and_decide-returns-then-is_err-2-clause-walks
settle_and_decide-returns-then-is_err-2-clause-walks t c =
    let g = begins t (goal.at.settle_and_decide-returns-then-is_err-2-clause-walks t c).Else-is_err in
    rw (← c.if-is_err.ensures.value) (died_walk c.requires.walkable.lasting g (rw (← c.if-is_err-2.ensures.value) at c.propagate.ensures))

pub settle_and_decide-branch_variable-requires : goal.settle_and_decide-branch_variable-requires
settle_and_decide-branch_variable-requires t c =
    let at = goal.at.settle_and_decide-branch_variable-requires t c in
    rested_branchable c.requires.walkable.lasting (begins t at.Else-is_err) (rests t at.Else-is_err-2)

pub settle_and_decide-returns-in_default-clause-walks : goal.settle_and_decide-returns-in_default-clause-walks
settle_and_decide-returns-in_default-clause-walks t c =
    let at = goal.at.settle_and_decide-returns-in_default-clause-walks t c in
    let k = c.requires.walkable.lasting in
    let g = begins t at.Else-is_err in
    rw (← c.if-is_err.ensures.value, c.write_choice.ensures, zero-add)
    (leaf_walk _ _ _ _ _ _ _ (at_rest k.within (branch_picking k.within) 1 _ g.well _ (rested_settles k.within g.well (rests t at.Else-is_err-2)) None (sym c.in_default.ensures)))

pub settle_and_decide-remembered-requires : goal.settle_and_decide-remembered-requires
settle_and_decide-remembered-requires t c =
    let at = goal.at.settle_and_decide-remembered-requires t c in
    split_keying (rested_splittable c.requires.walkable.lasting (begins t at.Else-is_err) (rests t at.Else-is_err-2) _ (sym c.in-Some.ensures)) c.requires.remembering

pub settle_and_decide-split-requires : goal.settle_and_decide-split-requires
settle_and_decide-split-requires t c =
    let at = goal.at.settle_and_decide-split-requires t c in
    let k = c.requires.walkable.lasting in
    let g = begins t at.Else-is_err in
    let r = rests t at.Else-is_err-2 in
    let m = rw (← c.if-is_err.ensures.value) at c.decreases in (
      omega (arith, m, rested_fewer k g r),
      (rested_splittable k g r _ (sym c.in-Some.ensures), (remembered_spared c.requires.remembering _ c.in_default-remembered.ensures.spared).remembering),
    )

pub settle_and_decide-returns-in_default-remembered-clause-walks : goal.settle_and_decide-returns-in_default-remembered-clause-walks
settle_and_decide-returns-in_default-remembered-clause-walks t c =
    let at = goal.at.settle_and_decide-returns-in_default-remembered-clause-walks t c in
    let k = c.requires.walkable.lasting in
    let g = begins t at.Else-is_err in
    rw (← c.if-is_err.ensures.value)
    (c.split.ensures.walks ∙ rw (at_rest k.within (branch_picking k.within) 1 _ g.well _ (rested_settles k.within g.well (rests t at.Else-is_err-2)) _ (sym c.in-Some.ensures)))

pub settle_and_decide-returns-in_default-remembered-clause-remembers : goal.settle_and_decide-returns-in_default-remembered-clause-remembers
settle_and_decide-returns-in_default-remembered-clause-remembers t c =
    remembered_trans (remembered_spared c.requires.remembering _ c.in_default-remembered.ensures.spared) c.split.ensures.remembers

pub settle_and_decide-returns-then-known-level-clause-walks : goal.settle_and_decide-returns-then-known-level-clause-walks
settle_and_decide-returns-then-known-level-clause-walks t c =
    let at = goal.at.settle_and_decide-returns-then-known-level-clause-walks t c in
    let w = c.in-Some-remembered.ensures.known in
    rw (← c.if-is_err.ensures.value)
    (remembered_none c.requires.walkable.lasting (begins t at.Else-is_err) (rests t at.Else-is_err-2) _ (sym c.in-Some.ensures) c.requires.remembering _ w.0 w.1 c.if-known-level.true)

pub settle_and_decide-returns-then-known-level-clause-remembers : goal.settle_and_decide-returns-then-known-level-clause-remembers
settle_and_decide-returns-then-known-level-clause-remembers t c = remembered_spared c.requires.remembering _ c.in-Some-remembered.ensures.spared

pub settle_and_decide-returns-clause-walks : goal.settle_and_decide-returns-clause-walks
settle_and_decide-returns-clause-walks t c =
    let at = goal.at.settle_and_decide-returns-clause-walks t c in
    let w = c.in-Some-remembered.ensures.known in
    rw (← c.if-is_err.ensures.value)
    (remembered_stops c.requires.walkable.lasting (begins t at.Else-is_err) (rests t at.Else-is_err-2) _ (sym c.in-Some.ensures) c.requires.remembering _ w.0 w.1 c.if-known-level.false)

pub settle_and_decide-returns-clause-remembers : goal.settle_and_decide-returns-clause-remembers
settle_and_decide-returns-clause-remembers t c = remembered_spared c.requires.remembering _ c.in-Some-remembered.ensures.spared

-- a split and its two sides ----------------------------------------------------------------------------------------

-- what the left-out side comes to, and what the memo knows then
walked_out : (t : ℕ) (c : split-After-settle_and_decide-a t) →
    let l = c.args.level in let p = c.args.p.0 in let a = c.settle_and_decide-a in
    walked a.result a.new.plan a.new.trail ≡
    tree_walk (under p (l.left - 1) l) (formula_of c.args.index.now) (assign (Pos p) FALSE (state_in c.args.state.now)) c.args.plan.now c.args.trail.now
walked_out t c =
    let k = c.requires.splittable in
    let a = c.settle_and_decide-a in
    side_walked k FALSE refl _ (first_is k _ _ c.new-x.ensures c.code.ensures) _ _ (is_err c.begin-out.result) c.begin-out.ensures (c.args.level.left - 1) _ c.below-lower.ensures
    c.args.plan.now a.new.plan c.args.trail.now a.new.trail a.result a.ensures.walks

remembered_out : (t : ℕ) (c : split-After-settle_and_decide-a t) → Remembered c.args.level.variables (formula_of c.args.index.now) c.args.memory.now c.settle_and_decide-a.new.memory
remembered_out t c =
    remembered_trans (remembered_spared c.requires.remembering _ c.count_split.ensures) (rw c.below-lower.ensures at c.settle_and_decide-a.ensures.remembers)

-- its splits are within the allowance
counted_out : (t : ℕ) (c : split-After-settle_and_decide-a t) → 1 + c.settle_and_decide-a.result.count ≤ c.args.level.left
counted_out t c =
    let a = c.settle_and_decide-a in
    omega (arith, first_count c.requires.splittable c.if-level-eq0.false a.result a.new.plan a.new.trail (walked_out t c))

-- what the taken side comes to
walked_in : (t : ℕ) (c : split-After-settle_and_decide-b t) →
    let l = c.args.level in let p = c.args.p.0 in let a = c.settle_and_decide-a in let b = c.settle_and_decide-b in
    walked b.result b.new.plan b.new.trail ≡
    tree_walk (under p (l.left - (1 + a.result.count)) l) (formula_of c.args.index.now) (assign (Pos p) TRUE (state_in c.args.state.now)) a.new.plan a.new.trail
walked_in t c =
    let k = c.requires.splittable in
    let a = c.settle_and_decide-a in
    let b = c.settle_and_decide-b in
    side_walked k TRUE refl _ (second_is k _ _ _ c.new-x.ensures c.opposite-2.ensures c.code-2.ensures) _ _ (is_err c.begin-taken.result) c.begin-taken.ensures
    (c.args.level.left - (1 + a.result.count)) _ c.below-rest.ensures a.new.plan b.new.plan a.new.trail b.new.trail b.result b.ensures.walks

pub split-returns-then-level-eq0-clause-walks : goal.split-returns-then-level-eq0-clause-walks
split-returns-then-level-eq0-clause-walks t c =
    none_left c.args.level.variables (formula_of c.args.index.now) (state_in c.args.state.now) c.args.p.0 _ _ _ _ c.if-level-eq0.true

pub split-code-requires : goal.split-code-requires
split-code-requires t c =
    let k = c.requires.splittable in
    omega (arith, ap var c.new-x.ensures, (branch_open k).inside, k.lasting.small)

pub split-begin-out-requires : goal.split-begin-out-requires
split-begin-out-requires t c =
    let k = c.requires.splittable in
    side_siding k.calm k.lasting.small k.well (branch_open k) _ (omega (arith, c.code.ensures ∙ ap code_of c.new-x.ensures))

pub split-settle_and_decide-a-requires : goal.split-settle_and_decide-a-requires
split-settle_and_decide-a-requires t c =
    let k = c.requires.splittable in
    let is = first_is k _ _ c.new-x.ensures c.code.ensures in
    let b = c.begin-out in
    let r = is_err b.result in
    rw c.below-lower.ensures (
      omega (arith, side_falls k.calm k.lasting.small k.well (branch_open k) _ FALSE refl is b.new.state b.new.work r b.ensures, c.decreases),
      (side_walkable k _ FALSE refl is b.new.state b.new.work r b.ensures _ _ _ refl refl, (remembered_spared c.requires.remembering _ c.count_split.ensures).remembering),
    )

pub split-through-requires : goal.split-through-requires
split-through-requires t c =
    let k = c.requires.splittable in
    let l = c.args.level in
    let fits : Fits w32 l.left = search rules in
    side_passable k _ _ l.left (counted_out t (goal.at.split-through-requires t c).After-settle_and_decide-a) fits _
    (ap var (c.opposite.ensures ∙ ap opposite c.new-x.ensures)) _ c.settle_and_decide-a.auto.trail

pub split-returns-then-ne-clause-walks : goal.split-returns-then-ne-clause-walks
split-returns-then-ne-clause-walks t c =
    let k = c.requires.splittable in
    let l = c.args.level in
    let wa = walked_out t (goal.at.split-returns-then-ne-clause-walks t c).After-settle_and_decide-a in
    rw (c.through.ensures.0, c.through.ensures.1, c.opposite.ensures, c.new-x.ensures)
    (first_side l.variables (formula_of c.args.index.now) (state_in c.args.state.now) c.args.p.0 l.depth c.args.plan.now c.args.trail.now l.left
    c.if-level-eq0.false (side_room k) _ wa (search rules))

pub split-returns-then-ne-clause-remembers : goal.split-returns-then-ne-clause-remembers
split-returns-then-ne-clause-remembers t c = remembered_out t (goal.at.split-returns-then-ne-clause-remembers t c).After-settle_and_decide-a

pub split-overflow_add-used : goal.split-overflow_add-used
split-overflow_add-used t c =
    let fits : Fits w32 c.args.level.left = search rules in
    omega (arith, counted_out t (goal.at.split-overflow_add-used t c).After-settle_and_decide-a, fits)

pub split-hold-held-requires : goal.split-hold-held-requires
split-hold-held-requires t c = split_keying c.requires.splittable (remembered_out t (goal.at.split-hold-held-requires t c).After-settle_and_decide-a).remembering

pub split-begin-taken-requires : goal.split-begin-taken-requires
split-begin-taken-requires t c =
    let k = c.requires.splittable in
    side_siding k.calm k.lasting.small k.well (branch_open k) _ (omega (arith, c.code-2.ensures ∙ ap code_of (c.opposite-2.ensures ∙ ap opposite c.new-x.ensures)))

pub split-overflow_sub-level-2 : goal.split-overflow_sub-level-2
split-overflow_sub-level-2 t c = omega (arith, counted_out t (goal.at.split-overflow_sub-level-2 t c).After-settle_and_decide-a)

pub split-settle_and_decide-b-requires : goal.split-settle_and_decide-b-requires
split-settle_and_decide-b-requires t c =
    let k = c.requires.splittable in
    let a = c.settle_and_decide-a in
    let ra = remembered_out t (goal.at.split-settle_and_decide-b-requires t c).After-settle_and_decide-a in
    let is = second_is k _ _ _ c.new-x.ensures c.opposite-2.ensures c.code-2.ensures in
    let b = c.begin-taken in
    let r = is_err b.result in
    rw c.below-rest.ensures (
      omega (arith, side_falls k.calm k.lasting.small k.well (branch_open k) _ TRUE refl is b.new.state b.new.work r b.ensures, c.decreases),
      (side_walkable k _ TRUE refl is b.new.state b.new.work r b.ensures _ _ _ a.auto.plan a.auto.trail, held_remembering k ra c.hold-held.result c.hold-held.ensures),
    )

pub split-learn-requires-clause-keepable : goal.split-learn-requires-clause-keepable
split-learn-requires-clause-keepable t c =
    let ra = remembered_out t (goal.at.split-learn-requires-clause-keepable t c).After-settle_and_decide-a in
    held_keepable c.requires.splittable ra (rw c.below-rest.ensures at c.settle_and_decide-b.ensures.remembers) c.hold-held.result c.hold-held.ensures

pub split-learn-requires-clause-fits : goal.split-learn-requires-clause-fits
split-learn-requires-clause-fits t c =
    let at = goal.at.split-learn-requires-clause-fits t c in
    let a = c.settle_and_decide-a in
    let b = c.settle_and_decide-b in
    let all = both_count c.requires.splittable c.if-level-eq0.false a.result a.new.plan a.new.trail (walked_out t at.After-settle_and_decide-a)
    b.result b.new.plan b.new.trail (walked_in t at.After-settle_and_decide-b) in
    let fits : Fits w32 c.args.level.left = search rules in
    omega (arith, all, fits)

pub split-through-requires-2 : goal.split-through-requires-2
split-through-requires-2 t c =
    let at = goal.at.split-through-requires-2 t c in
    let k = c.requires.splittable in
    let a = c.settle_and_decide-a in
    let b = c.settle_and_decide-b in
    let all = both_count k c.if-level-eq0.false a.result a.new.plan a.new.trail (walked_out t at.After-settle_and_decide-a)
    b.result b.new.plan b.new.trail (walked_in t at.After-settle_and_decide-b) in
    let fits : Fits w32 c.args.level.left = search rules in
    side_passable k _ _ c.args.level.left all fits _ (ap var c.new-x.ensures) _ (b.auto.trail ∙ a.auto.trail)

pub split-returns-clause-walks : goal.split-returns-clause-walks
split-returns-clause-walks t c =
    let at = goal.at.split-returns-clause-walks t c in
    let a = c.settle_and_decide-a in
    let b = c.settle_and_decide-b in
    rw (c.through-2.ensures.0, c.through-2.ensures.1, c.new-x.ensures)
    (whole_walk c.requires.splittable c.if-level-eq0.false a.result a.new.plan a.new.trail (walked_out t at.After-settle_and_decide-a)
    b.result b.new.plan b.new.trail (walked_in t at.After-settle_and_decide-b) (search rules))

pub split-returns-clause-remembers : goal.split-returns-clause-remembers
split-returns-clause-remembers t c =
    let at = goal.at.split-returns-clause-remembers t c in
    let k = c.requires.splittable in
    let a = c.settle_and_decide-a in
    let b = c.settle_and_decide-b in
    let rb = rw c.below-rest.ensures at b.ensures.remembers in
    let w = whole_walk k c.if-level-eq0.false a.result a.new.plan a.new.trail (walked_out t at.After-settle_and_decide-a)
    b.result b.new.plan b.new.trail (walked_in t at.After-settle_and_decide-b) (search rules) in
    split_remembered k (remembered_out t at.After-settle_and_decide-a) rb _ w c.hold-held.result c.hold-held.ensures _ _ refl c.learn.ensures
