-- The counts, with the literals of what is left of the clause, are those of the whole.
use Rattle.std.proofs.Common.{arith, refl, ap, ◌≤◌, ◌<◌, ◌∷◌, []}
use mathlib.Core.List.Memᴰ
use lib.ListN.{length, length-append}
use Rattle.literal.specs.Literal.{var, max_variables, codes}
use Rattle.state.proofs.Values.{code_below}
use Rattle.clause.proofs.Counting.{counting_none, counting_more, counting_done}
use Rattle.clause.proofs.Walk.{clause_short}
use Rattle.clause.proofs.Reading.{left_known}
use Rattle.clause.proofs.Standing.count.Goals as goal
use Rattle.clause.proofs.Standing.count.Goals.{In-Some, After-code}

-- the literal that was read is of a variable of the formula
known : (c : In-Some) → var c.in-Some.x ≤ max_variables
known c = left_known c.loop-x.x-iterator c.in-Some.x (rw c.in-Some.ensures.steps (Memᴰ.head refl))

index : (c : After-code) → c.code.result < codes
index c = rw c.code.ensures (code_below c.in-Some.x (known (goal.at.After-code c).In-Some))

pub bounds-by_code-code : goal.bounds-by_code-code
bounds-by_code-code c = index (goal.at.bounds-by_code-code c).After-code

pub bounds-by_code-code-in-loop-x : goal.bounds-by_code-code-in-loop-x
bounds-by_code-code-in-loop-x c = index (goal.at.bounds-by_code-code-in-loop-x c).After-code

-- no count is above the number of literals that were read
pub overflow_add-by_code : goal.overflow_add-by_code
overflow_add-by_code c =
    let s = c.args.self in
    let k = c.loop-x.invariant in
    record {
      fits = omega (
        arith,
        k.counting.low c.code.result (index (goal.at.overflow_add-by_code c).After-code),
        k.low,
        clause_short s.table.now s.state.now.values c.args.at s.readable,
      );
    }

pub loop-x-init : goal.loop-x-init
loop-x-init c = rw (c.into_iter-x-iterator.ensures.into_iter_gives, c.literals-x-items.ensures) (record { can = tt; finite = tt; low = omega arith; counting = counting_none _ _ })

pub code-requires : goal.code-requires
code-requires c = omega (arith, known (goal.at.code-requires c).In-Some)

pub loop-x-preserved : goal.loop-x-preserved
loop-x-preserved c =
    rw c.code.ensures
    (record {
      can = tt;
      finite = tt;
      low = omega (arith, length-append c.loop-x.yielded (c.in-Some.x ∷ []), c.loop-x.invariant.low, ap length c.in-Some.ensures.steps);
      counting = counting_more c.loop-x.invariant.counting c.in-Some.x _ (known (goal.at.loop-x-preserved c).In-Some) c.in-Some.ensures.steps (omega (arith, length-append c.loop-x.yielded (c.in-Some.x ∷ [])));
    })

pub invariant_of-result : goal.invariant_of-result
invariant_of-result c = record { counts = counting_done c.loop-x.invariant.counting c.in-None.ensures.steps.0 }
