-- What stands from the index of each turn on is what stands from the first on.
use Rattle.std.proofs.Common.{rules, arith, ◌≡◌, true, not, sym, refl, ap, ◌∙◌, ◌∷◌, [], ◌+◌, get_or, pos, nat_abs}
use mathlib.Core.Logic.{◌≢◌}
use borrow.Author.Tests.{ltb-true, ltb-false}
use lib.ListN.{length}
use Rattle.literal.specs.Literal.{FALSE, var, same, literal_of}
use Rattle.literal.proofs.Entries.{var_literal_of}
use Rattle.theory.specs.State.{value}
use Rattle.state.specs.State.{state_of}
use Rattle.clause.specs.Literals.{left}
use Rattle.clause.proofs.Walk.{clause_here, clause_past, entry_stands, entry_false}
use Rattle.clause.proofs.LiteralsIterator.next.Goals as goal
use Rattle.clause.proofs.LiteralsIterator.next.Goals.{After-is_open, After-ne}

read : (c : After-is_open) → c.from-entry.result ≡ literal_of (get_or c.args.self.now.of.table.now c.loop-i.i (pos 0))
read c = search rules

size : (c : After-is_open) → var c.from-entry.result ≡ nat_abs (get_or c.args.self.now.of.table.now c.loop-i.i (pos 0))
size c = ap var (read c) ∙ var_literal_of (get_or c.args.self.now.of.table.now c.loop-i.i (pos 0))

tested : (c : After-ne) → same c.value-x.result FALSE ≡ not c.ne.result
tested c = search rules

says : (c : After-ne) → c.value-x.result ≡ value (state_of c.args.self.now.of.state.now.values) (literal_of (get_or c.args.self.now.of.table.now c.loop-i.i (pos 0)))
says c = c.value-x.ensures ∙ ap (value (state_of c.args.self.now.of.state.now.values)) (read (goal.at.After-ne c).After-is_open)

entry : (c : After-ne) → nat_abs (get_or c.args.self.now.of.table.now c.loop-i.i (pos 0)) ≢ 0
entry c e = omega (arith, ltb-true 0 (var c.from-entry.result) (sym c.is_open.ensures ∙ c.if-not-is_open.false), size (goal.at.After-ne c).After-is_open)

pub returns-then-not-is_open-clause-steps : goal.returns-then-not-is_open-clause-steps
returns-then-not-is_open-clause-steps c =
    let z : nat_abs (get_or c.args.self.now.of.table.now c.loop-i.i (pos 0)) ≡ 0 =
    omega (arith, ltb-false 0 (var c.from-entry.result) (sym c.is_open.ensures ∙ c.if-not-is_open.true), size (goal.at.returns-then-not-is_open-clause-steps c).After-is_open) in
    let e : left c.args.self.now ≡ [] = sym (rw c.loop-i.invariant.kept at c.loop-i.invariant.same) ∙ clause_here c.args.self.now.of.table.now c.loop-i.i c.args.self.now.of.state.now.values (omega arith) z in
    rw c.loop-i.invariant.kept (e, e)

stands : (c : After-ne) → c.ne.result ≡ true → left c.args.self.now ≡ c.value-x.result ∷ left (record { of = c.loop-i.self.of; at = c.loop-i.i + 1 })
stands c e =
    rw c.loop-i.invariant.kept
    (sym (rw c.loop-i.invariant.kept at c.loop-i.invariant.same)
    ∙ entry_stands c.args.self.now.of.table.now c.args.self.now.of.state.now.values c.loop-i.i c.value-x.result (omega arith) (entry c) (says c) (tested c ∙ ap not e))

pub returns-then-ne-clause-steps : goal.returns-then-ne-clause-steps
returns-then-ne-clause-steps c = stands (goal.at.returns-then-ne-clause-steps c).After-ne c.if-ne.true

pub returns-then-ne-clause-goes : goal.returns-then-ne-clause-goes
returns-then-ne-clause-goes c = let e = stands (goal.at.returns-then-ne-clause-goes c).After-ne c.if-ne.true in let l = ap length e in search rules

pub loop-i-preserved : goal.loop-i-preserved
loop-i-preserved c =
    let k = (goal.at.loop-i-preserved c).After-ne in
    record {
      long = refl;
      kept = c.loop-i.invariant.kept;
      same =
          entry_false c.args.self.now.of.table.now c.args.self.now.of.state.now.values c.loop-i.i c.value-x.result (omega arith) (entry k) (says k) (tested k ∙ ap not c.if-ne.false)
          ∙ c.loop-i.invariant.same;
    }

pub returns-clause-steps : goal.returns-clause-steps
returns-clause-steps c =
    let e : left c.args.self.now ≡ [] =
    sym (rw c.loop-i.invariant.kept at c.loop-i.invariant.same) ∙ clause_past c.args.self.now.of.table.now c.loop-i.i c.args.self.now.of.state.now.values (omega arith) in
    rw c.loop-i.invariant.kept (e, e)
