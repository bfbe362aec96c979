-- By the laws of Runs.
use Rattle.std.proofs.Common.{◌+◌, ◌<◌, ◌++◌, arith, ap, sym, ◌∙◌, pos, take, drop, append-nil}
use mir.Syntax.{w16}
use mir.ValLaws.{to_z-of_z}
use lib.ListN.{drop_of_length-le}
use Rattle.std.proofs.lemmas.List.{length-take-le}
use Rattle.general.specs.Lists.{length_from, get_or_from}
use Rattle.general.specs.Runs.{turned_front, written_front}
use Rattle.literal.specs.declared.Literal.TheVariants.{Pos}
use Rattle.theory.specs.Calls.{state_entry}
use Rattle.state.specs.State.{state_of}
use Rattle.state.proofs.Values.{value_var}
use Rattle.settle.proofs.write_state.Goals as goal
use Rattle.settle.proofs.write_state.Goals.{In-loop-i}

inside : (c : In-loop-i) → c.loop-i.i < c.args.n
inside c = omega (arith, length-take-le c.args.n c.args.list.now c.requires.n_in_bounds)

pub state_entry-requires : goal.state_entry-requires
state_entry-requires c =
    let i = inside (goal.at.state_entry-requires c).In-loop-i in
    rw c.root.ensures (value_var c.args.state.now.in_range (Pos (c.loop-i.i + 1)) (omega arith))

pub loop-i-preserved : goal.loop-i-preserved
loop-i-preserved c =
    let a = c.args in
    let l = c.loop-i in
    let i = inside (goal.at.loop-i-preserved c).In-loop-i in
    turned_front _ _ _ (length_from _ 1 a.n) _ _ l.invariant (omega (arith, length-take-le a.n a.list.now c.requires.n_in_bounds)) i _ (pos 0)
    (to_z-of_z w16 _ (record { sfits = c.state_entry.type_inv })
    ∙ c.state_entry.ensures
    ∙ ap state_entry (c.root.ensures ∙ ap (state_of a.state.now.values) (omega arith))
    ∙ sym (get_or_from _ 1 a.n l.i (pos 0) i))

pub returns : goal.returns
returns c =
    let a = c.args in
    let l = length-take-le a.n a.list.now c.requires.n_in_bounds in
    ap (λ s. s ++ drop a.n a.list.now)
    (written_front _ _ _ (length_from _ 1 _) _ _ c.loop-i.invariant (omega (arith, l))
    ∙ rw (drop_of_length-le (take a.n a.list.now) {i = a.n} (omega (arith, l)), append-nil))
