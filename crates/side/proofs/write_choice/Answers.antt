-- `write_choice`: by the laws of Runs.
use Rattle.std.proofs.Common.{◌≡◌, false, List, map, ℕ, ◌+◌, ◌<◌, length, get_or, ap, sym, arith, ◌∙◌}
use lib.ListN.{length-map, get_or-map}
use Rattle.general.specs.Booleans.{bit, byte_bit}
use Rattle.general.specs.Lists.{get_or_from}
use Rattle.general.specs.Runs.{turned, written}
use Rattle.literal.specs.Literal.{literal_at}
use Rattle.theory.specs.Formula.{holds}
use Rattle.theory.specs.Search.{only_constant, choice_of}
use Rattle.theory.specs.State.{State}
use Rattle.theory.proofs.Leaves.{choice_long}
use Rattle.state.proofs.Values.{state_of_inside}
use Rattle.tally.specs.Tally.{state_in, value_in}
use Rattle.side.proofs.write_choice.Goals as goal

abbrev plan : ℕ → State → List ℕ
plan n s = map bit (choice_of n s)

long : (n : ℕ) (s : State) → length (plan n s) ≡ n
long n s = length-map (choice_of n s) bit ∙ choice_long n s

at : (n : ℕ) (s : State) (i : ℕ) → i < n → bit (holds only_constant (s (i + 1))) ≡ get_or (plan n s) i 0
unfolding choice_of
at n s i h = sym (
    get_or-map bit (choice_of n s) i false ∙ ap bit (get_or_from (λ p. holds only_constant (s p)) 1 n i false h) ∙
    ap (λ (p : ℕ). bit (holds only_constant (s p))) (omega arith)
    )

pub loop-i-preserved : goal.loop-i-preserved
loop-i-preserved c =
    let a = c.args in
    let h = c.loop-i-test.true in
    let e : literal_at (value_in a.state.now (c.loop-i.i + 1)) ≡ state_in a.state.now (c.loop-i.i + 1) =
    sym (state_of_inside a.state.now.values (c.loop-i.i + 1) (omega (arith, h, c.requires.n_le_max_variables))) in
    turned _ _ _ _ (long _ _) _ _ c.loop-i.invariant c.requires.n_in_bounds h _ 0
    (byte_bit c.chosen.result ∙ ap bit (c.chosen.ensures ∙ ap (holds only_constant) (c.of_code.ensures ∙ ap literal_at c.value_of.ensures ∙ e)) ∙ at a.n (state_in a.state.now) c.loop-i.i h)

pub returns : goal.returns
returns c = written _ _ _ _ (long _ _) _ _ c.loop-i.invariant c.loop-i-test.false
