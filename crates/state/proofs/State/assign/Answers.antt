-- A turn replaces one element.
use Rattle.std.proofs.Common.{arith, ◌≡◌, ◌≤◌, ℕ, List, ap, ◌∙◌, get_or}
use Rattle.literal.specs.declared.Literal.{Literal}
use Rattle.literal.specs.Literal.{var, code_of, literal_at, max_variables}
use Rattle.theory.specs.State.{replace}
use Rattle.state.specs.State.{InRange}
use Rattle.state.proofs.Fill.{filled_none, filled_more}
use Rattle.state.proofs.Values.{state_of_assign, var_below, code_below, replace_var}
use Rattle.state.proofs.State.assign.Goals as goal
use Rattle.state.proofs.State.assign.Goals.{After-replaced, After-loop-code}

-- the literal that takes the place of the one at an index, and its code
small : (x t : Literal) (v : List ℕ) (p : ℕ) → var t ≤ max_variables → InRange v → p ≤ max_variables → var (replace x t (literal_at (get_or v p 0))) ≤ max_variables
small x t v p h r i = replace_var x t (literal_at (get_or v p 0)) max_variables h (var_below (get_or v p 0) (r.below p i))

replaced_here : (c : After-replaced) → c.replaced.result ≡ replace c.args.x c.args.t (literal_at (get_or c.args.self.now.values c.loop-code.code-index 0))
replaced_here c = c.replaced.ensures ∙ ap (replace c.args.x c.args.t) (c.of_code.ensures ∙ ap literal_at (c.loop-code.invariant.rest c.loop-code.code-index (omega arith)))

pub loop-code-init : goal.loop-code-init
loop-code-init c = filled_none 0 _ _

pub code-requires : goal.code-requires
code-requires c =
    let a = c.args in
    rw (replaced_here (goal.at.code-requires c).After-replaced)
    (omega (arith, small a.x a.t a.self.now.values c.loop-code.code-index c.requires.t_bound a.self.now.in_range (omega arith)))

pub loop-code-preserved : goal.loop-code-preserved
loop-code-preserved c =
    filled_more 0 _ c.loop-code.invariant (omega arith) c.code.result
    (c.code.ensures ∙ ap code_of (replaced_here (goal.at.loop-code-preserved c).After-replaced))

pub invariant_of-result : goal.invariant_of-result
invariant_of-result c =
    let a = c.args in
    record {
      in_range = record {
        below = λ p h.
            rw (c.loop-code.invariant.done p (omega arith))
            (code_below (replace a.x a.t (literal_at (get_or a.self.now.values p 0))) (small a.x a.t a.self.now.values p c.requires.t_bound a.self.now.in_range h));
      };
    }

pub returns : goal.returns
returns c = state_of_assign c.args.self.now.values c.loop-code.code-items c.args.x c.args.t c.requires.x_bound (λ p h. c.loop-code.invariant.done p (omega arith))
