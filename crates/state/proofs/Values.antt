-- The array of a state and the substitution that it is: elements as values, and codes in range.
use mathlib.Core.Path.{◌≡◌, ap, sym, ◌∙◌, fun_ext}
use mathlib.Core.List.{List}
use Prim.Native.Nat.{ℕ, ◌*◌, ◌<◌, ◌≤◌}
use native.Mathlib.Decide.{dec_le}
use native.Mathlib.Omega.{arith}
use borrow.Author.Tests.{le-leb, lt-leb}
use lib.ListN.{get_or}
use Rattle.literal.specs.declared.Literal.{Literal}
use Rattle.literal.specs.declared.Literal.TheVariants.{Pos, Neg}
use Rattle.literal.specs.Literal.{var, code_of, literal_at, max_variables, codes}
use Rattle.literal.proofs.Codes.{literal_at_code_of, var_at, code_var_bound}
use Rattle.theory.specs.State.{initial, value, replace, assign}
use Rattle.theory.proofs.Literals.{var_opposite}
use Rattle.theory.proofs.States.{replace_ind, replace_other}
use Rattle.state.specs.State.{state_of, InRange}

-- elements as values ---------------------------------------------------------------------------------------------

pub state_of_inside : (v : List ℕ) (p : ℕ) → p ≤ max_variables → state_of v p ≡ literal_at (get_or v p 0)
unfolding state_of
state_of_inside v p h = rw (le-leb p max_variables h)

pub state_of_past : (v : List ℕ) (p : ℕ) → max_variables < p → state_of v p ≡ Pos p
unfolding state_of
state_of_past v p h = rw (lt-leb p max_variables h)

pub state_of_initial : (v : List ℕ) → ((p : ℕ) → p ≤ max_variables → get_or v p 0 ≡ 2 * p) → state_of v ≡ initial
state_of_initial v h = fun_ext (λ p. elim (dec_le p max_variables) [
  | yes i ↦ state_of_inside v p i ∙ ap literal_at (h p i) ∙ literal_at_code_of (Pos p)
  | no i ↦ state_of_past v p (omega arith)
])

-- an array whose elements were replaced, past which x has no variable
pub state_of_assign : (v w : List ℕ) (x t : Literal) → var x ≤ max_variables →
    ((p : ℕ) → p ≤ max_variables → get_or w p 0 ≡ code_of (replace x t (literal_at (get_or v p 0)))) → state_of w ≡ assign x t (state_of v)
state_of_assign v w x t b h = fun_ext (λ p. elim (dec_le p max_variables) [
  | yes i ↦ rw (state_of_inside v p i) (state_of_inside w p i ∙ ap literal_at (h p i) ∙ literal_at_code_of (replace x t (literal_at (get_or v p 0))))
  | no i ↦ rw (state_of_past v p (omega arith)) (state_of_past w p (omega arith) ∙ sym (replace_other x t (Pos p) (λ q. omega arith)))
])

-- codes in range: the variable is an index -----------------------------------------------------------------------

pub var_below : (c : ℕ) → c < codes → var (literal_at c) ≤ max_variables
var_below c h = omega (arith, var_at c)

pub code_below : (l : Literal) → var l ≤ max_variables → code_of l < codes
code_below l h = omega (arith, code_var_bound l max_variables h)

pub replace_var : (x t l : Literal) (m : ℕ) → var t ≤ m → var l ≤ m → var (replace x t l) ≤ m
replace_var x t l m h = replace_ind (λ k r. var k ≤ m → var r ≤ m) x t (λ b. h) (λ b. omega (arith, var_opposite t)) (λ k n b. b) l

pub value_var : {v : List ℕ} → InRange v → (l : Literal) → var l ≤ max_variables → var (value (state_of v) l) ≤ max_variables
value_var {v} r l h = go l h
  where
    at : (p : ℕ) → p ≤ max_variables → var (state_of v p) ≤ max_variables
    at p b = rw (state_of_inside v p b) (var_below (get_or v p 0) (r.below p b))

    go : (l : Literal) → var l ≤ max_variables → var (value (state_of v) l) ≤ max_variables
    go (Pos p) b = at p b
    go (Neg p) b = rw (var_opposite (state_of v p)) (at p b)
