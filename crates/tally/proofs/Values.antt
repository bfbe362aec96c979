-- The code of what a literal stands for, by the code of what its variable stands for: the last bit is turned where the literal is negative.
use mathlib.Core.Path.{◌≡◌, sym, ◌∙◌}
use Prim.Native.Nat.{ℕ, ◌+◌, ◌*◌, ◌/◌, ◌%◌, ◌<◌}
use native.Mathlib.Decide.{ℕ_discrete as dec_eq}
use native.Mathlib.Omega.{arith}
use lib.Bits.{bit_xor, differ, xor_step, xor_zero_r}
use mathlib.Core.List.{List}
use lib.ListN.{get_or}
use Rattle.literal.specs.Literal.{opposite, code_of, literal_at, codes}
use Rattle.literal.proofs.Codes.{at_even, at_odd, code_of_literal_at}
use Rattle.theory.specs.State.{value}
use Rattle.state.specs.State.{state_of}
use Rattle.state.proofs.Values.{state_of_inside}

-- turning the last bit
xor_one : (w b : ℕ) → w % 2 ≡ b → bit_xor w 1 ≡ w / 2 * 2 + differ b 1
xor_one w b e = xor_step w 1 ∙ rw (xor_zero_r (w / 2), e)

pub opposite_code : (w : ℕ) → code_of (opposite (literal_at w)) ≡ bit_xor w 1
opposite_code w = elim (dec_eq (w % 2) 0) [
  | yes e ↦ let q : w / 2 * 2 + 1 ≡ 2 * (w / 2) + 1 = omega arith in rw (at_even w e) (sym (xor_one w 0 e ∙ q))
  | no e ↦ let o : w % 2 ≡ 1 = omega arith in let q : w / 2 * 2 + 0 ≡ 2 * (w / 2) = omega arith in rw (at_odd w e) (sym (xor_one w 1 o ∙ q))
]

pub value_code : (v : List ℕ) (c : ℕ) → c < codes → bit_xor (get_or v (c / 2) 0) (c % 2) ≡ code_of (value (state_of v) (literal_at c))
value_code v c h =
    let s : state_of v (c / 2) ≡ literal_at (get_or v (c / 2) 0) = state_of_inside v (c / 2) (omega arith) in
    elim (dec_eq (c % 2) 0) [
      | yes e ↦ rw (at_even c e, e, s, xor_zero_r (get_or v (c / 2) 0)) (sym (code_of_literal_at (get_or v (c / 2) 0)))
      | no e ↦ let o : c % 2 ≡ 1 = omega arith in rw (at_odd c e, o, s) (sym (opposite_code (get_or v (c / 2) 0)))
    ]
