-- What a literal of one variable becomes, by its code.
use mathlib.Core.Path.{◌≡◌, ap, sym, ◌∙◌}
use mathlib.Core.Logic.{⊎_elim}
use Prim.Native.Nat.{ℕ, ◌/◌}
use Rattle.literal.specs.Literal.{opposite, code_of, literal_at}
use Rattle.literal.proofs.Codes.{code_of_literal_at, var_at}
use Rattle.theory.specs.State.{replace}
use Rattle.theory.proofs.Literals.{of_variable_lem}
use Rattle.theory.proofs.States.{replace_same, replace_opposite_same}

module _ (v x t : ℕ) where
  pub turned_same : v ≡ x → t ≡ code_of (replace (literal_at x) (literal_at t) (literal_at v))
  turned_same e = rw (e, replace_same (literal_at x) (literal_at t)) (sym (code_of_literal_at t))

  pub turned_opposite : v / 2 ≡ x / 2 → (v ≡ x → ⊥) → code_of (opposite (literal_at t)) ≡ code_of (replace (literal_at x) (literal_at t) (literal_at v))
  turned_opposite e n = ⊎_elim
      (λ q. absurd (n (sym (code_of_literal_at v) ∙ ap code_of q ∙ code_of_literal_at x)))
      (λ q. ap code_of (sym (replace_opposite_same (literal_at x) (literal_at t)) ∙ ap (replace (literal_at x) (literal_at t)) (sym q)))
      (of_variable_lem (literal_at v) (literal_at x) (var_at v ∙ e ∙ sym (var_at x)))
