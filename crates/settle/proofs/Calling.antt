-- What code answers, and leaves in both lists, is the call of Settle.
use mathlib.Core.Path.{◌≡◌, ap, ◌∙◌}
use mathlib.Core.List.{List, ◌++◌}
use Prim.Native.Nat.{ℕ, ◌+◌}
use native.Mathlib.Nat.{zero-add}
use lib.IntN.{ℤ, pos as posℤ}
use Rattle.std.specs.Prelude.{Option, None, Some}
use lib.ListN.{length, drop, replicate}
use Rattle.general.specs.Lists.{up_to}
use Rattle.receipt.specs.declared.Fault.TheVariants.{StateShort, ReasonsShort}
use Rattle.std.specs.Prelude.{Ok}
use Rattle.receipt.specs.declared.Settling.TheVariants as settling
use Rattle.receipt.specs.Receipt.{pass}
use Rattle.theory.specs.Formula.{clauses}
use Rattle.theory.specs.State.{State, initial}
use Rattle.theory.specs.Table.{Accepted}
use Rattle.theory.specs.Propagation.{settle}
use Rattle.theory.specs.Refusing.{at_most}
use Rattle.theory.specs.Reasons.{unexplained, explain, forget}
use Rattle.theory.specs.Calls.{over, state_entry, settling_of, state_list, reason_list, settle_call}
use Rattle.theory.proofs.Forgetting.{settle_forgets}
use Rattle.state.specs.State.{state_of}
use Rattle.propagate.specs.Code.{reasons_of, explanation}
use Rattle.propagate.specs.declared.Settled.{Settled}
use Rattle.settle.specs.Settle.{called}

-- what is called after all three checks passed: by where code's settling ends
module _ (n : ℕ) (t l : List ℤ) (m : List ℕ) (table : Accepted n t) (list : at_most n (length l) StateShort ≡ pass) (reasons : at_most n (length m) ReasonsShort ≡ pass)
    (r : Option Settled) (s : State) (is : explanation r ≡ explain n (clauses t) (unexplained s)) (start : s ≡ initial) (l' : List ℤ) (m' : List ℕ) where
  explains : explanation r ≡ explain n (clauses t) (unexplained initial)
  explains = is ∙ ap (λ (u : State). explain n (clauses t) (unexplained u)) start

  settles : forget (explanation r) ≡ settle n (clauses t) initial
  settles = ap forget explains ∙ settle_forgets n (clauses t) (unexplained initial)

  ended : l' ≡ over n (state_list n (forget (explanation r))) l → m' ≡ over n (reason_list n (explanation r)) m →
      called (settling_of (forget (explanation r))) l' m' ≡ settle_call n t l m
  unfolding settle_call
  ended e i = rw (table, list, reasons, e, i, settles, explains)

  -- cleared from the index 0 on
  pub call_dead : r ≡ None → l' ≡ replicate n (posℤ 0) ++ drop (0 + n) l → m' ≡ replicate n 0 ++ drop (0 + n) m → called (Ok settling.NoLayout) l' m' ≡ settle_call n t l m
  call_dead d e i = rw d at ended (rw zero-add at e) (rw zero-add at i)

  pub call_rest : {e : Settled} → r ≡ Some e → l' ≡ over n (up_to (λ p. state_entry (state_of e.state.values p)) n) l → m' ≡ over n (up_to (reasons_of e.reasons) n) m →
      called (Ok settling.Settled) l' m' ≡ settle_call n t l m
  call_rest d e i = rw d at ended e i
