-- What Save asks of a table, and the call that passes.
use mathlib.Core.Path.{◌≡◌}
use mathlib.Core.Bool.{not}
use mathlib.Core.List.{List}
use Prim.Native.Nat.{ℕ}
use native.Mathlib.Omega.{arith}
use borrow.Author.Tests.{not-false}
use lib.IntN.{ℤ}
use lib.ListN.{length}
use Rattle.general.specs.Appending.{Appended}
use Rattle.std.specs.Prelude.{Ok}
use Rattle.receipt.specs.declared.Fault.TheVariants.{StripShort, UnmentionedVariable}
use Rattle.receipt.specs.Receipt.{pass}
use Rattle.theory.specs.Table.{check, Accepted}
use Rattle.theory.specs.Mentions.{mentions_all, Mentioned}
use Rattle.theory.specs.Encoding.{saved_strip}
use Rattle.theory.specs.Calls.{save_check, save_call}
use Rattle.theory.specs.Refusing.{at_most}
use Rattle.theory.proofs.Refusing.{if_passes, first_passed}
use Rattle.save.specs.Save.{called}

-- a table that Save accepts, where there is room
pub save_passed : (n : ℕ) (t : List ℤ) → save_check n t ≡ pass → Accepted n t × Mentioned n t
unfolding save_check
save_passed n t e =
    let x = (first_passed (check n t) _).0 e in
    (x.0, not-false (mentions_all n t) ((if_passes (not (mentions_all n t)) UnmentionedVariable).0 ((first_passed _ pass).0 x.1).0))

pub passed_save : (n : ℕ) (t : List ℤ) → Accepted n t → Mentioned n t → save_check n t ≡ pass
unfolding save_check
passed_save n t a m = rw (a, m)

-- the strip that was written is the whole one
pub call_saved : (n : ℕ) (t : List ℤ) (s : List ℕ) → save_check n t ≡ pass → at_most (length (saved_strip n t)) (length s) StripShort ≡ pass →
    (s' : List ℕ) (k : ℕ) → Appended s 0 (saved_strip n t) s' k → called (Ok k) s' ≡ save_call n t s
unfolding save_call
call_saved n t s passed room s' k p =
    let e : k ≡ length (saved_strip n t) = omega (arith, p.ends) in
    rw (p.whole, e, passed, room)
