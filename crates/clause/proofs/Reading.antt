-- What is read of a clause: every literal is of a variable of the formula, so a closure that asks no more may be called at it.
use mathlib.Core.Path.{refl}
use mathlib.Core.List.{Memᴰ}
use Prim.Native.Nat.{◌≤◌}
use Rattle.std.specs.Iterator.{YieldsFirst, CallableAtEachTurn}
use Rattle.literal.specs.declared.Literal.{Literal}
use Rattle.literal.specs.Literal.{var, max_variables}
use Rattle.clause.specs.declared.Literals.{Literals}
use Rattle.clause.specs.Literals.{left}
use Rattle.clause.proofs.Walk.{clause_known}

pub left_known : (s : Literals) (x : Literal) → Memᴰ x (left s) → var x ≤ max_variables
left_known s x m = clause_known s.of.table.now s.of.state.now.values s.at s.of.readable s.of.state.now.in_range x m

pub serves : {P : Type 0} {R : P → Literal → P → Type 0} {Q : P → Literal → Type 0} {s : Literals} {p : P} → ((q : P) (x : Literal) → var x ≤ max_variables → Q q x) →
    CallableAtEachTurn (YieldsFirst left) R Q s p
serves h = record { at = λ xs t q x u y f e. h q x (left_known t x (rw e (Memᴰ.head refl))) }
