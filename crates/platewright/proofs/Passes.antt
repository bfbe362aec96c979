-- What C keeps of a pass is all of it: the parts of a table, one after the other, are checked as the whole table is.
use mathlib.Core.Path.{◌≡◌, refl}
use mathlib.Core.List.{List, [], ◌∷◌, flatten}
use Prim.Native.Nat.{ℕ}
use lib.IntN.{ℤ}
use Rattle.theory.specs.Table.{check}
use Rattle.table.specs.declared.Unknown.{Unknown}
use Rattle.std.specs.Prelude.{Option, None, Some}
use Rattle.table.specs.declared.Pass.{Pass}
use Rattle.table.specs.Pass.{begin, after, after_all, verdict}
use Rattle.table.proofs.Promises.{check_parts}
use Rattle.platewright.specs.Pass.{lent_pass, pass_of, parts}

pub kept : (p : Pass) → pass_of (lent_pass p) ≡ p
kept p = go p.unknown refl
  where
    go : (u : Option Unknown) → p.unknown ≡ u → pass_of (lent_pass p) ≡ p
    go None e = rw e
    go (Some w) e = rw e

parts_are : (s : Pass) (ts : List (List ℤ)) → parts (lent_pass s) ts ≡ lent_pass (after_all s ts)
unfolding parts after_all
parts_are s [] = refl
parts_are s (t ∷ ts) = rw (kept s) (parts_are (after s t) ts)

pub parts_checked : (n : ℕ) (ts : List (List ℤ)) → verdict (pass_of (parts (lent_pass (begin n)) ts)) ≡ check n (flatten ts)
parts_checked n ts = rw (parts_are (begin n) ts, kept (after_all (begin n) ts)) (check_parts (record { is = refl }))
