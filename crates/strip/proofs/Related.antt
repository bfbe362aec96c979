-- Two readings that go on alike after a command: what holds between them after it, for every relation that a reading has to itself, holds between them before it.
use Rattle.receipt.specs.declared.Fault.{Fault}
use mathlib.Core.Bool.{Bool, true, false, cond}
use mathlib.Core.List.{List, [], ◌∷◌, ◌++◌}
use Prim.Native.Nat.{ℕ}
use lib.Dec.{ltb}
use lib.IntN.{ℤ}
use lib.ListN.{length}
use Rattle.receipt.specs.declared.Fault.TheVariants.{TableShort}
use Rattle.receipt.specs.Receipt.{refusal}
use Rattle.theory.specs.declared.Progress.{Progress}
use Rattle.std.specs.Prelude.{Option, None, Some, Result, Ok, Err}
use Rattle.theory.specs.declared.Obeyed.{Obeyed}
use Rattle.theory.specs.Strip.{Decoding, not_read, storing, onward}

module _ (R : Decoding → Decoding → Type 0) (self : (d : Decoding) → R d d) (room i : ℕ) (t : List ℤ) (one other : Progress → List ℤ → Decoding)
    (after : (q : Progress) (t' : List ℤ) → R (one q t') (other q t')) where
  storing_related : (q : Progress) (e : Option ℤ) → R (storing room (one q) i t e) (storing room (other q) i t e)
  storing_related q None = after q t
  storing_related q (Some x) = go (ltb (length t) room)
    where
      go : (b : Bool) → R (cond b (one q (t ++ (x ∷ []))) (not_read (refusal TableShort i))) (cond b (other q (t ++ (x ∷ []))) (not_read (refusal TableShort i)))
      go true = after q (t ++ (x ∷ []))
      go false = self _

  pub onward_related : (o : Result Obeyed Fault) → R (onward room one i t o) (onward room other i t o)
  onward_related (Ok o) = storing_related o.progress o.stored
  onward_related (Err why) = self _
