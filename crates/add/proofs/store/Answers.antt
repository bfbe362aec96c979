-- The list and a 0 after it are one run.
use Rattle.std.proofs.Common.{◌≡◌, ℕ, ◌+◌, ◌<◌, List, length, set, refl, ◌∙◌, append_assoc, arith, pos}
use lib.IntN.{ℤ}
use lib.Seq.{take-length}
use Rattle.general.specs.Appending.{Appended, append_one, append_both, appended_length}
use Rattle.theory.specs.Calls.{added}
use Rattle.add.proofs.store.Goals as goal

-- the 0 after the list
stored : (u : ℕ) (g b l : List ℤ) → u + length g < length b → Appended b u g l (u + length g) → set l (u + length g) (pos 0) ≡ added u g b
stored u g b l room list = (append_both list (append_one l (u + length g) (pos 0) (omega (arith, room, appended_length list)))).whole ∙ rw (append_assoc g)

pub returns : goal.returns
returns c =
    let a = c.args in
    let e = rw (take-length a.group.now) at c.copy.ensures in
    stored a.used a.group.now a.buffer.now _ c.requires (record { ends = refl; room = omega (arith, c.requires); whole = e })
