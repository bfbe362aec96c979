-- By the laws of Noting.
use Rattle.std.proofs.Common.{◌≡◌, nat_abs, arith}
use Rattle.mentions.proofs.Noting.{noted_next, noted_past}
use Rattle.mentions.proofs.note.Goals as goal

pub returns-then-p-lt-VARIABLES : goal.returns-then-p-lt-VARIABLES
returns-then-p-lt-VARIABLES c t e q w =
    let p : nat_abs e ≡ c.from-p.result = cc in
    rw (← p) (noted_next _ t e w (omega (arith, c.if-p-lt-VARIABLES.true)))

pub returns-else-p-lt-VARIABLES : goal.returns-else-p-lt-VARIABLES
returns-else-p-lt-VARIABLES c t e q w =
    let p : nat_abs e ≡ c.from-p.result = cc in
    noted_past _ t e w (omega (arith, c.if-p-lt-VARIABLES.false))
