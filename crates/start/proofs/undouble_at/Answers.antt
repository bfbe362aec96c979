-- A variable that doesn't repeat stands at most once, one that was decided nowhere, and one that occurs twice the same becomes decided.
use Rattle.std.proofs.Common.{◌≡◌, ◌*◌, ◌+◌, ◌%◌, ap, arith}
use Rattle.start.proofs.Undoubling.{closed_doubles, written_doubles, doubled_decidable, doubled_decided}
use Rattle.start.proofs.undouble_at.Goals as goal

pub returns-then-not-repeats : goal.returns-then-not-repeats
returns-then-not-repeats c = written_doubles c.requires.undoubling c.args.r c.requires.r_nonzero (c.repeats.ensures c.if-not-repeats.true)

pub returns-then-value_of-r : goal.returns-then-value_of-r
returns-then-value_of-r c = closed_doubles c.requires.undoubling c.args.r c.requires.r_le_max_variables (λ e. c.if-value_of-r.true (omega (arith, c.value_of.ensures)))

pub decide-requires : goal.decide-requires
decide-requires c =
    let q = c.requires in
    let d = c.in-Some.ensures in
    doubled_decidable q.undoubling c.args.r q.r_nonzero q.r_le_max_variables (omega (arith, c.value_of.ensures, c.if-value_of-r.false)) d.0 d.1 _
    (omega (arith, d.2))

pub returns-in-Some : goal.returns-in-Some
returns-in-Some c =
    let q = c.requires in
    let d = c.in-Some.ensures in
    doubled_decided q.undoubling c.args.r q.r_nonzero q.r_le_max_variables (omega (arith, c.value_of.ensures, c.if-value_of-r.false)) d.0 d.1 _
    (omega (arith, d.2)) _ _ _ c.decide.ensures
