-- `undouble`: by the laws of Undoubling.
use Rattle.std.proofs.Common.{◌+◌, ◌*◌, arith}
use Rattle.std.specs.Prelude.{is_err}
use Rattle.undouble.proofs.Undoubling.{undoubled_narrow, undoubled_once, undouble_decidable, undoubled_decided, undoubled_cleared}
use Rattle.undouble.proofs.undouble.Goals as goal

pub returns-then-not-wide : goal.returns-then-not-wide
returns-then-not-wide c = undoubled_narrow c.requires c.count_of.result c.wide.result c.count_of.ensures c.wide.ensures c.if-not-wide.true

pub decide-requires : goal.decide-requires
decide-requires c = undouble_decidable c.requires (2 * c.args.r) (omega arith) (omega arith)

pub returns-then-found-gt1 : goal.returns-then-found-gt1
returns-then-found-gt1 c =
    undoubled_decided c.requires (2 * c.args.r) (omega arith) (omega arith) c.decide.new.state c.decide.new.work (is_err c.decide.result) c.decide.ensures

pub decide-requires-then-found-gt1-2 : goal.decide-requires-then-found-gt1-2
decide-requires-then-found-gt1-2 c = undouble_decidable c.requires (2 * c.args.r + 1) (omega arith) (omega arith)

pub returns-then-found-gt1-2 : goal.returns-then-found-gt1-2
returns-then-found-gt1-2 c =
    let d = c.decide-then-found-gt1-2 in undoubled_decided c.requires (2 * c.args.r + 1) (omega arith) (omega arith) d.new.state d.new.work (is_err d.result) d.ensures

pub returns-then-found-eq2 : goal.returns-then-found-eq2
returns-then-found-eq2 c =
    undoubled_cleared c.requires (omega arith) (omega arith) (omega arith) c.clear_others.new.state c.clear_others.new.work (is_err c.clear_others.result) c.clear_others.ensures

pub returns : goal.returns
returns c = undoubled_once c.requires (omega arith)
