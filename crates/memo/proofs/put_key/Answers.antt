-- `put_key`: the key is written word by word.
use Rattle.std.proofs.Common.{rules, ◌≡◌, length, ◌∙◌, ap}
use Rattle.theory.specs.Memo.{word}
use Rattle.memo.specs.Memory.{slot_room}
use Rattle.memo.proofs.Keys.{writing_begun, writing_goes, writing_ends}
use Rattle.memo.proofs.put_key.Goals as goal

pub loop-j-init : goal.loop-j-init
loop-j-init c =
    let long : length c.args.slots.now ≡ slot_room = search rules in
    writing_begun _ long c.requires _

pub loop-j-preserved : goal.loop-j-preserved
loop-j-preserved c =
    let long : length c.args.slots.now ≡ slot_room = search rules in
    writing_goes _ long c.requires _ _ c.loop-j.j _ c.loop-j.invariant c.loop-j-test.true (c.word.ensures ∙ ap (word c.args.p) c.value_of.ensures)

pub returns : goal.returns
returns c =
    let long : length c.args.slots.now ≡ slot_room = search rules in
    writing_ends _ long c.requires _ _ _ c.loop-j.invariant c.loop-j-test.false
