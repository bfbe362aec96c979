-- `decide`: by the laws of Deciding.
use Rattle.std.proofs.Common.{rules, ◌≡◌, eqb, get_or, ◌∙◌}
use Rattle.std.specs.Prelude.{Ok, Err}
use Rattle.general.specs.Booleans.{bit}
use Rattle.decide.specs.Members.{Membered}
use Rattle.decide.proofs.Deciding.{turning_begins, inside, asks, turning_dead, turning_falls, turning_goes, turning_ends}
use Rattle.decide.proofs.decide.Goals as goal
use Rattle.decide.proofs.decide.Goals.{After-becomes-to, In_ok-end}

-- what the member becomes
told : (c : After-becomes-to) → c.becomes-to.result ≡ bit (eqb (get_or c.loop-end.state.values c.loop-end.p 0) c.args.x)
told c = c.becomes-to.ensures ∙ rw c.value_of.ensures

taken : (c : In_ok-end) → Membered c.args.index.now c.loop-end.state c.loop-end.work c.loop-end.end c.loop-end.p c.becomes-to.result c.member.new.state c.member.new.work (Ok c.in_ok-end.end)
taken c = rw c.in_ok-end.was at c.member.ensures

pub loop-end-init : goal.loop-end-init
loop-end-init c = turning_begins c.requires

pub value_of-requires : goal.value_of-requires
value_of-requires c = inside c.loop-end.invariant

pub member-requires : goal.member-requires
member-requires c = asks c.loop-end.invariant c.becomes-to.result (told (goal.at.member-requires c).After-becomes-to)

pub returns-in_err-end : goal.returns-in_err-end
returns-in_err-end c =
    let e : c.from_residual.result ≡ Err c.in_err-end.field-0.0 = search rules in
    let d = rw c.in_err-end.was at c.member.ensures in
    rw e (turning_dead c.loop-end.invariant c.becomes-to.result (told (goal.at.returns-in_err-end c).After-becomes-to) _ d.0 d.1)

pub link_of-p-requires : goal.link_of-p-requires
link_of-p-requires c = inside c.loop-end.invariant

pub returns-then-p-root : goal.returns-then-p-root
returns-then-p-root c =
    let a = goal.at.returns-then-p-root c in
    let t = taken a.In_ok-end in
    turning_ends c.loop-end.invariant c.becomes-to.result (told a.After-becomes-to) _ t.0 t.1 c.link_of-p.result c.link_of-p.ensures c.if-p-root.true

pub loop-end-smaller : goal.loop-end-smaller
loop-end-smaller c =
    let a = goal.at.loop-end-smaller c in
    turning_falls c.loop-end.invariant c.becomes-to.result (told a.After-becomes-to) _ (taken a.In_ok-end).0

pub loop-end-preserved : goal.loop-end-preserved
loop-end-preserved c =
    let a = goal.at.loop-end-preserved c in
    let t = taken a.In_ok-end in
    turning_goes c.loop-end.invariant c.becomes-to.result (told a.After-becomes-to) _ t.0 t.1 c.link_of-p.result c.link_of-p.ensures c.if-p-root.false
