-- By the laws of Reached.
use Rattle.std.proofs.Common.{rules, arith, ◌≡◌, Bool, List, ℕ, ◌<◌, ◌-◌, ℤ, pos, nat_abs, length, ap, sym, ◌∙◌}
use borrow.Author.Tests.{lt-ltb}
use lib.ListN.{length-replicate}
use mir.Syntax.{w16}
use mir.ValLaws.{to_z-of_z}
use Rattle.std.specs.Prelude.{Ok, Err}
use Rattle.literal.specs.Literal.{max_table}
use Rattle.theory.specs.declared.Command.{Command}
use Rattle.theory.specs.declared.Progress.{Progress}
use Rattle.theory.specs.Strip.{command_at, read_by}
use Rattle.strip.proofs.Reached.{Reached, begun, ended, no_command, Commanded, further, not_obeyed, kept, no_room, has_cell, stored}
use Rattle.strip.proofs.decode.Goals as goal

-- a command
commanded : {s : List ℕ} {room at used : ℕ} {p : Progress} {cells : List ℤ} {mentioned : List Bool} (k : Command) → Reached s room at used p cells mentioned →
    at < length s → Ok k ≡ command_at s at p.turn → Commanded s room at used p cells mentioned k.mark k.operand k.next
commanded k r i e = record { reached = r; inside = i; command = e }

less : {s : List ℕ} {room at used : ℕ} {p : Progress} {cells : List ℤ} {mentioned : List Bool} (k : Command) →
    Commanded s room at used p cells mentioned k.mark k.operand k.next → length s - k.next < length s - at
less k c = omega (arith, further c, c.inside)

pub returns-then-strip-gt-MAX_STRIP : goal.returns-then-strip-gt-MAX_STRIP
unfolding read_by
returns-then-strip-gt-MAX_STRIP c = rw (c.new.ensures, lt-ltb _ _ c.if-strip-gt-MAX_STRIP.true)

pub loop-at-init : goal.loop-at-init
loop-at-init c = begun _ _ c.if-strip-gt-MAX_STRIP.false _ (length-replicate max_table (pos 0))

-- a refusal in place of a command
pub returns-in_err-command : goal.returns-in_err-command
returns-in_err-command c =
    let e : c.from_residual.result ≡ Err c.in_err-command.field-0.0 = search rules in
    rw e (no_command c.loop-at.invariant c.loop-at-test.true c.in_err-command.field-0.0 (sym c.in_err-command.was ∙ c.command_from.ensures))

-- a command that is not obeyed
pub returns-in-Err : goal.returns-in-Err
returns-in-Err c =
    let k = commanded c.in_ok-command.command c.loop-at.invariant c.loop-at-test.true c.in_ok-command.ensures in
    rw c.new-in-Err.ensures (not_obeyed k _ (c.in-Err.ensures _ k.reached.noted))

-- or that is, and stores nothing
pub loop-at-smaller-in_default : goal.loop-at-smaller-in_default
loop-at-smaller-in_default c = less c.in_ok-command.command (commanded c.in_ok-command.command c.loop-at.invariant c.loop-at-test.true c.in_ok-command.ensures)

pub loop-at-preserved-in_default : goal.loop-at-preserved-in_default
loop-at-preserved-in_default c =
    let k = commanded c.in_ok-command.command c.loop-at.invariant c.loop-at-test.true c.in_ok-command.ensures in
    kept k (rw c.in_default.is at (c.in-Ok.ensures _ k.reached.noted))

-- or an element
pub returns-then-room-used : goal.returns-then-room-used
returns-then-room-used c =
    let k = commanded c.in_ok-command.command c.loop-at.invariant c.loop-at-test.true c.in_ok-command.ensures in
    rw c.new-then-room-used.ensures (no_room k (rw c.in-Some.is at (c.in-Ok.ensures _ k.reached.noted)) c.if-room-used.true)

pub bounds-cells-used : goal.bounds-cells-used
bounds-cells-used c =
    let k = commanded c.in_ok-command.command c.loop-at.invariant c.loop-at-test.true c.in_ok-command.ensures in
    has_cell k (rw c.in-Some.is at (c.in-Ok.ensures _ k.reached.noted))

pub loop-at-smaller : goal.loop-at-smaller
loop-at-smaller c = less c.in_ok-command.command (commanded c.in_ok-command.command c.loop-at.invariant c.loop-at-test.true c.in_ok-command.ensures)

pub loop-at-preserved : goal.loop-at-preserved
loop-at-preserved c =
    let k = commanded c.in_ok-command.command c.loop-at.invariant c.loop-at-test.true c.in_ok-command.ensures in
    let fits = to_z-of_z w16 c.in-Some.element (record { sfits = search rules }) in
    rw fits (stored k (rw c.in-Some.is at (c.in-Ok.ensures _ k.reached.noted)) c.if-room-used.false _ (c.note.ensures _ _ (sym (c.size.ensures ∙ ap nat_abs fits)) k.reached.noted))

-- the end of the strip
pub returns-in_err-read : goal.returns-in_err-read
returns-in_err-read c =
    let e : c.from_residual-in_err-read.result ≡ Err c.in_err-read.field-0.0 = search rules in
    rw e (ended c.loop-at.invariant c.loop-at-test.false (Err c.in_err-read.field-0.0) (sym c.in_err-read.was ∙ c.ending.ensures))

pub returns : goal.returns
returns c = ended c.loop-at.invariant c.loop-at-test.false (Ok c.in_ok-read.read) (sym c.in_ok-read.was ∙ c.ending.ensures)
