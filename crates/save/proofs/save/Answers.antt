-- The refusals in their order, which change nothing, and there is room for the rest.
use Rattle.std.proofs.Common.{arith, rules, ◌≡◌, ℕ, List, ℤ, ap, sym, ◌∙◌, length}
use Rattle.std.specs.Prelude.{Err}
use Rattle.receipt.specs.declared.Fault.TheVariants.{StripShort}
use Rattle.receipt.specs.Receipt.{Checked}
use Rattle.theory.specs.Refusing.{at_most}
use Rattle.theory.specs.Table.{zeros, nonzeros, check, Accepted}
use Rattle.theory.specs.Encoding.{saved_strip}
use Rattle.theory.specs.Calls.{save_check, save_call}
use Rattle.theory.proofs.Encodings.{saved_length_lem}
use Rattle.theory.proofs.Refusing.{most_passes}
use Rattle.theory.proofs.Tables.{accepted_sizes, accepted_closed}
use Rattle.table.specs.declared.Pass.{Pass}
use Rattle.table.specs.Pass.{begin, after, verdict}
use Rattle.table.proofs.Passes.{verdict_check, clauses_exact, literals_exact}
use Rattle.save.proofs.Calling.{passed_save, call_saved}
use Rattle.save.proofs.save.Goals as goal
use Rattle.save.proofs.save.Goals.{In_ok-verdict, After-at_most}

-- the verdict on the state after the table is the check, and the state's counts are the table's where that passes
module _ (n : ℕ) (t : List ℤ) {b p : Pass} (h : b ≡ begin n) (i : p ≡ after b t) where
  gone : p ≡ after (begin n) t
  gone = rw h at i

  checked : {v : Checked} → v ≡ verdict p → check n t ≡ v
  checked e = sym (e ∙ ap verdict gone ∙ verdict_check n t)

  counted : Accepted n t → (p.clauses ≡ zeros t) × (p.literals ≡ nonzeros t)
  counted a = (ap (λ (s : Pass). s.clauses) gone ∙ clauses_exact n t a, ap (λ (s : Pass). s.literals) gone ∙ literals_exact n t a)

accepted : (c : In_ok-verdict) → Accepted c.args.n c.args.table.now
accepted c = checked _ _ c.begin.ensures c.after-pass.ensures c.verdict.ensures ∙ c.in_ok-verdict.was

-- the room that is asked for is that of the strip
room : (c : After-at_most) → Accepted c.args.n c.args.table.now → at_most (length (saved_strip c.args.n c.args.table.now)) (length c.args.strip.now) StripShort ≡ c.at_most.result
room c a =
    let k = counted _ _ c.begin.ensures c.after-pass.ensures a in
    let e : c.saved_length-length.result ≡ length (saved_strip c.args.n c.args.table.now) = omega (arith, c.saved_length-length.ensures, k.0, k.1, saved_length_lem _ _ a) in
    rw (← e) (sym c.at_most.ensures)

pub returns-in_err-verdict : goal.returns-in_err-verdict
unfolding save_call save_check
returns-in_err-verdict c =
    let e : c.from_residual.result ≡ Err c.in_err-verdict.field-0.0 = search rules in
    rw (e, checked _ _ c.begin.ensures c.after-pass.ensures c.verdict.ensures ∙ c.in_err-verdict.was)

pub mentions_all-requires : goal.mentions_all-requires
mentions_all-requires c = (accepted_sizes _ _ (accepted c)).variables

pub returns-then-not-mentions_all : goal.returns-then-not-mentions_all
unfolding save_call save_check
returns-then-not-mentions_all c =
    rw (c.new.ensures, accepted (goal.at.returns-then-not-mentions_all c).In_ok-verdict, sym c.if-not-mentions_all.ensures)

pub saved_length-length-requires-clause-clauses_le_max_clauses : goal.saved_length-length-requires-clause-clauses_le_max_clauses
saved_length-length-requires-clause-clauses_le_max_clauses c =
    let a = accepted (goal.at.saved_length-length-requires-clause-clauses_le_max_clauses c).In_ok-verdict in
    omega (arith, (counted _ _ c.begin.ensures c.after-pass.ensures a).0, (accepted_sizes _ _ a).clauses)

pub saved_length-length-requires-clause-literals_le_max_literals : goal.saved_length-length-requires-clause-literals_le_max_literals
saved_length-length-requires-clause-literals_le_max_literals c =
    let a = accepted (goal.at.saved_length-length-requires-clause-literals_le_max_literals c).In_ok-verdict in
    omega (arith, (counted _ _ c.begin.ensures c.after-pass.ensures a).1, (accepted_sizes _ _ a).literals)

pub returns-in_err-at_most : goal.returns-in_err-at_most
unfolding save_call
returns-in_err-at_most c =
    let at = goal.at.returns-in_err-at_most c in
    let a = accepted at.In_ok-verdict in
    let e : c.from_residual-in_err-at_most.result ≡ Err c.in_err-at_most.field-0.0 = search rules in
    rw (e, passed_save _ _ a (sym c.if-not-mentions_all.ensures), room at.After-at_most a ∙ c.in_err-at_most.was)

pub overflow_cast-n : goal.overflow_cast-n
overflow_cast-n c = record { fits = omega (arith, (accepted_sizes _ _ (accepted (goal.at.overflow_cast-n c).In_ok-verdict)).variables) }

pub put_strip-requires-clause-table_value : goal.put_strip-requires-clause-table_value
put_strip-requires-clause-table_value c = accepted_closed _ _ (accepted (goal.at.put_strip-requires-clause-table_value c).In_ok-verdict)

pub put_strip-requires-clause-table_in_bounds : goal.put_strip-requires-clause-table_in_bounds
put_strip-requires-clause-table_in_bounds c =
    let at = goal.at.put_strip-requires-clause-table_in_bounds c in
    (most_passes _ _ StripShort).0 (room at.After-at_most (accepted at.In_ok-verdict) ∙ c.in_ok-at_most.was)

pub returns : goal.returns
returns c =
    let at = goal.at.returns c in
    let a = accepted at.In_ok-verdict in
    call_saved _ _ _ (passed_save _ _ a (sym c.if-not-mentions_all.ensures)) (room at.After-at_most a ∙ c.in_ok-at_most.was) _ _ c.put_strip.ensures
