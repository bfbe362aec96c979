-- The opening where there is one, then the element.
use Rattle.std.proofs.Common.{arith, ◌≡◌, ◌∷◌, [], ◌+◌, ◌≤◌, length, length-append, true, sym, ◌∙◌}
use Rattle.general.specs.Appending.{append_both, appended_length}
use Rattle.literal.specs.Literal.{is_open}
use Rattle.theory.proofs.Encodings.{entry_length}
use Rattle.save.specs.Save.{opening_bytes, element_bytes}
use Rattle.save.proofs.put_element.Goals as goal

pub put_entry-requires : goal.put_entry-requires
put_entry-requires c =
    let a = c.args in
    let o = c.put_opening-opened in
    let entry : is_open a.literal ≡ true = sym c.is_open.ensures ∙ c.if-is_open.true in
    let room : o.result + length (element_bytes a.literal) ≤ length o.new.strip =
    omega (arith, c.requires, length-append (opening_bytes a.inside) (element_bytes a.literal), o.ensures.ends, appended_length o.ensures) in
    let r = rw entry at room in
    omega (arith, r, entry_length (a.literal ∷ []))

pub returns-then-is_open : goal.returns-then-is_open
returns-then-is_open c = rw (sym c.is_open.ensures ∙ c.if-is_open.true) (append_both c.put_opening-opened.ensures c.put_entry.ensures)

pub returns : goal.returns
returns c = rw (sym c.is_open.ensures ∙ c.if-is_open.false) (append_both c.put_opening-opened.ensures c.put_mark.ensures)
