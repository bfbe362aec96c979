-- Number, place, count and group, one after the other.
use Rattle.window.proofs.Calling.{four_numbers}
use Rattle.window.proofs.write_receipt.Goals as goal

pub returns : goal.returns
returns c =
    four_numbers c.args.receipt c.args.list.now c.put_number.new.list c.put_number-2.new.list c.put_number-3.new.list c.put_number-4.new.list
    c.requires.receipt_length_in_bounds c.put_number.ensures c.put_number-2.ensures c.put_number-3.ensures c.put_number-4.ensures
