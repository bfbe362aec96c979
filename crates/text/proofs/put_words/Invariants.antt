use Rattle.text.proofs.Words.{Listing}
use Rattle.text.proofs.put_words.Given as goal

abbrev pub invariant-loop-number : goal.invariant-loop-number
invariant-loop-number g l = Listing g.T.Word.word g.T.Word.most l.fn.numbers l.fn.out l.at l.out l.next l.number-index
