-- By the laws of a list in Words.
use Rattle.std.proofs.Common.{arith}
use Rattle.text.proofs.Words.{list_begun, list_turned, list_within, list_ended}
use Rattle.text.proofs.put_words.Goals as goal

pub loop-number-init : goal.loop-number-init
loop-number-init g c = list_begun g.T.Word.word g.T.Word.most _ _ _ (omega arith)

pub put-next-requires : goal.put-next-requires
put-next-requires g c = omega (arith, list_within g.T.Word.word g.T.Word.most _ _ _ c.loop-number.invariant)

pub loop-number-preserved : goal.loop-number-preserved
loop-number-preserved g c =
    list_turned g.T.Word.word g.T.Word.most _ _ _ c.loop-number.invariant c.number-item.result c.loop-number-test.true c.put-next.auto.out c.put-next.ensures.upper_bound
    (rw c.number-item.is at c.put-next.ensures.appended)

pub returns : goal.returns
returns g c = record {
  appended = list_ended g.T.Word.word g.T.Word.most _ _ _ c.loop-number.invariant c.loop-number-test.false;
  upper_bound = list_within g.T.Word.word g.T.Word.most _ _ _ c.loop-number.invariant;
}
