-- `signs`: by the laws of Signing.
use Rattle.occurrences.proofs.Slices.{literal_known}
use Rattle.undouble.proofs.Signing.{signing_begins, signing_goes, signing_ends}
use Rattle.undouble.proofs.signs.Goals as goal

pub loop-code-init : goal.loop-code-init
loop-code-init c = signing_begins c.requires c.args.state.now c.literals_of-code-items.ensures

pub value_of_code-v-requires : goal.value_of_code-v-requires
value_of_code-v-requires c =
    literal_known c.requires.index c.args.g c.requires.clause _ c.literals_of-code-items.ensures c.loop-code.code-index c.loop-code-test.true

pub loop-code-preserved : goal.loop-code-preserved
loop-code-preserved c =
    signing_goes c.requires c.args.state.now c.literals_of-code-items.ensures c.loop-code.invariant c.loop-code-test.true c.value_of_code-v.result c.value_of_code-v.ensures

pub returns-clause-plus_value : goal.returns-clause-plus_value
returns-clause-plus_value c = (signing_ends c.requires c.args.state.now c.literals_of-code-items.ensures c.loop-code.invariant c.loop-code-test.false).0

pub returns-clause-minus_value : goal.returns-clause-minus_value
returns-clause-minus_value c = (signing_ends c.requires c.args.state.now c.literals_of-code-items.ensures c.loop-code.invariant c.loop-code-test.false).1
