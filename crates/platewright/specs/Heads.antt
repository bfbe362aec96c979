-- A lent list of heads as C lends it: a list of starts, and one of numbers of entries.
use Rattle.std.specs.Prelude.{List, [], ◌∷◌, map, ℕ, length}
use Rattle.receipt.specs.declared.Head.{Head}
use Rattle.receipt.specs.Answers.{indexing_receipt}
use Rattle.theory.specs.Calls.{over, IndexCall}
use Rattle.theory.specs.Heads.{head}
use Rattle.platewright.specs.declared.Answer.{Answer}
use Rattle.platewright.specs.Answer.{plain}

abbrev pub start_of : Head → ℕ
start_of h = h.start

abbrev pub entries_of : Head → ℕ
entries_of h = h.entries

-- as many heads as the shorter list has room for
unfoldable pub paired : List ℕ → List ℕ → List Head
paired [] es = []
paired (s ∷ ss) [] = []
paired (s ∷ ss) (e ∷ es) = head s e ∷ paired ss es

abbrev pub indexed : IndexCall → List ℕ → List ℕ → Answer × (List ℕ × List ℕ)
indexed c ss es =
    let k = length c.heads in
    (plain (indexing_receipt c.answer), (over k (map start_of c.heads) ss, over k (map entries_of c.heads) es))
