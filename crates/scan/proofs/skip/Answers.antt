-- As many bytes as the test passes.
use Rattle.std.proofs.Common.{◌≡◌, ap, sym, ◌∙◌, refl, Bool, true, false, not, cond, List, [], ℕ, ◌+◌, length, drop, drop_of_length-le, Option, Some, None, unwrap_or, ⊎_elim, arith, rules}
use mathlib.Core.Bool.{beq}
use denote.Ref.{Bor}
use borrow.Author.Tests.{tests}
use Rattle.std.specs.List.{PartBy}
use Rattle.std.proofs.lemmas.Slice.{between_to_end}
use Rattle.std.proofs.lemmas.Iterator.{YieldsList-from_slice}
use Rattle.std.proofs.lemmas.Iterator.Consumers.{count_from_yields_List}
use Rattle.std.proofs.lemmas.Iterator.Search.{YieldsList-from_take_while}
use Rattle.std.proofs.lemmas.List.Folds.{length-prefix_len}
use Rattle.scan.specs.Answers.{blank_is}
use Rattle.scan.proofs.Words.{leading_is}
use Rattle.scan.proofs.skip.Goals as goal

-- what is left of a text, nothing past its end
rest_is : (s : List ℕ) (at : ℕ) (o : Option (Bor (List ℕ))) (d r : Bor (List ℕ)) → PartBy (λ (x : Bor (List ℕ)). x.now) s at (length s) o → d.now ≡ [] → r ≡ unwrap_or o d →
    r.now ≡ drop at s
rest_is s at None d r h e q = ap (λ (x : Bor (List ℕ)). x.now) q ∙ e ∙ sym (drop_of_length-le s (⊎_elim (λ l. omega arith) (λ l. omega arith) h.0))
rest_is s at (Some x) d r h e q = ap (λ (x : Bor (List ℕ)). x.now) q ∙ h.0.2 ∙ between_to_end s at (length s) (omega arith)

test_is : (asked r : Bool) → beq r asked ≡ cond asked r (not r)
test_is true true = refl
test_is true false = refl
test_is false true = refl
test_is false false = refl

pub returns : goal.returns
returns c =
    let a = c.args in
    let test = blank_is a.blanks in
    let s = drop a.at a.text.now in
    let rest = rest_is a.text.now a.at c.get.result _ c.unwrap_or-rest.result c.get.ensures.lookup refl c.unwrap_or-rest.ensures in
    ap (λ n. a.at + n)
    (count_from_yields_List c.take_while.result c.count.result c.count.ensures.ran (YieldsList-from_take_while _ test (YieldsList-from_slice s (cc rest)) c.take_while.ensures.closure c.take_while.ensures.done (λ x b q k. search (rules, tests, test_is)))
    ∙ length-prefix_len test s ∙ sym (leading_is test s))
