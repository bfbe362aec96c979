-- The word stands between two skips.
use Rattle.std.proofs.Common.{◌≡◌, ap, ◌∙◌, List, ℕ, arith}
use borrow.Author.Tests.{eq-eqb, ne_eqb}
use Rattle.std.proofs.lemmas.Result.{err_from_is_err_and}
use Rattle.scan.specs.Scan.{word_start, word_end, word_between, there, word_at}
use Rattle.scan.proofs.Words.{word_inside}
use Rattle.scan.proofs.word_at.Goals as goal

module _ (s : List ℕ) (at a e : ℕ) (p : a ≡ word_start s at) (q : e ≡ word_end s a) where
  between : word_between s a e ≡ word_at s at
  unfolding word_at
  between = rw (q, p)

pub returns-then-start-end : goal.returns-then-start-end
returns-then-start-end c =
    let a = c.args in
    rw (eq-eqb c.skip-start.result c.skip-end.result c.if-start-end.true) at (between a.text.now a.at _ _ c.skip-start.ensures c.skip-end.ensures)

pub slice_bounds-word_of-end : goal.slice_bounds-word_of-end
slice_bounds-word_of-end c =
    omega (arith, (word_inside c.args.text.now c.skip-start.result c.skip-end.result c.skip-end.ensures c.if-start-end.false).1)

pub returns-in_err-word_of : goal.returns-in_err-word_of
returns-in_err-word_of c =
    let a = c.args in
    let p = err_from_is_err_and c.from_residual.result c.from_residual.ensures.1 in
    rw (p.1, p.2)
    (ap there c.in_err-word_of.ensures ∙ rw (ne_eqb c.skip-start.result c.skip-end.result c.if-start-end.false) at (between a.text.now a.at _ _ c.skip-start.ensures c.skip-end.ensures))

pub returns : goal.returns
returns c =
    let a = c.args in
    ap there c.in_ok-word_of.ensures ∙ rw (ne_eqb c.skip-start.result c.skip-end.result c.if-start-end.false) at (between a.text.now a.at _ _ c.skip-start.ensures c.skip-end.ensures)
