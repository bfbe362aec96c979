-- What is made at each index.
use Rattle.std.proofs.Common.{rules, ◌≡◌, ◌<◌, ◌*◌, ℕ, arith, get_or}
use Rattle.literal.specs.Literal.{variables}
use Rattle.start.proofs.open_all.Goals as goal
use Rattle.start.proofs.open_all.Goals.{After-from_fn-2}

values : (c : After-from_fn-2) (p : ℕ) → p < variables → get_or c.from_fn.result p 0 ≡ 2 * p
values c p h = let w = c.from_fn.ensures.items.at p 0 (omega arith) in let k = w.2 in search rules

links : (c : After-from_fn-2) (p : ℕ) → p < variables → get_or c.from_fn-2.result p 0 ≡ p
links c p h = let w = c.from_fn-2.ensures.items.at p 0 (omega arith) in let k = w.2 in search rules

pub returns : goal.returns
returns c = record {
  long_values = search rules;
  long_links = search rules;
  long_counts = search rules;
  values = values (goal.at.returns c).After-from_fn-2;
  links = links (goal.at.returns c).After-from_fn-2;
}
