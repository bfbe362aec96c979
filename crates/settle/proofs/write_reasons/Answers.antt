-- Element by element.
use Rattle.std.proofs.Common.{◌≡◌, ◌+◌, ◌-◌, ◌<◌, ◌≤◌, ◌++◌, ℕ, List, arith, ap, sym, ◌∙◌, take, drop, length}
use Rattle.std.proofs.lemmas.List.{same_lists, length-take-le, get_or-take, get_or-drop, get_or_default}
use lib.ListN.{length-drop, get_or}
use Rattle.general.specs.Lists.{up_to, length_from, get_or_from}
use Rattle.propagate.specs.Code.{reasons_of}
use Rattle.settle.proofs.write_reasons.Goals as goal

module _ (m : List ℕ) (n : ℕ) (h : n + 1 ≤ length m) where
  long : length (take n (drop 1 m)) ≡ n
  long = length-take-le n (drop 1 m) (omega (arith, length-drop 1 m))

  each : (k d : ℕ) → k < n → get_or (take n (drop 1 m)) k d ≡ get_or (up_to (reasons_of m) n) k d
  each k d h' = get_or-take n (drop 1 m) k d h' ∙ get_or-drop 1 m k d ∙ get_or_default m (1 + k) d 0 (omega arith) ∙ sym (get_or_from (reasons_of m) 1 n k d h')

  -- the elements from 1 to n
  run : take (n + 1 - 1) (drop 1 m) ≡ up_to (reasons_of m) n
  run =
      let e : n + 1 - 1 ≡ n = omega arith in
      rw e (same_lists (take n (drop 1 m)) (up_to (reasons_of m) n) (long ∙ sym (length_from (reasons_of m) 1 n)) (λ k d b. each k d (omega (arith, long))))

pub returns : goal.returns
returns c = ap (λ s. s ++ drop c.args.n c.args.lent.now) (c.copy_from_slice.ensures.after ∙ run c.args.reasons.now c.args.n (omega arith))
