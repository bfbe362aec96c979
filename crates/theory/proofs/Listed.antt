-- What a listing for k rows answers and writes, where it isn't stopped, in terms of the list of all layouts.
use mathlib.Core.Path.{◌≡◌, ap, sym, ◌∙◌}
use mathlib.Core.Bool.{true}
use mathlib.Core.Logic.{◌↔◌}
use mathlib.Core.List.{List}
use Prim.Native.Nat.{ℕ, suc, ◌-◌, ◌<◌, min}
use native.Mathlib.Omega.{arith}
use borrow.Author.Tests.{ltb-true, lt-ltb}
use lib.IntN.{ℤ}
use lib.ListN.{length, take, length-take}
use lib.Seq.{take-take}
use Rattle.receipt.specs.declared.Outcome.TheVariants.{Stopped}
use Rattle.receipt.specs.Answers.{listing_receipt, says_more}
use Rattle.theory.specs.Calls.{list_answer}
use Rattle.theory.specs.Formula.{Choice, clauses}
use Rattle.theory.specs.Layouts.{layouts}
use Rattle.theory.specs.Listing.{list_tree, list, rows_of}
use Rattle.theory.specs.Table.{Accepted}
use Rattle.theory.specs.Tree.{choices_found, Limited, finish}
use Rattle.theory.proofs.Budget.{limited_finished}
use Rattle.theory.proofs.Listing.{list_layouts}
use Rattle.theory.proofs.Tree.{choices_length}

module _ (n : ℕ) (t : List ℤ) (accepted : Accepted n t) (k b : ℕ) (ends : ¬ ((list n t k b).outcome ≡ Stopped)) where
  abbrev all : List Choice
  all = layouts n (clauses t)

  abbrev r : Limited Choice
  r = list n t k b

  pub listed_finished : r ≡ finish (list_tree n t k)
  unfolding list
  listed_finished = limited_finished b (list_tree n t k) ends

  -- one layout past the rows is looked for
  found_is : choices_found r.found ≡ take (suc k) all
  found_is = ap (λ (x : Limited Choice). choices_found x.found) listed_finished ∙ list_layouts n t accepted k

  pub listed_length : length r.found ≡ min (suc k) (length all)
  listed_length = sym (choices_length r.found) ∙ ap length found_is ∙ length-take (suc k) all

  -- "all layouts in document 01's order, each once, up to k"; "Unused rows become 0."
  pub listed_rows : rows_of n k (choices_found r.found) ≡ rows_of n k all
  listed_rows =
      let e : k - length (take (suc k) all) ≡ k - length all = omega (arith, length-take (suc k) all) in
      rw (found_is, take-take k (suc k) all (omega arith), e)

  -- "place is the rows written": the smaller of k and the number of layouts
  pub listed_place : (listing_receipt (list_answer k r)).place ≡ min k (length all)
  listed_place = omega (arith, listed_length)

  -- "the answer says "more" when a further one exists and otherwise not"
  pub listed_more : (says_more (list_answer k r) ≡ true) ↔ (k < length all)
  listed_more = (λ m. omega (arith, listed_length, ltb-true k (length r.found) m), λ h. lt-ltb k (length r.found) (omega (arith, listed_length)))
