-- What code writes on the receipt is the call of the window; no place on it is past the longest strip.
use mathlib.Core.Path.{◌≡◌, refl, ap, ◌∙◌}
use mathlib.Core.Bool.{Bool, true, false}
use mathlib.Core.List.{List, [], ◌∷◌}
use Prim.Native.Nat.{ℕ, ◌<◌, ◌≤◌}
use native.Mathlib.Omega.{arith}
use borrow.Author.Tests.{lt-ltb, le-ltb}
use lib.Dec.{ltb}
use lib.IntN.{ℤ, pos}
use lib.ListN.{length, replicate}
use lib.Seq.{sets-eq}
use Rattle.literal.specs.Literal.{max_variables, max_table}
use Rattle.receipt.specs.declared.Fault.TheVariants.{PlanShort, TrailShort, ReceiptShort}
use Rattle.std.specs.Prelude.{Result, Err, Ok}
use Rattle.receipt.specs.declared.Searched.{Searched}
use Rattle.receipt.specs.declared.Read.{Read}
use Rattle.receipt.specs.declared.Refusal.{Refusal}
use Rattle.receipt.specs.declared.Receipt.{Receipt}
use Rattle.receipt.specs.Receipt.{number_of}
use Rattle.receipt.specs.Answers.{searching_receipt}
use Rattle.theory.specs.Refusing.{refused_if, first_refusal, unless}
use Rattle.theory.specs.Search as theory
use Rattle.theory.specs.Table.{Accepted}
use Rattle.theory.specs.Calls.{over, SearchCall, searched_call, search_refused, search_call, solve_read, solve_call, receipt_length, receipt_bytes, written, window_call}
use Rattle.theory.specs.Strip.{max_strip, read_strip}
use Rattle.strip.proofs.Ends.{refusal_bound}
use Rattle.strip.proofs.Accepted.{read_accepted}
use Rattle.search.specs.Call as search
use Rattle.window.specs.Window.{put4, called}

-- four numbers one after the other
pub four_numbers : (r : Receipt) (l a b c d : List ℕ) → receipt_length ≤ length l → a ≡ put4 0 r.number l → b ≡ put4 4 r.place a → c ≡ put4 8 r.count b →
    d ≡ put4 12 r.clause.0 c → d ≡ over receipt_length (receipt_bytes r) l
four_numbers r l a b c d h p q e f = rw (f, e, q, p) (sets-eq (receipt_bytes r) l 0 h)

-- places ------------------------------------------------------------------------------------------------------------

module _ (s : List ℕ) (b : ℕ) (plan : List ℕ) (trail : List ℤ) where
  abbrev InStrip : SearchCall → Type 0
  InStrip c = (searching_receipt c.answer).place ≤ max_strip

  -- a table that passes is refused, if at all, at place 0
  passed_place : (n : ℕ) (t : List ℤ) → Accepted n t → InStrip (search_call n t b plan trail)
  unfolding search_call
  passed_place n t a = rw a (go (ltb (length plan) n) (ltb (length trail) n))
    where
      go : (p q : Bool) → InStrip (unless (first_refusal (refused_if p PlanShort ∷ refused_if q TrailShort ∷ [])) (λ r. search_refused r plan trail) (searched_call n (theory.search n t b) plan trail))
      go true q = omega arith
      go false true = omega arith
      go false false = omega arith

  solve_place : InStrip (solve_call s b plan trail)
  unfolding solve_call
  solve_place = go (read_strip s max_table).reading refl
    where
      go : (r : Result Read Refusal) → (read_strip s max_table).reading ≡ r → InStrip (solve_read r (read_strip s max_table).table b plan trail)
      go (Err f) e = refusal_bound s max_table f e
      go (Ok d) e = passed_place d.variables (read_strip s max_table).table (read_accepted s max_table d.variables d.used e)

  pub answer_place : (a : Result Searched Refusal) (plan' : List ℕ) (trail' : List ℤ) → search.called a plan' trail' ≡ solve_call s b plan trail → (searching_receipt a).place ≤ max_strip
  answer_place a plan' trail' is = rw (ap (λ (c : SearchCall). c.answer) is) solve_place

-- the whole call ----------------------------------------------------------------------------------------------------

module _ (s : List ℕ) (b : ℕ) (plan old : List ℕ) where
  pub call_short : length old < receipt_length → called (number_of ReceiptShort) plan old ≡ window_call s b plan old
  unfolding window_call
  call_short h = rw (lt-ltb (length old) receipt_length h)

  module _ (a : Result Searched Refusal) (plan' : List ℕ) (trail' : List ℤ) (is : search.called a plan' trail' ≡ solve_call s b plan (replicate max_variables (pos 0))) where
    pub call_written : (new : List ℕ) → receipt_length ≤ length old → new ≡ over receipt_length (receipt_bytes (searching_receipt a)) old →
        called (searching_receipt a).number plan' new ≡ window_call s b plan old
    unfolding window_call
    call_written new h w = ap (called (searching_receipt a).number plan') w ∙ ap (λ (c : SearchCall). written c old) is ∙ rw (le-ltb (length old) receipt_length h)
