-- By the laws of Noting, at the elements from 1 to n.
use Rattle.std.proofs.Common.{◌≡◌, sym, ◌∙◌, Bool, true, false, ◌<◌, ◌≤◌, zero-le, ℕ, ◌+◌, ◌-◌, ℤ, List, length, get_or, take, drop, get_or-take, get_or-drop, length-take, length-drop, MatchBool, rules, arith}
use Rattle.std.specs.List.{AllWithin, HoldsAt}
use borrow.Author.Tests.{tests}
use Rattle.std.proofs.lemmas.Iterator.{cases_from_all, YieldsList-from_slice}
use Rattle.literal.specs.Literal.{max_variables}
use Rattle.theory.specs.Mentions.{mentions_all}
use Rattle.mentions.specs.Noted.{Noted}
use Rattle.mentions.proofs.Noting.{seen_all, not_seen}
use Rattle.mentions.proofs.all_noted.Goals as goal

abbrev part : List Bool → ℕ → List Bool
part l n = take n (drop 1 l)

abbrev Answered : Bool → List Bool → Type 0
Answered r p = MatchBool r (AllWithin (λ b. b ≡ true) p 0 (length p)) ((k : ℕ) × (k < length p) × HoldsAt (λ b. b ≡ false) p k)

module _ (l : List Bool) (n : ℕ) (few : n ≤ max_variables) (t : List ℤ) (w : Noted l t) where
  part_length : length (part l n) ≡ n
  part_length = omega (arith, length-take n (drop 1 l), length-drop 1 l, w.long)

  part_at : (k : ℕ) → k < n → get_or (part l n) k false ≡ get_or l (k + 1) false
  part_at k h = let e : 1 + k ≡ k + 1 = omega arith in rw (get_or-take n (drop 1 l) k false h, get_or-drop 1 l k false, e)

  answered : (r : Bool) → Answered r (part l n) → r ≡ mentions_all n t
  answered true h = seen_all l n few t w (λ k b. sym (part_at k b) ∙ h k false zero-le (rw part_length b))
  answered false h = let b = rw part_length at h.1 in not_seen l n few t w h.0 b (sym (part_at h.0 b) ∙ h.2 false)

pub returns : goal.returns
returns c t w =
    let a = c.args in
    let e : a.n + 1 - 1 ≡ a.n = omega arith in
    let yields = YieldsList-from_slice (part a.mentioned.now a.n) (rw e at c.iter.ensures.rest) in
    answered a.mentioned.now a.n c.requires t w c.all.result
    (cases_from_all _ _ _ (λ x. x ≡ true) (λ x. x ≡ false) c.all.ensures.ran yields (λ x q k. search (rules, tests)) (λ x q k. search (rules, tests)))
