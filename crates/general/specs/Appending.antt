-- Appending to what stands at the start of a list: nothing, one element, and one list after another.
use Rattle.std.specs.Prelude.{◌≡◌, refl, List, [], ◌∷◌, ◌++◌, ℕ, ◌+◌, ◌-◌, ◌≤◌, ◌<◌, length, take, drop, set}
use Rattle.std.proofs.Common.{ap, sym, ◌∙◌, append_assoc, add-one, arith, length-append, length-drop, take-append-drop, length-take-le, take_at, drop_at, drop-drop}
use Rattle.std.proofs.Math.Seq.{drop-append-add}
use Rattle.std.proofs.lemmas.List.{set_split}

module _ {A : Type 0} where
  -- after the first `at` elements stands `new`, which ends at index `next`; all others are as they were
  pub record Appended (old : List A) (at : ℕ) (new list : List A) (next : ℕ) : Type 0 where
    pub ends : next ≡ at + length new
    pub room : next ≤ length old
    pub whole : list ≡ take at old ++ (new ++ drop next old)

  pub append_nothing : (l : List A) (at : ℕ) → at ≤ length l → Appended l at [] l at
  append_nothing l at h = record { ends = omega arith; room = h; whole = sym (take-append-drop at l) }

  pub append_one : (l : List A) (at : ℕ) (x : A) → at < length l → Appended l at (x ∷ []) (set l at x) (at + 1)
  append_one l at x h = record { ends = refl; room = omega arith; whole = rw (add-one, set_split l at x h) }

  -- what was appended, with what stood before it
  abbrev head : List A → ℕ → List A → List A
  head old at new = take at old ++ new

  module _ {old list new : List A} {at next : ℕ} (a : Appended old at new list next) where
    head_length : length (head old at new) ≡ next
    head_length = length-append (take at old) new ∙ rw (length-take-le at old (omega (arith, a.ends, a.room))) (sym a.ends)

    list_is : list ≡ head old at new ++ drop next old
    list_is = a.whole ∙ sym (append_assoc (take at old) new (drop next old))

    pub appended_length : length list ≡ length old
    appended_length = rw list_is (omega (arith, length-append (head old at new) (drop next old), head_length, length-drop next old, a.room))

    past_next : (n : ℕ) → drop (next + n) list ≡ drop (next + n) old
    past_next n =
        ap (λ m. drop (m + n) list) (sym head_length)
        ∙ ap (drop (length (head old at new) + n)) list_is
        ∙ drop-append-add (head old at new) (drop next old) n
        ∙ drop-drop n next old

    -- what stands from `next` on is as it was
    pub appended_past : (m : ℕ) → next ≤ m → drop m list ≡ drop m old
    appended_past m h = let e : next + (m - next) ≡ m = omega arith in rw e at (past_next (m - next))

    -- what stands before `at` is as it was, and from there on stands what was appended
    before_long : length (take at old) ≡ at
    before_long = length-take-le at old (omega (arith, a.ends, a.room))

    pub appended_before : take at list ≡ take at old
    appended_before = rw a.whole (take_at (take at old) (new ++ drop next old) at before_long)

    pub appended_new : take (length new) (drop at list) ≡ new
    appended_new = rw (a.whole, drop_at (take at old) (new ++ drop next old) at before_long) (take_at new (drop next old) (length new) refl)

    -- what stands up to `next`
    pub take_next : take next list ≡ head old at new
    take_next = rw list_is (take_at (head old at new) (drop next old) next head_length)

  pub append_both : {l₀ l₁ l₂ a b : List A} {at p q : ℕ} → Appended l₀ at a l₁ p → Appended l₁ p b l₂ q → Appended l₀ at (a ++ b) l₂ q
  append_both {l₀} {l₁} {l₂} {a} {b} {at} {p} {q} f s = record {
    ends = omega (arith, f.ends, s.ends, length-append a b);
    room = omega (arith, s.room, appended_length f);
    whole = s.whole ∙ rw (take_next f, dropped) (append_assoc (take at l₀) a (b ++ drop q l₀) ∙ ap (◌++◌ (take at l₀)) (sym (append_assoc a b (drop q l₀))));
  }
    where
      dropped : drop q l₁ ≡ drop q l₀
      dropped = rw s.ends (past_next f (length b))
