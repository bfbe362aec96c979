-- What code answers, and leaves in both lists, is the call of Preview.
use mathlib.Core.Path.{◌≡◌, refl, ap, sym, ◌∙◌}
use mathlib.Core.List.{List, ◌++◌}
use Prim.Native.Nat.{ℕ, ◌+◌, ◌≤◌}
use native.Mathlib.Decide.{dec_lt}
use native.Mathlib.Omega.{arith}
use borrow.Author.Tests.{lt-ltb, le-ltb}
use lib.IntN.{ℤ, pos as posℤ}
use lib.ListN.{length, take, drop, replicate, length-append, length-replicate}
use lib.Seq.{length-take-le, take-append-le, take_at}
use Rattle.std.specs.Prelude.{Ok, Err}
use Rattle.literal.specs.Literal.{max_table}
use Rattle.receipt.specs.declared.Refusal.{Refusal}
use Rattle.receipt.specs.Receipt.{Checked, pass}
use Rattle.settle.specs.Settle.{called}
use Rattle.theory.specs.Refusing.{unless}
use Rattle.theory.specs.Calls.{SettleCall, settle_refused, settle_call, added, check_group, check_added, add_call, with_room, settle_after, preview_call}
use Rattle.theory.specs.Table.{Accepted}
use Rattle.theory.proofs.Tables.{accepted_exactly}
use Rattle.add.specs.Addable.{Follows}
use Rattle.add.proofs.Growing.{with_zero, grown_limits, added_table}
use Rattle.add.proofs.Refusals.{checked_exactly, checked_alike, group_fits, room_enough}

module _ (u n : ℕ) (g b l : List ℤ) (m : List ℕ) where
  -- unless the checks refuse, Settle of the used part with the list and its 0
  abbrev pub previewed : Checked → SettleCall
  previewed k = unless k (λ r. settle_refused r l m) (settle_call n (take u b ++ with_zero g) l m)

  -- Settle after Add on any copy with the same used part and room for the list
  module _ (h : u ≤ length b) (c : List ℤ) (alike : take u c ≡ take u b) (room : u + length g + 1 ≤ length c) where
    by_checks : (k : Checked) → check_group u n g b ≡ k → settle_after (add_call u n g c).answer n (add_call u n g c).buffer l m ≡ previewed k
    unfolding add_call
    by_checks (Err r) e = rw (checked_alike u n g c b (omega arith) h alike, e)
    by_checks (Ok _) e =
        rw (checked_alike u n g c b (omega arith) h alike, e, le-ltb (length c) (u + length g + 1) room)
        (ap (λ t. settle_call n t l m) (added_table u g c room ∙ ap (λ t. t ++ with_zero g) alike))

    pub copy_settled : settle_after (add_call u n g c).answer n (add_call u n g c).buffer l m ≡ previewed (check_group u n g b)
    copy_settled = by_checks (check_group u n g b) refl

  -- such a copy is the definition's
  inside_checked : u ≤ length b → preview_call u n g b l m ≡ previewed (check_group u n g b)
  unfolding preview_call
  inside_checked h =
      let long = length-append b (replicate (length g + 1) (posℤ 0)) in
      rw (le-ltb (length b) u h) (copy_settled h (with_room g b) (take-append-le u b _ h) (omega (arith, long, length-replicate (length g + 1) (posℤ 0))))

  -- a preview goes by Add's checks, without the room
  pub preview_checked : preview_call u n g b l m ≡ previewed (check_group u n g b)
  unfolding preview_call check_group
  preview_checked = elim (dec_lt (length b) u) [
    | yes h ↦ rw (lt-ltb (length b) u h)
    | no h ↦ inside_checked (omega arith)
  ]

  -- what code refuses, by its checks
  pub call_refused : (r : Refusal) → check_added u n g b max_table ≡ Err r → called (Err r) l m ≡ preview_call u n g b l m
  call_refused r q = sym (preview_checked ∙ ap previewed (sym (room_enough u n g b) ∙ q))

-- where the checks pass, the copy with the list stored is a table within the limits
module _ (u n : ℕ) (g b : List ℤ) (passed : check_group u n g b ≡ pass) where
  pub used_inside : u ≤ length b
  used_inside = ((checked_exactly u n g b).0 passed).0

  follows : Follows n (take u b) g
  follows = ((checked_exactly u n g b).0 passed).1

  pub grown_accepted : Accepted n (take u b ++ with_zero g)
  grown_accepted = (accepted_exactly n (take u b ++ with_zero g)).1 (grown_limits follows)

  pub grown_table : (z c d : List ℤ) → length c ≡ max_table → c ≡ take u b ++ drop (0 + u) z → d ≡ added u g c → take (u + length g + 1) d ≡ take u b ++ with_zero g
  grown_table z c d long e i =
      ap (take (u + length g + 1)) i
      ∙ added_table u g c (omega (arith, long, group_fits u n g b passed))
      ∙ ap (λ t. t ++ with_zero g) (ap (take u) e ∙ take_at (take u b) (drop (0 + u) z) u (length-take-le u b used_inside))
