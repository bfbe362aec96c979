-- What the memo says of a formula stays true, through marks and numbers and through a split.
use mathlib.Core.Path.{◌≡◌, refl, ap, ◌∙◌}
use Prim.Native.Nat.{ℕ, ◌<◌}
use native.Mathlib.Omega.{arith}
use Rattle.theory.specs.Formula.{Formula}
use Rattle.theory.specs.State.{State}
use Rattle.theory.specs.Memo.{key, Slot, Known, Kept}
use Rattle.theory.proofs.Memo.{learned_nothing, learned_put, kept_refl, kept_trans, kept_split}
use Rattle.memo.specs.declared.Memory.{Memory}
use Rattle.memo.specs.Memory.{slots_of, slot_count, Empty, Spared, Holding, Learning, Remembering, Remembered}
use Rattle.memo.proofs.Slots.{spared_changed, spared_slots}

pub empty_remembering : {n : ℕ} {m : Memory} (f : Formula) → Empty n m → Remembering n f m
empty_remembering {n} {m} f e = record { sized = e.sized; learned = learned_nothing (slots_of n m) e.nothing }

module _ {n : ℕ} {f : Formula} {m : Memory} (h : Remembering n f m) where
  pub remembered_refl : Remembered n f m m
  remembered_refl = record { remembering = h; count = refl; kept = kept_refl (slots_of n m) }

  pub remembered_spared : (m' : Memory) → Spared m m' → Remembered n f m m'
  remembered_spared m' o =
      let c = spared_changed h.sized o in
      let s = spared_slots h.sized o in
      record {
        remembering = record {
          sized = c.sized;
          learned = record { known = λ i l k. rw (s i) (h.learned.known i (rw (← c.count) l) (omega (arith, ap (λ (t : Slot). t.splits) (s i)))) };
        };
        count = c.count;
        kept = record { same = λ i l k. s i };
      }

pub remembered_trans : {n : ℕ} {f : Formula} {a b c : Memory} → Remembered n f a b → Remembered n f b c → Remembered n f a c
remembered_trans {n} {f} {a} {b} {c} x y = record {
  remembering = y.remembering;
  count = y.count ∙ x.count;
  kept = kept_trans x.kept (rw x.count at y.kept);
}

-- a slot is held for a split of state s on p while its second side is walked, from m₂ to m₃
module _ {n p : ℕ} {s : State} {f : Formula} {m m₁ m₂ : Memory} {j : ℕ} (x : Remembered n f m m₁) (h : Holding n p s m₁ m₂ j) where
  -- it says nothing yet
  pub holding_remembering : Remembering n f m₂
  holding_remembering = record {
    sized = h.taken.changed.sized;
    learned = rw h.taken.changed.count (learned_put (slots_of n m₂) j x.remembering.learned h.taken.others (λ (o : 0 < (slots_of n m₂ j).splits). absurd (omega (arith, h.taken.nothing))));
  }

  module _ {m₃ : Memory} (y : Remembered n f m₂ m₃) where
    kept_side : Kept (slot_count m) (slots_of n m₂) (slots_of n m₃)
    kept_side = rw (h.taken.changed.count ∙ x.count) at y.kept

    -- it stays held where the second side has a layout or is stopped
    pub holding_remembered : Remembered n f m m₃
    holding_remembered = record {
      remembering = y.remembering;
      count = y.count ∙ h.taken.changed.count ∙ x.count;
      kept = kept_split j x.kept h.free (rw x.count at h.taken.others) kept_side (record { same = λ i l d. refl });
    }

    -- and learns the splits where it has none
    pub learning_remembered : {c : ℕ} {m₄ : Memory} → Learning n c m₃ m₄ j →
        ((slot : Slot) → slot.variable ≡ p → slot.words ≡ key n p s → slot.splits ≡ c → Known n f slot) → Remembered n f m m₄
    learning_remembered {c} {m₄} l known =
        let count : slot_count m₃ ≡ slot_count m = y.count ∙ h.taken.changed.count ∙ x.count in
        let same : slots_of n m₃ j ≡ slots_of n m₂ j = kept_side.same j (rw x.count at h.inside) h.taken.held in
        record {
          remembering = record {
            sized = l.changed.sized;
            learned = rw l.changed.count (learned_put (slots_of n m₄) j y.remembering.learned l.others
                (λ o. known (slots_of n m₄ j)
                (l.variable ∙ ap (λ (t : Slot). t.variable) same ∙ h.taken.variable)
                (l.words ∙ ap (λ (t : Slot). t.words) same ∙ h.taken.words)
                l.splits));
          };
          count = l.changed.count ∙ count;
          kept = kept_split j x.kept h.free (rw x.count at h.taken.others) kept_side (rw count at l.others);
        }
