-- What a walk answers from the memo, and what a split makes known to it.
use mathlib.Core.Path.{◌≡◌, ap, sym, ◌∙◌}
use mathlib.Core.Bool.{cond}
use mathlib.Core.List.{List, []}
use Rattle.std.specs.Prelude.{None, Some}
use Prim.Native.Nat.{ℕ, ◌≤◌, ◌<◌}
use native.Mathlib.Omega.{arith}
use borrow.Author.Tests.{lt-ltb, le-ltb}
use lib.Dec.{ltb}
use lib.IntN.{ℤ}
use Rattle.receipt.specs.declared.Outcome.{Outcome}
use Rattle.receipt.specs.declared.Outcome.TheVariants.{LaidOut, NoLayout, Stopped}
use Rattle.theory.specs.Formula.{Formula}
use Rattle.theory.specs.Propagation.{step}
use Rattle.theory.specs.Search.{branch_variable, tree_from}
use Rattle.theory.specs.Tree.{result, stop, limited}
use Rattle.theory.specs.Memo.{key, Slot, Known}
use Rattle.theory.proofs.AtRest.{rests_step, counted_rests}
use Rattle.theory.proofs.Memo.{settled_splits, settled_tree, known_answers, walk_known}
use Rattle.occurrences.specs.Index.{formula_of}
use Rattle.occurrences.proofs.Formulas.{formula_mem}
use Rattle.tally.specs.Tally.{state_in}
use Rattle.side.specs.Side.{Calm}
use Rattle.engine.specs.Ready.{Rested}
use Rattle.engine.proofs.Settles.{rested_settles}
use Rattle.memo.specs.declared.Memory.{Memory}
use Rattle.std.specs.Prelude.{Option}
use Rattle.memo.specs.Memory.{slots_of, Keying, Keepable, Found, HoldOf, Remembering, Remembered}
use Rattle.memo.proofs.Learning.{remembered_spared, remembered_trans, holding_remembering, holding_remembered, learning_remembered}
use Rattle.walk.specs.declared.Level.{Level}
use Rattle.walk.specs.Walk.{Lasting, Beginning, Splittable, Walked, walked, tree_walk, split_walk}
use Rattle.walk.specs.Learning.{LearnOf}
use Rattle.walk.proofs.Sides.{branch_open}
use Rattle.occurrences.specs.declared.Index.{Index}
use Rattle.tally.specs.declared.Tally.{Tally}
use Rattle.notes.specs.declared.Notes.{Notes}

-- no rule fits a state at rest
calm_rests : {ix : Index} {st : Tally} → Calm ix st → step (formula_of ix) (state_in st) ≡ None
calm_rests {ix} {st} k = rests_step (counted_rests (λ c m. let w = formula_mem ix m in rw w.2 (k.counted w.0 w.1)) k.pairs)

-- after propagation
module _ {ix : Index} {st : Tally} {wk : Notes} {l : Level} {plan : List ℕ} {trail : List ℤ} (k : Lasting ix l plan trail) (b : Beginning ix st wk l) {st' : Tally} {wk' : Notes} (r : Rested ix st st' wk')
    (p : ℕ) (e : branch_variable (formula_of ix) (state_in st') ≡ Some p)
    {m : Memory} (h : Remembering l.variables (formula_of ix) m) (c : ℕ) (some : 0 < c) (w : Found l.variables p (state_in st') m c) where
  answered : limited l.left (tree_from l.variables (formula_of ix) (state_in st)) ≡ cond (ltb l.left c) (stop l.left) (result NoLayout c [])
  answered =
      let z = rested_settles k.within b.well r in
      let slot : Slot = slots_of l.variables m w.slot in
      let known : Known l.variables (formula_of ix) slot = h.learned.known w.slot w.inside (omega (arith, w.splits)) in
      ap (limited l.left) (settled_tree k.within b.well (state_in st') z p e) ∙
      known_answers k.within (settled_splits k.within b.well (state_in st') z p e) slot known w.variable w.words l.left ∙
      ap (λ (x : ℕ). cond (ltb l.left x) (stop l.left) (result NoLayout x [])) w.splits

  pub remembered_stops : l.left < c → walked (record { outcome = Stopped; count = l.left }) plan trail ≡ tree_walk l (formula_of ix) (state_in st) plan trail
  remembered_stops i = rw (answered, lt-ltb l.left c i)

  pub remembered_none : c ≤ l.left → walked (record { outcome = NoLayout; count = c }) plan trail ≡ tree_walk l (formula_of ix) (state_in st) plan trail
  remembered_none i = rw (answered, le-ltb l.left c i)

-- a split
module _ {ix : Index} {st : Tally} {p : ℕ} {l : Level} {plan : List ℕ} {trail : List ℤ} (k : Splittable ix st p l plan trail) where
  abbrev n : ℕ
  n = l.variables

  abbrev f : Formula
  f = formula_of ix

  pub split_keying : {m : Memory} → Remembering n f m → Keying n p m
  split_keying h = record { sized = h.sized; positive = (branch_open k).positive; inside = (branch_open k).inside }

  split_known : (w : Walked) → w ≡ split_walk p l ix st plan trail → w.walk.outcome ≡ NoLayout →
      (slot : Slot) → slot.variable ≡ p → slot.words ≡ key n p (state_in st) → slot.splits ≡ w.walk.count → Known n f slot
  split_known w e o slot v q c = walk_known k.lasting.within (record { well = k.well; rests = calm_rests k.calm; branch = k.branch }) slot v q l.left
      (sym (ap (λ (u : Walked). u.walk.outcome) e) ∙ o) (c ∙ ap (λ (u : Walked). u.walk.count) e)

  -- up to the end of the first side m became m₁; a slot was held, or not
  module _ {m m₁ m₂ : Memory} (x : Remembered n f m m₁) where
    pub held_remembering : (held : Option ℕ) → HoldOf n p (state_in st) m₁ m₂ held → Remembering n f m₂
    held_remembering (Some j) h = holding_remembering x h
    held_remembering None h = (remembered_spared x.remembering m₂ h).remembering

    module _ {m₃ : Memory} (y : Remembered n f m₂ m₃) where
      pub held_keepable : (held : Option ℕ) → HoldOf n p (state_in st) m₁ m₂ held → Keepable n m₃ held
      held_keepable (Some j) h = record { sized = y.remembering.sized; inside = λ i e. let q : j ≡ i = cc e in rw (← q, y.count ∙ h.taken.changed.count) h.inside }
      held_keepable None h = record { sized = y.remembering.sized; inside = λ i e. let z : ◌≡◌ {A = ℕ} 0 1 = cc e in absurd (omega arith) }

      -- the whole split, whose walk is w
      pub split_remembered : (w : Walked) → w ≡ split_walk p l ix st plan trail → (held : Option ℕ) → HoldOf n p (state_in st) m₁ m₂ held → (m₄ : Memory) → (o : Outcome) → w.walk.outcome ≡ o →
          LearnOf n w.walk.count m₃ m₄ held o → Remembered n f m m₄
      split_remembered w e (Some j) h m₄ LaidOut o t = rw t (holding_remembered x h y)
      split_remembered w e (Some j) h m₄ NoLayout o t = learning_remembered x h y t (split_known w e o)
      split_remembered w e (Some j) h m₄ Stopped o t = rw t (holding_remembered x h y)
      split_remembered w e None h m₄ o q t = rw (unchanged o t) (remembered_trans (remembered_trans x (remembered_spared x.remembering m₂ h)) y)
        where
          unchanged : (o : Outcome) → LearnOf n w.walk.count m₃ m₄ None o → m₄ ≡ m₃
          unchanged LaidOut t = t
          unchanged NoLayout t = t
          unchanged Stopped t = t
