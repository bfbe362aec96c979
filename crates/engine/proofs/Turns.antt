-- Ready stays ready: by steps that rules ask, when a listed block goes from the list, and by one turn.
use mathlib.Core.Path.{◌≡◌, refl, subst}
use mathlib.Core.Bool.{Bool, true, false}
use mathlib.Core.Logic.{◌⊎◌, inl, inr, ⊎_elim}
use Prim.Native.Nat.{ℕ, ◌+◌, ◌-◌, ◌≤◌, ◌<◌}
use native.Mathlib.Decide.{ℕ_discrete as dec_eq}
use native.Mathlib.Omega.{arith}
use borrow.Author.Tests.{ltb-true, ltb-false}
use lib.Dec.{ltb}
use lib.ListN.{get_or}
use Rattle.literal.specs.Literal.{max_variables}
use Rattle.theory.specs.Formula.{Clause, Within}
use Rattle.theory.specs.State.{standing}
use Rattle.theory.proofs.Propagation.{Steps, none_left, steps_well, steps_refine}
use Rattle.theory.proofs.Paired.{Paired, paired_weaken, paired_adds, paired_kept, paired_looked}
use Rattle.theory.proofs.DistinctBut.{DistinctBut}
use Rattle.theory.proofs.Falls.{Falls, falls_steps, falls_adds, falls_distinct}
use Rattle.occurrences.specs.Index.{clause_of, formula_of}
use Rattle.tally.specs.Tally.{state_in, count_in}
use Rattle.notes.specs.Notes.{block_at, with_blocks_end}
use Rattle.moves.specs.Sound.{Sound}
use Rattle.moves.specs.Moving.{Noting, Moved}
use Rattle.moves.specs.Listing.{ListsIn, Listed, Blocks, SpansIn}
use Rattle.moves.proofs.Moves.{noting_trans}
use Rattle.moves.proofs.Listed.{carried_fell, blocks_fell, listed_carried}
use Rattle.engine.specs.Short.{Units, Resting}
use Rattle.engine.specs.Ready.{Ready}
use Rattle.meet.specs.Looking.{LookedAt, Lookable}
use Rattle.tie.specs.Tying.{Tied, Tying, Tieable}
use Rattle.engine.specs.Turning.{Turned, Left}
use Rattle.engine.proofs.Along.{within_indexed, opens_along}
use Rattle.engine.proofs.Shorts.{short_past, short_kept}
use Rattle.occurrences.specs.declared.Index.{Index}
use Rattle.tally.specs.declared.Tally.{Tally}
use Rattle.notes.specs.declared.Notes.{Notes}

-- steps --------------------------------------------------------------------------------------------------------------

module _ {ix : Index} {st : Tally} {wk : Notes} {at next : ℕ} (ready : Ready ix st wk at next) where
  within : Within max_variables (formula_of ix)
  within = within_indexed ready.sound.index

  module _ (early : at ≤ wk.todo_end) (before : next ≤ wk.todo_end) {st' : Tally} {wk' : Notes} where
    pub ready_steps : {k : ℕ} → Steps (formula_of ix) (state_in st) (state_in st') k → Sound ix st' wk' → Noting ix st wk st' wk' →
        DistinctBut (λ p. ⊥) (formula_of ix) (state_in st') → Blocks st' wk' → Paired (Listed st' wk') (formula_of ix) (state_in st') → Ready ix st' wk' at next
    ready_steps steps sound noting distinct blocks pairs = record {
      sound = sound;
      well = steps_well within steps ready.well;
      short = short_kept ready.sound sound noting (opens_along steps) early (steps_refine within steps ready.well) before ready.short;
      distinct = distinct;
      blocks = blocks;
      pairs = pairs;
    }

    pub ready_tied : Tied ix st wk st' wk' → Ready ix st' wk' at next
    ready_tied t = ready_steps t.steps.1 t.sound t.noting t.distinct t.blocks
        (paired_weaken (λ g h. ⊎_elim (listed_carried t.carried g h) (λ l. l)) (paired_adds t.adds ready.pairs))

    ready_moved : Falls (formula_of ix) (state_in st) (state_in st') → Moved ix st wk st' wk' → Ready ix st' wk' at next
    ready_moved f m = ready_steps (falls_steps f).1 m.went.sound m.went.noting (falls_distinct f ready.distinct) (blocks_fell ready.sound f m ready.blocks)
        (paired_weaken (listed_carried (carried_fell ready.sound f m)) (paired_kept (falls_adds f) ready.pairs))

    pub ready_units : Falls (formula_of ix) (state_in st) (state_in st') → Moved ix st wk st' wk' → {b : ℕ} → Units ix st' wk' b → Ready ix st' wk' b next
    ready_units f m u =
        let r = ready_moved f m in
        record { sound = r.sound; well = r.well; short = record { units = u; twos = r.short.twos }; distinct = r.distinct; blocks = r.blocks; pairs = r.pairs }

-- a block goes from the list ----------------------------------------------------------------------------------------

-- the last one
abbrev pub delisted : Notes → Notes
delisted wk = with_blocks_end (wk.blocks_end - 1) wk

module _ (wk : Notes) (st : Tally) (some : 0 < wk.blocks_end) where
  -- its pairs, and those of every other
  listed_one : (g h : Clause) → Listed st wk g h → ListsIn st (block_at wk (wk.blocks_end - 1)) g h ⊎ Listed st (delisted wk) g h
  listed_one g h (i, l, k) = elim (dec_eq i (wk.blocks_end - 1)) [
    | yes e ↦ inl (subst (λ (i : ℕ). ListsIn st (block_at wk i) g h) e k)
    | no e ↦ inr (i, omega arith, k)
  ]

  noting_delisted : {ix : Index} → Noting ix st wk st (delisted wk)
  noting_delisted = record {
    grows = omega arith;
    kept = λ i h. refl;
    few = λ g h a b. absurd (omega arith);
    paid = omega arith;
    never = λ g h o. o;
    won = λ g h a b. absurd (omega arith);
  }

  -- what is left can be looked at; it was of two stretches or signs
  module _ {ix : Index} {at next : ℕ} (ready : Ready ix st wk at next) where
    pub delisted_lookable : Lookable ix st (delisted wk)
    delisted_lookable = record {
      sound = record {
        index = ready.sound.index;
        exact = ready.sound.exact;
        linked = ready.sound.linked;
        classes = ready.sound.classes;
        todo_room = ready.sound.todo_room;
        blocks_room = omega (arith, ready.sound.blocks_room);
        todo_inside = ready.sound.todo_inside;
      };
      distinct = ready.distinct;
      blocks = record { at = λ i h. ready.blocks.at i (omega arith) };
    }

    pub delisted_spans : SpansIn st (block_at wk (wk.blocks_end - 1))
    delisted_spans = ready.blocks.at (wk.blocks_end - 1) (omega arith)

  -- its pairs were looked at
  module _ {ix : Index} {at next : ℕ} (ready : Ready ix st wk at next) (early : at ≤ wk.todo_end) (before : next ≤ wk.todo_end) where
    pub ready_looked : {st' : Tally} {wk' : Notes} → LookedAt (ListsIn st (block_at wk (wk.blocks_end - 1))) ix st (delisted wk) st' wk' → Ready ix st' wk' at next
    ready_looked l = ready_steps ready early before l.steps.1 l.lookable.sound (noting_trans noting_delisted l.noting) l.lookable.distinct l.lookable.blocks
        (paired_weaken (λ g h. ⊎_elim (l.kept g h) (λ k. k)) (paired_looked l.looked (paired_weaken listed_one ready.pairs)))

-- what a tie asks ----------------------------------------------------------------------------------------------------

pub tieable : {ix : Index} {st : Tally} {wk : Notes} {at next low high : ℕ} → Ready ix st wk at next → Tying ix st low high → Tieable ix st wk low high
tieable r a = record { tying = a; sound = r.sound; distinct = r.distinct; blocks = r.blocks }

-- one turn -------------------------------------------------------------------------------------------------------------

module _ {ix : Index} {st : Tally} {wk : Notes} {twos : ℕ} (ready : Ready ix st wk wk.todo_end twos) where
  -- rule 6 does not fit the clause at the cursor
  pub turned_past : twos < wk.todo_end →
      (let g = get_or wk.todo twos 0 in count_in st g ≡ 2 → Resting (standing (state_in st) (clause_of ix g))) → Turned ix st wk twos st wk (twos + 1)
  turned_past h rests = record {
    steps = (0, none_left);
    ready = record { sound = ready.sound; well = ready.well; short = short_past ready.short rests; distinct = ready.distinct; blocks = ready.blocks; pairs = ready.pairs };
    grows = omega arith;
    reached = omega arith;
    less = omega arith;
  }

  module _ (before : twos ≤ wk.todo_end) where
    pub turned_tied : {st' : Tally} {wk' : Notes} → Tied ix st wk st' wk' → Turned ix st wk twos st' wk' twos
    turned_tied t = record {
      steps = t.steps;
      ready = ready_tied ready (omega arith) before t;
      grows = t.noting.grows;
      reached = before;
      less = omega (arith, t.listed, t.fewer, t.noting.paid);
    }

    -- the pairs of the last listed block were looked at
    pub turned_looked : 0 < wk.blocks_end → {st' : Tally} {wk' : Notes} → LookedAt (ListsIn st (block_at wk (wk.blocks_end - 1))) ix st (delisted wk) st' wk' →
        Turned ix st wk twos st' wk' twos
    turned_looked some l = record {
      steps = l.steps;
      ready = ready_looked wk st some ready (omega arith) before l;
      grows = l.noting.grows;
      reached = before;
      less = omega (arith, l.noting.paid, l.paid, l.fewer);
    }

-- at the end of the noted clauses what is left is a block
pub left_last : (wk : Notes) (twos n : ℕ) → wk.todo_end ≤ twos → n ≡ wk.blocks_end → Left wk twos (ltb 0 n)
left_last wk twos n h e = go (ltb 0 n) refl
  where
    go : (b : Bool) → ltb 0 n ≡ b → Left wk twos b
    go true q = inr (omega (arith, ltb-true 0 n q))
    go false q = (h, omega (arith, ltb-false 0 n q))
