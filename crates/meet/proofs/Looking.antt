-- Looks go together: by no step, by steps of rules 7 and 8, by two looks, and from before the clauses that face were gathered.
use mathlib.Core.Path.{◌≡◌, sym, subst}
use Prim.Native.Nat.{ℕ}
use native.Mathlib.Omega.{arith}
use Rattle.theory.proofs.Paired.{Relation, Looked, looked_none, looked_adds, looked_into, adds_any}
use Rattle.theory.proofs.Falls.{Falls, still, falls_steps, falls_adds, falls_distinct, steps_trans}
use Rattle.occurrences.specs.Index.{formula_of}
use Rattle.tally.specs.Tally.{state_in}
use Rattle.notes.specs.declared.Block.{Block}
use Rattle.notes.specs.Notes.{block_at}
use Rattle.moves.specs.Moving.{Moved}
use Rattle.moves.specs.Listing.{ListsIn, Listed, SpansIn}
use Rattle.moves.proofs.Moves.{moved_refl, noting_trans}
use Rattle.moves.proofs.Listed.{carried_trans, carried_fell, blocks_fell, listed_carried}
use Rattle.gather.specs.Gathering.{Beside}
use Rattle.gather.proofs.Besides.{beside_sound, beside_went}
use Rattle.tie.specs.Tying.{Tied}
use Rattle.meet.specs.Looking.{Lookable, LookedAt, Looking}
use Rattle.occurrences.specs.declared.Index.{Index}
use Rattle.tally.specs.declared.Tally.{Tally}
use Rattle.notes.specs.declared.Notes.{Notes}

-- other pairs
pub looked_at_as : {K M : Relation} {ix : Index} {st : Tally} {wk : Notes} {st' : Tally} {wk' : Notes} →
    (Looked K (Listed st' wk') (formula_of ix) (state_in st) (state_in st') → Looked M (Listed st' wk') (formula_of ix) (state_in st) (state_in st')) →
    LookedAt K ix st wk st' wk' → LookedAt M ix st wk st' wk'
looked_at_as i a =
    record { steps = a.steps; lookable = a.lookable; noting = a.noting; kept = a.kept; looked = i a.looked; paid = a.paid; fewer = a.fewer }

pub looking_as : {K M : Relation} {ix : Index} {st : Tally} {wk : Notes} {st' : Tally} {wk' : Notes} →
    (Looked K (Listed st' wk') (formula_of ix) (state_in st) (state_in st') → Looked M (Listed st' wk') (formula_of ix) (state_in st) (state_in st')) →
    Looking K ix st wk st' wk' → Looking M ix st wk st' wk'
looking_as i a = record { at = looked_at_as i a.at; carried = a.carried }

-- steps
module _ {ix : Index} {st : Tally} {wk : Notes} {st' : Tally} {wk' : Notes} where
  pub looking_fell : Lookable ix st wk → Falls (formula_of ix) (state_in st) (state_in st') → Moved ix st wk st' wk' → Looking (λ g h. ⊥) ix st wk st' wk'
  looking_fell l f m = record {
    at = record {
      steps = falls_steps f;
      lookable = record { sound = m.went.sound; distinct = falls_distinct f l.distinct; blocks = blocks_fell l.sound f m l.blocks };
      noting = m.went.noting;
      kept = listed_carried (carried_fell l.sound f m);
      looked = looked_adds (looked_none (Listed st' wk') (formula_of ix) (state_in st)) (adds_any (falls_adds f));
      paid = omega (arith, m.went.blocks_end, m.went.fewer);
      fewer = m.went.fewer;
    };
    carried = carried_fell l.sound f m;
  }

  pub looking_tied : Tied ix st wk st' wk' → Looking (λ g h. ⊥) ix st wk st' wk'
  looking_tied t = record {
    at = record {
      steps = t.steps;
      lookable = record { sound = t.sound; distinct = t.distinct; blocks = t.blocks };
      noting = t.noting;
      kept = listed_carried t.carried;
      looked = looked_adds (looked_none (Listed st' wk') (formula_of ix) (state_in st)) t.adds;
      paid = omega (arith, t.listed, t.fewer);
      fewer = omega (arith, t.fewer);
    };
    carried = t.carried;
  }

pub looking_none : {ix : Index} {st : Tally} {wk : Notes} → Lookable ix st wk → Looking (λ g h. ⊥) ix st wk st wk
looking_none l = looking_fell l still (moved_refl l.sound)

-- two looks
module _ {K M N : Relation} {ix : Index} {st : Tally} {wk : Notes} {st' : Tally} {wk' : Notes} {st'' : Tally} {wk'' : Notes} where
  pub looking_then : (Looked K (Listed st'' wk'') (formula_of ix) (state_in st) (state_in st') → Looked M (Listed st'' wk'') (formula_of ix) (state_in st') (state_in st'') →
      Looked N (Listed st'' wk'') (formula_of ix) (state_in st) (state_in st'')) → Looking K ix st wk st' wk' → Looking M ix st' wk' st'' wk'' → Looking N ix st wk st'' wk''
  looking_then i a b = record {
    at = record {
      steps = (_, steps_trans a.at.steps.1 b.at.steps.1);
      lookable = b.at.lookable;
      noting = noting_trans a.at.noting b.at.noting;
      kept = λ g h k. b.at.kept g h (a.at.kept g h k);
      looked = i (looked_into a.at.looked b.at.kept) b.at.looked;
      paid = omega (arith, a.at.paid, b.at.paid);
      fewer = omega (arith, a.at.fewer, b.at.fewer);
    };
    carried = carried_trans a.carried b.carried;
  }

-- the second makes steps alone
pub looking_steps : {K : Relation} {ix : Index} {st : Tally} {wk : Notes} {st' : Tally} {wk' : Notes} {st'' : Tally} {wk'' : Notes} → Looking K ix st wk st' wk' → Looking (λ g h. ⊥) ix st' wk' st'' wk'' → Looking K ix st wk st'' wk''
looking_steps = looking_then (λ a b. looked_adds a b.adds)

-- clauses were gathered before it
module _ {ix : Index} {st : Tally} {wk wk₁ : Notes} (l : Lookable ix st wk) (b : Beside wk wk₁) where
  same_block : (i : ℕ) → block_at wk₁ i ≡ block_at wk i
  same_block i = rw b.blocks

  pub lookable_beside : Lookable ix st wk₁
  lookable_beside = record {
    sound = beside_sound l.sound b;
    distinct = l.distinct;
    blocks = record { at = λ i h. subst (SpansIn st) (sym (same_block i)) (l.blocks.at i (omega (arith, b.blocks_end))) };
  }

  pub looked_beside : {K : Relation} {st' : Tally} {wk' : Notes} → LookedAt K ix st wk₁ st' wk' → LookedAt K ix st wk st' wk'
  looked_beside a = record {
    steps = a.steps;
    lookable = a.lookable;
    noting = noting_trans (beside_went l.sound b).noting a.noting;
    kept = λ g h (i, o, k). a.kept g h (i, omega (arith, b.blocks_end), subst (λ (c : Block). ListsIn st c g h) (sym (same_block i)) k);
    looked = a.looked;
    paid = omega (arith, a.paid, b.blocks_end);
    fewer = a.fewer;
  }
