-- What is listed stays listed: by no step, by two, and by variables that fall.
use mathlib.Core.Path.{ap, sym, subst, ◌∙◌}
use mathlib.Core.List.{List}
use Prim.Native.Nat.{ℕ}
use native.Mathlib.Omega.{arith}
use lib.ListN.{get_or}
use Rattle.theory.specs.Formula.{Clause}
use Rattle.theory.proofs.Falls.{Falls}
use Rattle.occurrences.specs.Index.{formula_of}
use Rattle.tally.specs.Tally.{state_in}
use Rattle.tally.proofs.Stretches.{followed_trans, followed_falls}
use Rattle.tally.proofs.Blocks.{spans_kept, lists_kept}
use Rattle.notes.specs.declared.Block.{Block}
use Rattle.moves.specs.Sound.{Sound}
use Rattle.moves.specs.Moving.{Moved}
use Rattle.moves.specs.Listing.{ListsIn, Listed, SpansIn, Blocks, Carried}
use Rattle.occurrences.specs.declared.Index.{Index}
use Rattle.tally.specs.declared.Tally.{Tally}
use Rattle.notes.specs.declared.Notes.{Notes}

pub carried_trans : {st : Tally} {wk : Notes} {st' : Tally} {wk' : Notes} {st'' : Tally} {wk'' : Notes} → Carried st wk st' wk' → Carried st' wk' st'' wk'' → Carried st wk st'' wk''
carried_trans a b = record {
  followed = followed_trans a.followed b.followed;
  grows = omega (arith, a.grows, b.grows);
  kept = λ i h. b.kept i (omega (arith, a.grows)) ∙ a.kept i h;
  gathered = λ i h. b.gathered i h ∙ a.gathered i h;
}

-- variables fall
module _ {ix : Index} {st : Tally} {wk : Notes} {st' : Tally} {wk' : Notes} (s : Sound ix st wk) (f : Falls (formula_of ix) (state_in st) (state_in st')) (m : Moved ix st wk st' wk') where
  pub carried_fell : Carried st wk st' wk'
  carried_fell = record {
    followed = followed_falls f s.classes.base m.went.links;
    grows = omega (arith, m.went.blocks_end);
    kept = λ i h. rw m.went.blocks;
    gathered = λ i h. ap (λ (l : List ℕ). get_or l i 0) m.gathered;
  }

  pub blocks_fell : Blocks st wk → Blocks st' wk'
  blocks_fell k = record { at = λ i h. rw m.went.blocks (spans_kept carried_fell.followed (k.at i (omega (arith, m.went.blocks_end)))) }

module _ {st : Tally} {wk : Notes} {st' : Tally} {wk' : Notes} (c : Carried st wk st' wk') where
  pub spans_carried : (b : Block) → SpansIn st b → SpansIn st' b
  spans_carried b = spans_kept c.followed

  pub listed_carried : (g h : Clause) → Listed st wk g h → Listed st' wk' g h
  listed_carried g h (i, l, k) = (i, omega (arith, c.grows), subst (λ (b : Block). ListsIn st' b g h) (sym (c.kept i l)) (lists_kept c.followed k))
