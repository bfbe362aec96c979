-- What the two sides of a split walk, from what their parts ensure.
use Rattle.std.proofs.Common.{◌≡◌, Bool, List, ℕ, ◌+◌, ◌-◌, ◌≤◌, ap, ◌∙◌, arith}
use Rattle.std.specs.Prelude.{ℤ}
use Rattle.literal.specs.declared.Literal.TheVariants.{Pos}
use Rattle.literal.specs.declared.Literal.{Literal}
use Rattle.literal.specs.Literal.{TRUE, FALSE, var, opposite, code_of, literal_at}
use Rattle.receipt.specs.declared.Outcome.TheVariants.{NoLayout}
use Rattle.theory.specs.State.{assign}
use Rattle.occurrences.specs.Index.{formula_of}
use Rattle.tally.specs.Tally.{state_in}
use Rattle.side.specs.Side.{Begun}
use Rattle.side.proofs.Calm.{out_assigns, taken_assigns}
use Rattle.walk.specs.declared.Level.{Level}
use Rattle.walk.specs.declared.Walk.{Walk}
use Rattle.walk.specs.Walk.{Splittable, walked, tree_walk, walk_from, split_walk, under}
use Rattle.walk.proofs.Sides.{side_walk, side_room}
use Rattle.walk.proofs.Walking.{walk_count, side_of, second_side}
use Rattle.occurrences.specs.declared.Index.{Index}
use Rattle.tally.specs.declared.Tally.{Tally}
use Rattle.notes.specs.declared.Notes.{Notes}

module _ {ix : Index} {st : Tally} {p : ℕ} {l : Level} {plan : List ℕ} {trail : List ℤ} (k : Splittable ix st p l plan trail) where
  -- the codes of the two literals that become false
  pub first_is : (x : Literal) (c : ℕ) → x ≡ Pos p → c ≡ code_of x → assign (literal_at c) FALSE (state_in st) ≡ assign (Pos p) FALSE (state_in st)
  first_is x c made code = out_assigns p c (code ∙ ap code_of made) (state_in st)

  pub second_is : (x y : Literal) (c : ℕ) → x ≡ Pos p → y ≡ opposite x → c ≡ code_of y → assign (literal_at c) FALSE (state_in st) ≡ assign (Pos p) TRUE (state_in st)
  second_is x y c made turned code = taken_assigns p c (code ∙ ap code_of (turned ∙ ap opposite made)) (state_in st)

  -- a side, which makes p the value t
  pub side_walked : (t : Literal) → var t ≡ 0 → (c : ℕ) → assign (literal_at c) FALSE (state_in st) ≡ assign (Pos p) t (state_in st) →
      (st' : Tally) (wk' : Notes) (r : Bool) → Begun ix st c st' wk' r → (left : ℕ) (lower : Level) → lower ≡ under p left l →
      (q q' : List ℕ) (v v' : List ℤ) (w : Walk) → walked w q' v' ≡ walk_from r lower ix st' q v →
      walked w q' v' ≡ tree_walk (under p left l) (formula_of ix) (assign (Pos p) t (state_in st)) q v
  side_walked t constant c is st' wk' r b left lower e q q' v v' w h = rw e at h ∙ side_walk k c t constant is st' wk' r b left q v

  module _ (some_left : ¬ (l.left ≡ 0)) (w : Walk) (q' : List ℕ) (v' : List ℤ)
      (h : walked w q' v' ≡ tree_walk (under p (l.left - 1) l) (formula_of ix) (assign (Pos p) FALSE (state_in st)) plan trail) where
    -- its count is within its allowance
    pub first_count : w.count + 1 ≤ l.left
    first_count = omega (arith, walk_count _ _ _ _ _ _ _ h)

    module _ (b : Walk) (q'' : List ℕ) (v'' : List ℤ)
        (i : walked b q'' v'' ≡ tree_walk (under p (l.left - (1 + w.count)) l) (formula_of ix) (assign (Pos p) TRUE (state_in st)) q' v') where
      -- the splits of both sides are within the allowance
      pub both_count : 1 + w.count + b.count ≤ l.left
      both_count = omega (arith, first_count, walk_count _ _ _ _ _ _ _ i)

      -- what both sides come to, where the first has no layout
      pub whole_walk : w.outcome ≡ NoLayout → side_of (1 + w.count) l.depth (Pos p) (walked b q'' v'') ≡ split_walk p l ix st plan trail
      whole_walk none_found =
          second_side l.variables (formula_of ix) (state_in st) p l.depth plan trail l.left some_left (side_room k) _ h none_found _ i
