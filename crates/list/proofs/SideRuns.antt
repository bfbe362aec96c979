-- What the two sides of a split walk, from what their parts ensure.
use Rattle.std.proofs.Common.{◌≡◌, Bool, List, ℕ, suc, ◌+◌, ◌-◌, ◌≤◌, ap, ◌∙◌, arith}
use Rattle.literal.specs.declared.Literal.TheVariants.{Pos}
use Rattle.literal.specs.declared.Literal.{Literal}
use Rattle.literal.specs.Literal.{TRUE, FALSE, var, opposite, code_of, literal_at}
use Rattle.theory.specs.Formula.{Choice, Formula}
use Rattle.theory.specs.Listing.{decide_open}
use Rattle.theory.specs.State.{State, assign}
use Rattle.theory.specs.Tree.{Run, tree}
use Rattle.occurrences.specs.Index.{formula_of}
use Rattle.tally.specs.Tally.{state_in}
use Rattle.side.specs.Side.{Begun}
use Rattle.side.proofs.Calm.{out_assigns, taken_assigns}
use Rattle.list.specs.declared.Ending.TheVariants.{All}
use Rattle.list.specs.declared.Level.{Level}
use Rattle.list.specs.declared.Walk.{Walk}
use Rattle.list.specs.Walk.{Splittable, Walked, under, counted, tree_run, run_from, split_run}
use Rattle.list.proofs.Rows.{same_walked, walked_rows, first_side, second_side, walked_count}
use Rattle.list.proofs.Sides.{side_run}
use Rattle.occurrences.specs.declared.Index.{Index}
use Rattle.tally.specs.declared.Tally.{Tally}
use Rattle.notes.specs.declared.Notes.{Notes}

module _ {ix : Index} {st : Tally} {p : ℕ} {l : Level} {bytes : List ℕ} (k : Splittable ix st p l bytes) where
  -- the codes of the two literals that become false
  pub first_is : (x : Literal) (c : ℕ) → x ≡ Pos p → c ≡ code_of x → assign (literal_at c) FALSE (state_in st) ≡ assign (Pos p) FALSE (state_in st)
  first_is x c made code = out_assigns p c (code ∙ ap code_of made) (state_in st)

  pub second_is : (x y : Literal) (c : ℕ) → x ≡ Pos p → y ≡ opposite x → c ≡ code_of y → assign (literal_at c) FALSE (state_in st) ≡ assign (Pos p) TRUE (state_in st)
  second_is x y c made turned code = taken_assigns p c (code ∙ ap code_of (turned ∙ ap opposite made)) (state_in st)

  -- a side, which makes p the value t
  pub side_walked : (t : Literal) → var t ≡ 0 → (c : ℕ) → assign (literal_at c) FALSE (state_in st) ≡ assign (Pos p) t (state_in st) →
      (st' : Tally) (wk' : Notes) (r : Bool) → Begun ix st c st' wk' r → (left row : ℕ) (lower : Level) → lower ≡ under p left row l →
      (old new : List ℕ) (w : Walk) → Walked lower (run_from r lower ix st') old new w →
      Walked (under p left row l) (tree_run (under p left row l) (formula_of ix) (assign (Pos p) t (state_in st))) old new w
  side_walked t constant c is st' wk' r b left row lower e old new w h =
      same_walked (side_run k c t constant is st' wk' r b left row) (under p left row l) old new w (rw e at h)

  abbrev f : Formula
  f = formula_of ix

  abbrev walks : ℕ → State → Run Choice
  walks = tree (decide_open l.variables f) (suc l.variables)

  abbrev out : State
  out = assign (Pos p) FALSE (state_in st)

  abbrev taken : State
  taken = assign (Pos p) TRUE (state_in st)

  module _ (some_left : ¬ (l.left ≡ 0)) (mid : List ℕ) (w : Walk) (h : Walked (under p (l.left - 1) l.row l) (tree_run (under p (l.left - 1) l.row l) f out) bytes mid w) where
    abbrev lower : Level
    lower = under p (l.left - 1) l.row l

    -- it is within its allowance, and within the rows that are left
    pub first_count : w.count + 1 ≤ l.left
    first_count = omega (arith, walked_count lower (tree_run lower f out) bytes mid w h)

    pub first_rows : l.row + w.written ≤ l.wanted
    first_rows = omega (arith, walked_rows lower (tree_run lower f out) bytes mid w h, k.lasting.rowable.next)

    pub first_whole : ¬ (w.ending ≡ All) → Walked l (split_run p l f (state_in st)) bytes mid (counted 0 1 w)
    first_whole other = first_side l p walks out taken some_left bytes mid w h other

    module _ (new : List ℕ) (v : Walk) (i : Walked (under p (l.left - (1 + w.count)) (l.row + w.written) l) (tree_run (under p (l.left - (1 + w.count)) (l.row + w.written) l) f taken) mid new v) where
      abbrev rest : Level
      rest = under p (l.left - (1 + w.count)) (l.row + w.written) l

      -- both are
      pub both_count : 1 + w.count + v.count ≤ l.left
      both_count = omega (arith, first_count, walked_count rest (tree_run rest f taken) mid new v i)

      pub both_rows : w.written + v.written ≤ l.wanted
      both_rows = omega (arith, first_rows, walked_rows rest (tree_run rest f taken) mid new v i)

      -- what both sides come to, where the first has found all
      pub both_whole : w.ending ≡ All → Walked l (split_run p l f (state_in st)) bytes new (counted w.written (1 + w.count) v)
      both_whole all = second_side l p walks out taken some_left bytes mid w h k.lasting.rowable.next all new v i
