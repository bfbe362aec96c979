-- A tie, from what is gathered before it to rules 4 and 5 after it: what each call asks, and what all of them leave.
use mathlib.Core.Path.{◌≡◌, refl, ap, sym, subst, ◌∙◌}
use mathlib.Core.Bool.{Bool, true, false}
use mathlib.Core.Logic.{inr, ◌≢◌, ⊎_elim}
use mathlib.Core.List.{List, Memᴰ}
use Prim.Native.Nat.{ℕ, suc, ◌/◌, ◌≤◌, ◌<◌}
use native.Mathlib.Decide.{dec_le, dec_lt}
use native.Mathlib.Omega.{arith}
use lib.ListN.{get_or, length}
use Rattle.literal.specs.declared.Literal.{Literal}
use Rattle.literal.specs.Literal.{var, opposite, code_of, literal_at, variables}
use Rattle.literal.proofs.Codes.{at_code, var_at}
use Rattle.theory.specs.Formula.{Clause}
use Rattle.theory.specs.State.{assign, standing}
use Rattle.theory.proofs.Literals.{var_opposite}
use Rattle.theory.proofs.Propagation.{none_left, one_more}
use Rattle.theory.proofs.Counts.{mentions, Wide, holds_mentions}
use Rattle.theory.proofs.Recounts.{opens_tied, trues_tied, wide_before}
use Rattle.theory.proofs.Paired.{Adds, adds_by, adds_any, adds_still}
use Rattle.theory.proofs.DistinctBut.{distinct_weaken, distinct_tied, distinct_looked, distinct_joined}
use Rattle.theory.proofs.Falls.{Falls, falls_steps, falls_wide, falls_mentions, falls_adds, falls_distinct}
use Rattle.occurrences.specs.Index.{clause_count, clause_of, formula_of, width}
use Rattle.occurrences.proofs.Formulas.{formula_mem}
use Rattle.tally.specs.Tally.{state_in, count_in}
use Rattle.tally.specs.Counts.{trues_of, opens_of, Exact}
use Rattle.tally.proofs.Standing.{opens_standing, trues_standing}
use Rattle.notes.specs.declared.Block.{Block}
use Rattle.notes.specs.Notes.{block_at, Gathered, max_blocks}
use Rattle.moves.specs.Sound.{Sound}
use Rattle.moves.specs.Moving.{Noting, Moved}
use Rattle.moves.specs.Listing.{ListsIn, Listed, SpansIn, Blocks, Carried}
use Rattle.moves.proofs.Moves.{noting_trans}
use Rattle.moves.proofs.Dying.{died_after}
use Rattle.moves.proofs.Listed.{carried_trans, carried_fell, blocks_fell, spans_carried, listed_carried}
use Rattle.gather.specs.Gathering.{AtRoot, Beside, Gathering}
use Rattle.gather.proofs.Besides.{sound_root}
use Rattle.gather.proofs.Collects.{beside_trans}
use Rattle.tie.specs.Turning.{Turnable, Joined}
use Rattle.tie.specs.Listing.{block_between, ListedBy}
use Rattle.undouble.specs.Doubling.{Once, DoublingAll, UndoubledAll}
use Rattle.tie.specs.Keeping.{WideWith, Kept}
use Rattle.tie.specs.Tying.{Tieable, Tied, TieOf}
use Rattle.tie.proofs.Between.{joined_followed, joined_sides, joined_lists, joined_unheld}
use Rattle.occurrences.specs.declared.Index.{Index}
use Rattle.tally.specs.declared.Tally.{Tally}
use Rattle.notes.specs.declared.Notes.{Notes}

module _ {ix : Index} {st : Tally} {wk : Notes} {low high : ℕ} (d : Tieable ix st wk low high) where
  s : Sound ix st wk
  s = d.sound

  -- the literals of the step, the code of the second
  x : Literal
  x = literal_at high

  t : Literal
  t = opposite (literal_at low)

  opened_x : 0 < var x
  unfolding x
  opened_x = omega (arith, var_at high, d.tying.order)

  var_t : var t ≡ low / 2
  unfolding t
  var_t = var_opposite (literal_at low) ∙ var_at low

  opened_t : 0 < var t
  opened_t = omega (arith, var_t, d.tying.opened)

  apart : var t ≢ var x
  unfolding x
  apart e = omega (arith, var_t, var_at high, d.tying.order)

  -- the roots before the step
  pub high_root : AtRoot ix st (high / 2)
  high_root = sound_root s (omega (arith, d.tying.order)) (omega (arith, d.tying.below)) d.tying.high_root

  pub low_root : AtRoot ix st (low / 2)
  low_root = sound_root s (omega (arith, d.tying.opened)) (omega (arith, d.tying.order, d.tying.below)) d.tying.low_root

  module _ {y : ℕ} (is : y ≡ code_of (opposite (literal_at low))) where
    literal_y : literal_at y ≡ t
    unfolding t
    literal_y = at_code y (opposite (literal_at low)) is

    half : y / 2 ≡ low / 2
    half = sym (var_at y) ∙ ap var literal_y ∙ var_t

    pub tying_turnable : Turnable st high y
    tying_turnable = record {
      classes = s.classes;
      long = s.exact.long_values;
      linked = s.linked;
      opened = omega (arith, half, d.tying.opened);
      lower = omega (arith, half, d.tying.order);
      below = d.tying.below;
      root = d.tying.high_root;
      root_t = rw half d.tying.low_root;
    }

    module _ {st₁ : Tally} (j : Joined st high y st₁) where
      step : state_in st₁ ≡ assign x t (state_in st)
      unfolding x
      step = j.state ∙ rw literal_y

      -- no literal changes its kind
      same_opens : (c : Clause) → opens_of (state_in st₁) c ≡ opens_of (state_in st) c
      same_opens c = rw step (opens_standing (assign x t (state_in st)) c ∙ opens_tied (state_in st) x t opened_x opened_t c ∙ sym (opens_standing (state_in st) c))

      same_trues : (c : Clause) → trues_of (state_in st₁) c ≡ trues_of (state_in st) c
      same_trues c = rw step (trues_standing (assign x t (state_in st)) c ∙ trues_tied (state_in st) x t opened_x opened_t c ∙ sym (trues_standing (state_in st) c))

      exact : Exact ix st₁.values st₁.counts
      exact = record {
        long_values = j.long;
        long_counts = ap length j.counts ∙ s.exact.long_counts;
        is = λ g h. rw j.counts (omega (arith, s.exact.is g h, same_opens (clause_of ix g), same_trues (clause_of ix g)));
        low = λ g h. rw j.counts (s.exact.low g h);
      }

      same_count : (g : ℕ) → count_in st₁ g ≡ count_in st g
      same_count g = ap (λ (l : List ℕ). get_or l g 0) j.counts

      module _ {wk₀ : Notes} {n : ℕ} (k : Gathering ix st wk (high / 2) wk₀ n) {wk₁ : Notes} {m : ℕ} (b : Kept (WideWith ix st (low / 2)) wk₀ n wk₁ m) where
        beside : Beside wk wk₁
        beside = beside_trans k.beside b.beside

        pub tying_room : wk₁.blocks_end < max_blocks
        tying_room = omega (arith, beside.blocks_end, s.blocks_room, j.fewer)

        module _ {wk₂ : Notes} (p : ListedBy wk₁ n (block_between st (high / 2) (low / 2)) wk₂) where
          same_todo_end : wk₂.todo_end ≡ wk.todo_end
          same_todo_end = p.todo_end ∙ beside.todo_end

          same_todo : wk₂.todo ≡ wk.todo
          same_todo = p.todo ∙ beside.todo

          sound : Sound ix st₁ wk₂
          sound = record {
            index = s.index;
            exact = exact;
            linked = j.linked;
            classes = j.classes;
            todo_room = omega (arith, same_todo_end, j.loads (width ix) variables, s.todo_room);
            blocks_room = omega (arith, p.one, beside.blocks_end, j.fewer, s.blocks_room);
            todo_inside = λ i h. rw same_todo (s.todo_inside i (omega (arith, same_todo_end)));
          }

          pub tying_all : DoublingAll ix st₁ wk₂ m (low / 2)
          tying_all = record {
            sound = sound;
            few = omega (arith, k.few, b.fewer);
            clauses = λ i h. let w = b.only i (omega arith) h in rw (p.gathered, ← w.3) (k.inside w.0 w.2);
            positive = omega (arith, d.tying.opened);
            inside = omega (arith, d.tying.order, d.tying.below);
          }

          noting : Noting ix st wk st₁ wk₂
          noting = record {
            grows = omega (arith, same_todo_end);
            kept = λ i h. ap (λ (l : List ℕ). get_or l i 0) same_todo;
            few = λ g h a b. absurd (omega (arith, same_count g));
            paid = omega (arith, same_todo_end, j.loads (width ix) variables);
            never = λ g h a. omega (arith, same_count g);
            won = λ g h a b. absurd (omega (arith, same_count g));
          }

          -- the block that is listed
          abbrev block : Block
          block = block_between st (high / 2) (low / 2)

          pub block_spans : SpansIn st₁ block
          block_spans = inr (rw half at (joined_sides tying_turnable j))

          block_same : (i : ℕ) → i < wk.blocks_end → block_at wk₂ i ≡ block_at wk i
          block_same i h = p.kept i (omega (arith, beside.blocks_end)) ∙ rw beside.blocks

          carried : Carried st wk st₁ wk₂
          carried = record {
            followed = joined_followed tying_turnable j;
            grows = omega (arith, p.grows, beside.blocks_end);
            kept = block_same;
            gathered = λ i h. ap (λ (l : List ℕ). get_or l i 0) p.gathered ∙ b.beyond i (omega (arith, k.few)) ∙ k.sides i h;
          }

          blocks : Blocks st₁ wk₂
          blocks = record {
            at = λ i h. ⊎_elim
                (λ b.
                let l : i < wk.blocks_end = omega (arith, beside.blocks_end) in
                subst (SpansIn st₁) (sym (block_same i l)) (spans_carried carried (block_at wk i) (d.blocks.at i l)))
                (λ e. subst (SpansIn st₁) (sym e) block_spans)
                (p.only i h);
          }

          -- what the tie adds is of that block, which is listed unless no wide clause held the higher root
          adds : Adds (Listed st₁ wk₂) (formula_of ix) (state_in st) (state_in st₁)
          adds = elim (dec_lt 0 n) [
            | yes o ↦
                let w = p.listed o in
                adds_by (λ g h a b m l. (w.0, w.1, subst (λ (b : Block). ListsIn st₁ b g h) (sym w.2) (rw half at l))) (joined_lists tying_turnable j)
            | no o ↦ adds_any (joined_unheld tying_turnable j (λ c m w i.
                let g = formula_mem ix m in
                let z = k.all g.0 g.1 (rw g.2 at w) (rw g.2 at (holds_mentions (high / 2) (standing (state_in st) c) i)) in
                omega (arith, z.2)))
          ]

          -- a clause in which the lower root stands twice now held both, and was kept
          twice_kept : (g : ℕ) → g < clause_count ix → Memᴰ (clause_of ix g) (formula_of ix) → Wide (standing (state_in st₁) (clause_of ix g)) →
              2 ≤ mentions (low / 2) (standing (state_in st₁) (clause_of ix g)) → Gathered wk₂ 0 m g
          unfolding x
          twice_kept g h m w e =
              let w₁ : Wide (standing (assign x t (state_in st)) (clause_of ix g)) = rw step at w in
              let e₁ : 2 ≤ mentions (var t) (standing (assign x t (state_in st)) (clause_of ix g)) = rw var_t (rw step at e) in
              let o = distinct_joined d.distinct x t opened_x opened_t apart (clause_of ix g) m w₁ e₁ in
              let r : mentions (low / 2) (standing (state_in st) (clause_of ix g)) ≡ 1 = rw var_t at o.0 in
              let q : mentions (high / 2) (standing (state_in st) (clause_of ix g)) ≡ 1 = rw (var_at high) at o.1 in
              let z = wide_before (state_in st) x t opened_x (clause_of ix g) w₁ in
              let i = b.all g (h, z, omega arith) (k.all g h z (omega arith)) in
              (i.0, i.1, i.2, ap (λ (l : List ℕ). get_or l i.0 0) p.gathered ∙ i.3)

          module _ {st' : Tally} {wk' : Notes} where
            tied : UndoubledAll ix st₁ wk₂ m (low / 2) st' wk' false → Tied ix st wk st' wk'
            unfolding x t
            tied u = record {
              steps = let r = falls_steps (rw step at path) in (suc r.0, one_more x t d.tying.asked r.1);
              sound = moved.went.sound;
              noting = noting_trans noting moved.went.noting;
              distinct = distinct_weaken (distinct_looked (falls_distinct path (rw step (distinct_tied d.distinct x t opened_x))) (low / 2) once)
                  (λ r q. ⊎_elim (λ z. z) (λ e. q.1 (e ∙ var_t)) q.0);
              blocks = blocks_fell sound path moved blocks;
              carried = carried_trans carried fell;
              adds = adds_by (λ g h a b m. listed_carried fell g h) (adds_still adds (falls_adds path));
              listed = omega (arith, moved.went.blocks_end, p.one, beside.blocks_end);
              fewer = omega (arith, moved.went.fewer, j.fewer);
            }
              where
                fell : Carried st₁ wk₂ st' wk'
                fell = carried_fell sound u.fell.0 u.fell.1

                path : Falls (formula_of ix) (state_in st₁) (state_in st')
                path = u.fell.0

                moved : Moved ix st₁ wk₂ st' wk'
                moved = u.fell.1

                once : (c : Clause) → Memᴰ c (formula_of ix) → Wide (standing (state_in st') c) → mentions (low / 2) (standing (state_in st') c) ≤ 1
                once c m w =
                    let g = formula_mem ix m in
                    elim (dec_le 2 (mentions (low / 2) (standing (state_in st₁) c))) [
                      | yes e ↦
                          let v : Once ix st' (low / 2) g.0 = u.once refl g.0 (twice_kept g.0 g.1 (rw g.2 at m) (rw g.2 at (falls_wide path c w)) (rw g.2 at e)) in
                          rw g.2 (v (rw g.2 at w))
                      | no e ↦ omega (arith, falls_mentions path c (low / 2) (omega (arith, d.tying.opened)))
                    ]

            pub tying_done : (b : Bool) → UndoubledAll ix st₁ wk₂ m (low / 2) st' wk' b → TieOf ix st wk st' wk' b
            unfolding x t
            tying_done true u = died_after (one_more x t d.tying.asked none_left) (rw step at u.fell)
            tying_done false u = tied u
