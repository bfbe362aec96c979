-- Rules 4 and 5 in the gathered clauses one by one: what holds at the loop's head, at the start, after a turn, at a dead end and at the end; and in all clauses.
use mathlib.Core.Path.{◌≡◌, refl, ap, sym, subst, ◌∙◌}
use mathlib.Core.Bool.{Bool, true, false}
use mathlib.Core.List.{List}
use Prim.Native.Nat.{ℕ, ◌+◌, ◌≤◌, ◌<◌}
use native.Mathlib.Decide.{dec_lt, ℕ_discrete as dec_eq}
use native.Mathlib.Omega.{arith}
use lib.ListN.{get_or}
use Rattle.general.specs.Booleans.{true_not_false}
use Rattle.theory.specs.Formula.{Clause, Formula}
use Rattle.theory.specs.State.{State, standing}
use Rattle.theory.proofs.Counts.{mentions, Wide}
use Rattle.theory.proofs.Falls.{Falls, still, falls_trans, falls_wide, falls_mentions}
use Rattle.occurrences.specs.Index.{clause_of, formula_of}
use Rattle.tally.specs.Tally.{state_in}
use Rattle.moves.specs.Moving.{Moved}
use Rattle.moves.proofs.Moves.{moved_refl, moved_trans, went_trans}
use Rattle.moves.proofs.Dying.{died_fallen}
use Rattle.gather.specs.Gathering.{Gathering, AtRoot}
use Rattle.gather.proofs.Besides.{beside_went, sound_root, beside_sound}
use Rattle.undouble.specs.Doubling.{Once, Undoubled, DoublingAll, UndoubledAll, OpenRoot, DoublesOf, Doubling}
use Rattle.occurrences.specs.declared.Index.{Index}
use Rattle.tally.specs.declared.Tally.{Tally}
use Rattle.notes.specs.declared.Notes.{Notes}

-- what stands once in a wide clause does so after literals became false
once_falls : {f : Formula} {s u : State} → Falls f s u → (r : ℕ) → 0 < r → (c : Clause) → (Wide (standing s c) → mentions r (standing s c) ≤ 1) →
    Wide (standing u c) → mentions r (standing u c) ≤ 1
once_falls p r o c h w = omega (arith, falls_mentions p c r o, h (falls_wide p c w))

pub record Along (ix : Index) (st : Tally) (wk : Notes) (n r : ℕ) (st' : Tally) (wk' : Notes) (i : ℕ) : Type 0 where
  pub reached : i ≤ n
  pub path : Falls (formula_of ix) (state_in st) (state_in st')
  pub moved : Moved ix st wk st' wk'
  pub once : (j : ℕ) → j < i → Once ix st' r (get_or wk.gathered j 0)

module _ {ix : Index} {st : Tally} {wk : Notes} {n r : ℕ} (d : DoublingAll ix st wk n r) where
  pub along_begins : Along ix st wk n r st wk 0
  along_begins = record { reached = omega arith; path = still; moved = moved_refl d.sound; once = λ j h. absurd (omega arith) }

  module _ {st' : Tally} {wk' : Notes} {i : ℕ} (w : Along ix st wk n r st' wk' i) where
    pub along_ends : n ≤ i → UndoubledAll ix st wk n r st' wk' false
    along_ends h = record { fell = (w.path, w.moved); once = λ e g m. let k = w.once m.0 (omega (arith, m.2)) in rw m.3 at k }

    module _ (h : i < n) (g : ℕ) (is : g ≡ get_or wk'.gathered i 0) where
      it : g ≡ get_or wk.gathered i 0
      it = is ∙ ap (λ (l : List ℕ). get_or l i 0) w.moved.gathered

      pub along_asks : Doubling ix st' wk' g r
      along_asks = record { sound = w.moved.went.sound; clause = rw it (d.clauses i h); positive = d.positive; inside = d.inside }

      module _ {st'' : Tally} {wk'' : Notes} where
        pub along_dies : Undoubled ix st' wk' g r st'' wk'' true → UndoubledAll ix st wk n r st'' wk'' true
        along_dies u = record { fell = died_fallen w.path u.fell; once = λ e. absurd (true_not_false refl e) }

        pub along_goes : Undoubled ix st' wk' g r st'' wk'' false → Along ix st wk n r st'' wk'' (i + 1)
        along_goes u = record {
          reached = omega arith;
          path = falls_trans w.path u.fell.0;
          moved = moved_trans w.moved u.fell.1;
          once = λ j b. elim (dec_eq j i) [
            | yes e ↦ subst (Once ix st'' r) (it ∙ ap (λ (i : ℕ). get_or wk.gathered i 0) (sym e)) (u.once refl)
            | no e ↦ once_falls u.fell.0 r d.positive (clause_of ix (get_or wk.gathered j 0)) (w.once j (omega arith))
          ];
        }

pub doubles_gather : {ix : Index} {st : Tally} {wk : Notes} {r : ℕ} → OpenRoot ix st wk r → AtRoot ix st r
doubles_gather o = sound_root o.sound o.positive o.inside o.root

-- all clauses: those that were not gathered hold r nowhere
module _ {ix : Index} {st : Tally} {wk : Notes} {r : ℕ} (o : OpenRoot ix st wk r) {wk' : Notes} {n : ℕ} (k : Gathering ix st wk r wk' n) where
  pub doubles_all : DoublingAll ix st wk' n r
  doubles_all = record { sound = beside_sound o.sound k.beside; few = k.few; clauses = k.inside; positive = o.positive; inside = o.inside }

  pub doubles_done : (st'' : Tally) (wk'' : Notes) (b : Bool) → UndoubledAll ix st wk' n r st'' wk'' b → DoublesOf ix st wk r st'' wk'' b
  doubles_done st'' wk'' true u = u.fell
  doubles_done st'' wk'' false u = (
    u.fell.0,
    went_trans (beside_went o.sound k.beside) u.fell.1.went,
    λ g h w.
        elim (dec_lt 0 (mentions r (standing (state_in st) (clause_of ix g)))) [
          | yes m ↦ u.once refl g (k.all g h (falls_wide u.fell.0 (clause_of ix g) w) m) w
          | no m ↦ omega (arith, falls_mentions u.fell.0 (clause_of ix g) r o.positive)
        ],
  )
