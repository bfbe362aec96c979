-- A walk along a stretch: the wide clauses of the variables that it has passed are done.
use mathlib.Core.Path.{◌≡◌, ap}
use mathlib.Core.Logic.{◌≢◌, ⊎_elim}
use mathlib.Core.List.{List, ◌∷◌}
use Prim.Native.Nat.{ℕ, ◌≤◌, ◌<◌}
use native.Mathlib.Omega.{arith}
use lib.ListN.{length}
use Rattle.general.specs.Times.{times}
use Rattle.general.specs.Repeats.{times_cons}
use Rattle.literal.specs.Literal.{max_variables, variables}
use Rattle.theory.proofs.Counts.{Holds}
use Rattle.occurrences.specs.Index.{clause_of}
use Rattle.tally.specs.Tally.{link_in}
use Rattle.tally.specs.Stretch.{Stretch, Reaches, Passed, far}
use Rattle.tally.proofs.Stretches.{stretch_long, stretch_first, stretch_goes, far_stretch}
use Rattle.tally.proofs.Blocks.{passed_begins, passed_goes, passed_ends}
use Rattle.gather.specs.Gathering.{WideIn}
use Rattle.occurrences.specs.declared.Index.{Index}
use Rattle.tally.specs.declared.Tally.{Tally}

-- of the variables of l, rest and then e are still to be visited, of which p is the first
pub record Along (ix : Index) (st : Tally) (Done : ℕ → Type 0) (l : List ℕ) (p e : ℕ) : Type 0 where
  pub rest : List ℕ
  pub left : Stretch st.links st.values p e rest
  pub among : (q : ℕ) → 0 < times q (e ∷ rest) → 0 < times q l
  pub done : (g : ℕ) → WideIn ix st g → Passed l (e ∷ rest) (clause_of ix g) → Done g

unfoldable pub along_begins : {ix : Index} {st : Tally} {Done : ℕ → Type 0} {l : List ℕ} {p e : ℕ} → Stretch st.links st.values p e l → Along ix st Done (e ∷ l) p e
along_begins {ix} {l = l} {e = e} s = record { rest = l; left = s; among = λ q h. h; done = λ g w k. absurd (passed_begins (e ∷ l) (clause_of ix g) k) }

module _ {ix : Index} {st : Tally} {Done : ℕ → Type 0} {l : List ℕ} {p e : ℕ} (o : Along ix st Done l p e) where
  pub along_known : p ≤ max_variables
  along_known = o.left.inside p (stretch_first o.left)

  pub along_among : 0 < times p l
  along_among = o.among p (stretch_first o.left)

  -- on to the next
  module _ (on : p ≢ e) (n : ℕ) (next : n ≡ link_in st p) where
    unfoldable pub along_goes : {Now : ℕ → Type 0} → ((g : ℕ) → Done g → Now g) → ((g : ℕ) → WideIn ix st g → Holds p (clause_of ix g) → Now g) → Along ix st Now l n e
    along_goes keeps fresh =
        let w = stretch_goes o.left on in
        record {
          rest = w.0;
          left = rw next w.2;
          among = λ q h. o.among q (rw w.1 (omega (arith, h, times_cons q e w.0, times_cons q e (p ∷ w.0), times_cons q p w.0)));
          done = λ g i k. ⊎_elim (λ j. keeps g (o.done g i j)) (fresh g i) (passed_goes o.left l (clause_of ix g) on k);
        }

    pub along_falls : far st.links e variables n < far st.links e variables p
    along_falls =
        let w = stretch_goes o.left on in
        rw next (omega (
          arith,
          far_stretch o.left variables (omega (arith, stretch_long o.left)),
          far_stretch w.2 variables (omega (arith, stretch_long w.2)),
          ap length w.1,
        ))

  -- at its end all that it reaches is
  pub along_ends : p ≡ e → {Now : ℕ → Type 0} → ((g : ℕ) → Done g → Now g) → ((g : ℕ) → WideIn ix st g → Holds p (clause_of ix g) → Now g) →
      (g : ℕ) → WideIn ix st g → Reaches l (clause_of ix g) → Now g
  along_ends i keeps fresh g w k = ⊎_elim (λ j. keeps g (o.done g w j)) (fresh g w) (passed_ends o.left l (clause_of ix g) i k)
