-- Stamps for the clauses of a variable, by its occurrences, and of a class, along its ring.
use mathlib.Core.Path.{◌≡◌, ◌∙◌}
use mathlib.Core.Logic.{◌≢◌}
use mathlib.Core.List.{List, ◌∷◌}
use Prim.Native.Nat.{ℕ, ◌+◌, ◌-◌, ◌/◌, ◌≤◌, ◌<◌}
use native.Mathlib.Decide.{ℕ_discrete as dec_eq}
use native.Mathlib.Omega.{arith}
use lib.ListN.{get_or, set, replicate, length}
use lib.Seq.{get_or-set_same, get_or-set_other}
use Rattle.literal.specs.Literal.{max_variables, max_clauses}
use Rattle.theory.proofs.Counts.{Holds}
use Rattle.occurrences.specs.Index.{Indexed, clause_of, first_at, occurrences}
use Rattle.occurrences.proofs.Slices.{occurrences_long, occurrence_there, occurrence_known}
use Rattle.tally.specs.Tally.{link_in}
use Rattle.gather.specs.Gathering.{AtRoot, WideIn}
use Rattle.gather.proofs.Placed.{holds_placed}
use Rattle.gather.proofs.Along.{Along, along_begins, along_goes, along_ends}
use Rattle.gather.proofs.Gathers.{ring, root_stretch, mentioned}
use mathlib.Core.Bool.{Bool, true, false}
use Rattle.tie.specs.Keeping.{Stamped, StampedBy, StampedAll}
use Rattle.occurrences.specs.declared.Index.{Index}
use Rattle.tally.specs.declared.Tally.{Tally}

stamp_kept : (stamps : List Bool) (k : ℕ) → k < length stamps → (g : ℕ) → Stamped stamps g → Stamped (set stamps k true) g
stamp_kept stamps k h g s = elim (dec_eq g k) [
  | yes e ↦ rw e (get_or-set_same stamps k true false h)
  | no e ↦ get_or-set_other stamps k g true false e ∙ s
]

-- a variable: the clauses of its first k occurrences are stamped
pub record Stamping (ix : Index) (stamps : List Bool) (p : ℕ) (stamps' : List Bool) (k : ℕ) : Type 0 where
  pub kept : (g : ℕ) → Stamped stamps g → Stamped stamps' g
  pub done : (i : ℕ) → i < k → Stamped stamps' (get_or (occurrences ix p) i 0 / 2)

pub stamping_begins : {ix : Index} {stamps : List Bool} {p : ℕ} → Stamping ix stamps p stamps 0
stamping_begins = record { kept = λ g d. d; done = λ i h. absurd (omega arith) }

module _ {ix : Index} (index : Indexed ix) {p : ℕ} (inside : p ≤ max_variables) {os : List ℕ} (are : os ≡ occurrences ix p) where
  pub stamping_clause : (k : ℕ) → k < length os → get_or os k 0 / 2 < max_clauses
  stamping_clause k more = omega (arith, occurrence_known index p inside os are k more, index.few)

  module _ {stamps stamps' : List Bool} {k : ℕ} (o : Stamping ix stamps p stamps' k) where
    pub stamping_goes : k < length os → length stamps' ≡ max_clauses → Stamping ix stamps p (set stamps' (get_or os k 0 / 2) true) (k + 1)
    stamping_goes more long =
        let b : get_or os k 0 / 2 < length stamps' = omega (arith, stamping_clause k more) in
        record {
          kept = λ g d. stamp_kept stamps' (get_or os k 0 / 2) b g (o.kept g d);
          done = λ i h. elim (dec_eq i k) [
            | yes e ↦ rw (e, ← are) (get_or-set_same stamps' (get_or os k 0 / 2) true false b)
            | no e ↦ stamp_kept stamps' (get_or os k 0 / 2) b (get_or (occurrences ix p) i 0 / 2) (o.done i (omega arith))
          ];
        }

    pub stamping_ends : length os ≤ k → StampedBy ix stamps p stamps'
    stamping_ends h = record {
      kept = o.kept;
      all = λ g b m.
          let i = holds_placed index p g b m in
          let n : i.0 - first_at ix p < length os = omega (arith, i.1, i.2, occurrences_long ix p os are) in
          let e : first_at ix p + (i.0 - first_at ix p) ≡ i.0 = omega (arith, i.1) in
          let q : get_or (occurrences ix p) (i.0 - first_at ix p) 0 / 2 ≡ g = rw (← are, occurrence_there ix p os are (i.0 - first_at ix p) n, e) i.3 in
          rw q at (o.done (i.0 - first_at ix p) (omega arith));
    }

pub ruleset stamping_laws = (stamping_begins, stamping_clause, stamping_goes, stamping_ends)

-- a class: the clauses of the variables that were visited are stamped
pub record StampsAlong (ix : Index) (st : Tally) (r : ℕ) (stamps : List Bool) (p : ℕ) : Type 0 where
  pub at_root : AtRoot ix st r
  pub along : Along ix st (Stamped stamps) (r ∷ (ring at_root).others) p r

pub stamps_begin : {ix : Index} {st : Tally} {r : ℕ} → AtRoot ix st r → {p : ℕ} → p ≡ link_in st r → StampsAlong ix st r (replicate max_clauses false) p
stamps_begin a e = record {
  at_root = a;
  along = along_begins (rw e (root_stretch a));
}

module _ {ix : Index} {st : Tally} {r : ℕ} {stamps : List Bool} {p : ℕ} (o : StampsAlong ix st r stamps p) {stamps' : List Bool} (s : StampedBy ix stamps p stamps') where
  fresh : (g : ℕ) → WideIn ix st g → Holds p (clause_of ix g) → Stamped stamps' g
  fresh g w = s.all g w.0

  pub stamps_go : p ≢ r → {n : ℕ} → n ≡ link_in st p → StampsAlong ix st r stamps' n
  stamps_go on {n} next = record { at_root = o.at_root; along = along_goes o.along on n next s.kept fresh }

  pub stamps_end : p ≡ r → StampedAll ix st r stamps'
  stamps_end back = record { all = λ g k. mentioned o.at_root (along_ends o.along back s.kept fresh) g k.0 k.1 k.2 }
