-- A clause that is wide or not, by its count; one that is read where it is wide.
use mathlib.Core.Path.{◌≡◌, ap, sym, ◌∙◌}
use mathlib.Core.Bool.{Bool, true, false}
use mathlib.Core.List.{List}
use Prim.Native.Nat.{ℕ, ◌<◌}
use Rattle.general.specs.Booleans.{true_not_false}
use Rattle.theory.specs.Formula.{Clause}
use Rattle.theory.specs.State.{standing}
use Rattle.theory.proofs.Counts.{Distinct, Wide}
use Rattle.theory.proofs.DistinctBut.{DistinctBut, repeats_none}
use Rattle.occurrences.specs.Index.{Indexed, clause_count, clause_of, formula_of}
use Rattle.occurrences.proofs.Formulas.{mem_formula}
use Rattle.tally.specs.Tally.{state_in, count_in}
use Rattle.tally.specs.Counts.{Exact}
use Rattle.gather.specs.Gathering.{is_wide}
use Rattle.gather.proofs.Written.{wide_in, in_wide}
use Rattle.meet.specs.Meeting.{Readable, Meetable, MetBy, MetWide}
use Rattle.meet.specs.declared.Met.{Met}
use Rattle.meet.specs.declared.Met.TheVariants.{Common, Crossed}
use Rattle.std.specs.Prelude.{Option, None, Some}
use Rattle.occurrences.specs.declared.Index.{Index}
use Rattle.tally.specs.declared.Tally.{Tally}

-- by its count a clause is wide or not
module _ (ix : Index) (st : Tally) (index : Indexed ix) (exact : Exact ix st.values st.counts) (g : ℕ) (inside : g < clause_count ix) (k : ℕ) (n : Bool)
    (counts : k ≡ count_in st g) (tested : n ≡ is_wide k) where
  pub not_wide : n ≡ false → ¬ Wide (standing (state_in st) (clause_of ix g))
  not_wide z w = true_not_false (tested ∙ ap is_wide counts ∙ (wide_in index g inside st exact w).1) z

  pub is_wide_lem : n ≡ true → Wide (standing (state_in st) (clause_of ix g))
  is_wide_lem h = in_wide index g inside st exact (ap is_wide (sym counts) ∙ sym tested ∙ h)

pub distinct_in : (ix : Index) (st : Tally) → DistinctBut (λ p. ⊥) (formula_of ix) (state_in st) → (g : ℕ) → g < clause_count ix → Wide (standing (state_in st) (clause_of ix g)) →
    Distinct (standing (state_in st) (clause_of ix g))
distinct_in ix st d g h = repeats_none (d.by (clause_of ix g) (mem_formula ix g h))

-- a clause that is read where it is wide
met_wide : {d : Clause} (marks : List ℕ) (r : Option Met) → Wide d → MetBy d marks r → MetWide d marks r
met_wide marks None w m = λ v. m
met_wide marks (Some (Common x)) w m = (w, m)
met_wide marks (Some (Crossed low high)) w m = (w, m)

module _ {ix : Index} {st : Tally} {marks : List ℕ} {h : ℕ} (m : Meetable ix st marks h) {k : ℕ} {n : Bool} (counts : k ≡ count_in st h) (tested : n ≡ is_wide k) where
  pub met_apart : n ≡ false → MetWide (standing (state_in st) (clause_of ix h)) marks None
  met_apart z w = absurd (not_wide ix st m.index m.exact h m.inside _ _ counts tested z w)

  module _ (on : n ≡ true) where
    pub met_readable : Readable ix st h
    met_readable =
        let w = is_wide_lem ix st m.index m.exact h m.inside _ _ counts tested on in
        record { index = m.index; classes = m.classes; inside = m.inside; wide = w; distinct = m.distinct w }

    pub met_as : (r : Option Met) → MetBy (standing (state_in st) (clause_of ix h)) marks r → MetWide (standing (state_in st) (clause_of ix h)) marks r
    met_as r = met_wide marks r met_readable.wide
