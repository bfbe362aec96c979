-- Two wide clauses as they stand: one is marked by variable, and the other is read against the marks.
use Rattle.std.specs.Prelude.{◌≡◌, ◌⊎◌, ℕ, ◌/◌, ◌<◌, get_or, Option, None, Some}
use mathlib.Core.List.{List, Memᴰ}
use Rattle.literal.specs.declared.Literal.{Literal}
use Rattle.literal.specs.Literal.{var, opposite, code_of, literal_at}
use Rattle.theory.specs.Formula.{Clause}
use Rattle.theory.specs.State.{standing}
use Rattle.theory.proofs.Counts.{Distinct, Wide}
use Rattle.occurrences.specs.Index.{Indexed, clause_count, clause_of}
use Rattle.tally.specs.Tally.{state_in}
use Rattle.tally.specs.Ring.{Classes}
use Rattle.tally.specs.Counts.{Exact}
use Rattle.meet.specs.declared.Met.{Met}
use Rattle.meet.specs.declared.Met.TheVariants.{Common, Crossed}
use Rattle.occurrences.specs.declared.Index.{Index}
use Rattle.tally.specs.declared.Tally.{Tally}

-- clause g is wide, and no variable stands in it twice
pub record Readable (ix : Index) (st : Tally) (g : ℕ) : Type 0 where
  pub index : Indexed ix
  pub classes : Classes st.values st.links
  pub inside : g < clause_count ix
  pub wide : Wide (standing (state_in st) (clause_of ix g))
  pub distinct : Distinct (standing (state_in st) (clause_of ix g))

-- the marks have each literal of d at its variable, nothing else, and at the constant what is no literal of it
pub record Marked (d : Clause) (marks : List ℕ) : Type 0 where
  pub unseen : get_or marks 0 0 ≡ 2
  pub all : (y : Literal) → Memᴰ y d → get_or marks (var y) 0 ≡ code_of y
  pub only : (p : ℕ) → 0 < p → 0 < get_or marks p 0 → Memᴰ (literal_at (get_or marks p 0)) d

-- a literal, or its opposite, is marked
abbrev pub Like : List ℕ → Literal → Type 0
Like marks y = get_or marks (var y) 0 ≡ code_of y

abbrev pub Across : List ℕ → Literal → Type 0
Across marks y = get_or marks (var y) 0 ≡ code_of (opposite y)

-- the literal with code x stands in d, and its opposite is marked
abbrev pub Crosses : Clause → List ℕ → ℕ → Type 0
Crosses d marks x = Memᴰ (literal_at x) d × Across marks (literal_at x)

-- a common literal and one that crosses, or two that cross; or neither
abbrev pub MetBy : Clause → List ℕ → Option Met → Type 0
MetBy d marks None = (x y : Literal) → Memᴰ x d → Memᴰ y d → Like marks x ⊎ Across marks x → Across marks y → var x ≡ var y
MetBy d marks (Some (Common x)) = (1 < x) × Memᴰ (literal_at x) d × Like marks (literal_at x) × ((y : Literal) × Memᴰ y d × Across marks y)
MetBy d marks (Some (Crossed low high)) = (1 < low) × (low / 2 < high / 2) × Crosses d marks low × Crosses d marks high

-- clause h, if it is wide
pub record Meetable (ix : Index) (st : Tally) (marks : List ℕ) (h : ℕ) : Type 0 where
  pub index : Indexed ix
  pub exact : Exact ix st.values st.counts
  pub classes : Classes st.values st.links
  pub inside : h < clause_count ix
  pub distinct : Wide (standing (state_in st) (clause_of ix h)) → Distinct (standing (state_in st) (clause_of ix h))
  pub unseen : get_or marks 0 0 ≡ 2

abbrev pub MetWide : Clause → List ℕ → Option Met → Type 0
MetWide d marks None = Wide d → MetBy d marks None
MetWide d marks (Some (Common x)) = Wide d × MetBy d marks (Some (Common x))
MetWide d marks (Some (Crossed low high)) = Wide d × MetBy d marks (Some (Crossed low high))
