-- An outcome that a match tells by its tag is none of the others.
use mathlib.Core.Path.{◌≡◌, refl, ap, sym, ◌∙◌}
use mathlib.Core.Logic.{◌⊎◌, ⊎_elim}
use mathlib.Core.List.{List}
use Prim.Native.Nat.{ℕ}
use denote.Enum.Declared.{tag_of, declared}
use lib.IntN.{ℤ}
use Rattle.literal.specs.declared.Literal.{Literal}
use Rattle.receipt.specs.contracts.Outcome.{enum}
use Rattle.receipt.specs.declared.Outcome.{Outcome}
use Rattle.receipt.specs.declared.Outcome.TheVariants.{LaidOut, NoLayout, Stopped}
use Rattle.memo.specs.declared.Memory.{Memory}
use Rattle.std.specs.Prelude.{Option}
use Rattle.walk.specs.Walk.{noted}
use Rattle.walk.specs.Learning.{LearnOf}

abbrev tag : Outcome → ℕ
tag = tag_of (declared enum)

-- neither of two tags
pub other_outcome : (o v : Outcome) (a b : ℕ) → (tag o ≡ a) ⊎ (tag o ≡ b) → ¬ (a ≡ tag v) → ¬ (b ≡ tag v) → ¬ (o ≡ v)
other_outcome o v a b h f g e = ⊎_elim (λ q. f (sym q ∙ ap tag e)) (λ q. g (sym q ∙ ap tag e)) h

pub noted_other : (o : Outcome) (d : ℕ) (x : Literal) (t : List ℤ) → ¬ (o ≡ LaidOut) → t ≡ noted o d x t
noted_other LaidOut d x t h = absurd (h refl)
noted_other NoLayout d x t h = refl
noted_other Stopped d x t h = refl

-- nothing is learned
pub learnt_other : (n c : ℕ) (m : Memory) (held : Option ℕ) (o : Outcome) → ¬ (o ≡ NoLayout) → LearnOf n c m m held o
learnt_other n c m held LaidOut h = refl
learnt_other n c m held NoLayout h = absurd (h refl)
learnt_other n c m held Stopped h = refl
