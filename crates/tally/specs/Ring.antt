-- The classes of variables as rings: from a root the links visit exactly its class and return.
use Rattle.std.specs.Prelude.{◌≡◌, List, [], ◌∷◌, ℕ, ◌*◌, ◌/◌, ◌≤◌, ◌<◌, eqb, get_or}
use Rattle.general.specs.Booleans.{bit}
use Rattle.general.specs.Times.{times}
use Rattle.literal.specs.Literal.{max_variables, codes}

-- from p the links visit l and then r
unfoldable pub Chain : List ℕ → ℕ → List ℕ → ℕ → Type 0
Chain link p [] r = get_or link p 0 ≡ r
Chain link p (q ∷ l) r = (get_or link p 0 ≡ q) × Chain link q l r

-- p and then l are what is still open of the class of r, each once, and the links visit them and return to r
pub record Arc (link values : List ℕ) (r p : ℕ) (l : List ℕ) : Type 0 where
  pub chain : Chain link p l r
  pub members : (q : ℕ) → times q (p ∷ l) ≡ bit (eqb (get_or values q 0 / 2) r)

-- the whole class
pub record Ring (link values : List ℕ) (r : ℕ) : Type 0 where
  pub others : List ℕ
  pub arc : Arc link values r r others

-- each variable stands for a literal of a root, the constant for itself, and each open root's class is a ring
pub record Classes (v link : List ℕ) : Type 0 where
  pub base : get_or v 0 0 ≡ 0
  pub range : (p : ℕ) → p ≤ max_variables → get_or v p 0 < codes
  pub rooted : (p : ℕ) → p ≤ max_variables → get_or v (get_or v p 0 / 2) 0 ≡ 2 * (get_or v p 0 / 2)
  pub rings : (r : ℕ) → 0 < r → get_or v r 0 ≡ 2 * r → Ring link v r
