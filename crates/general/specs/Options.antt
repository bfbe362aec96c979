-- What it says that an alternative, a map or a chain of options is none, or some.
use Rattle.std.specs.Prelude.{◌≡◌, ◌⊎◌, Bool, true, false, cond, ℕ}
use Rattle.std.proofs.Math.Path.{refl, sym}
use Rattle.std.proofs.Math.Logic.{inl, inr}
use Rattle.std.specs.Prelude.{Option, None, Some, option_map, option_and_then}
use Rattle.std.specs.Option.{option_or}
use Rattle.std.proofs.lemmas.Option.{none-some}
use Rattle.std.proofs.Common.{arith}

module _ {A : Type 0} where
  pub some-ne-none : (a : A) → Some a ≡ None → ⊥
  some-ne-none a e = none-some a (sym e)

  pub or_else_none : (o p : Option A) → option_or o p ≡ None → (o ≡ None) × (p ≡ None)
  or_else_none None p e = (refl, e)
  or_else_none (Some a) p e = absurd (some-ne-none a e)

  pub or_else_some : (o p : Option A) (a : A) → option_or o p ≡ Some a → (o ≡ Some a) ⊎ (p ≡ Some a)
  or_else_some None p a e = inr e
  or_else_some (Some b) p a e = inl e

  pub cond_none : (b : Bool) (o : Option A) → cond b o None ≡ None → b ≡ true → o ≡ None
  cond_none true o e h = e
  cond_none false o e h = absurd (let z : ◌≡◌ {A = ℕ} 0 1 = cc in omega arith)

  pub cond_some : (b : Bool) (o : Option A) (a : A) → cond b o None ≡ Some a → (b ≡ true) × (o ≡ Some a)
  cond_some true o a e = (refl, e)
  cond_some false o a e = absurd (none-some a e)

module _ {A B : Type 0} where
  pub map_none : (f : A → B) (o : Option A) → option_map f o ≡ None → o ≡ None
  map_none f None e = refl
  map_none f (Some a) e = absurd (some-ne-none (f a) e)

  pub map_some : (f : A → B) (o : Option A) (b : B) → option_map f o ≡ Some b → (a : A) × (o ≡ Some a) × (f a ≡ b)
  map_some f None b e = absurd (none-some b e)
  map_some f (Some a) b e = (a, refl, cc)

  pub bind_none : (o : Option A) (g : A → Option B) (a : A) → option_and_then g o ≡ None → o ≡ Some a → g a ≡ None
  bind_none None g a e q = absurd (none-some a q)
  bind_none (Some c) g a e q = let p : c ≡ a = cc in rw p at e

  pub bind_some : (o : Option A) (g : A → Option B) (b : B) → option_and_then g o ≡ Some b → (a : A) × (o ≡ Some a) × (g a ≡ Some b)
  bind_some None g b e = absurd (none-some b e)
  bind_some (Some a) g b e = (a, refl, e)

-- an alternative is associative
pub or_else_assoc : {A : Type 0} (o p q : Option A) → option_or (option_or o p) q ≡ option_or o (option_or p q)
or_else_assoc None p q = refl
or_else_assoc (Some a) p q = refl
