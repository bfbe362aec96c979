-- The variable of an entry is its size.
use mathlib.Core.Path.{◌≡◌, refl}
use lib.IntN.{ℤ, negsuc, nat_abs, pos as posℤ}
use Rattle.literal.specs.Literal.{var, literal_of}

pub var_literal_of : (e : ℤ) → var (literal_of e) ≡ nat_abs e
var_literal_of (posℤ n) = refl
var_literal_of (negsuc n) = refl
