-- The value is within the limit, so that with its sign it has 16 bits.
use Rattle.std.proofs.Common.{◌≡◌, refl, ap, sym, ◌∙◌, Bool, true, false, ◌&&◌, eqb, List, [], ◌∷◌, ℕ, pos, get_or, take, Some, arith}
use lib.Pointwise.{pointwise}
use mir.Syntax.{w16}
use mir.ValLaws.{to_z_pos}
use Rattle.scan.specs.Scan.{natural, most, most_negative, integer_of, word_of}
use Rattle.scan.proofs.Words.{natural_limit}
use Rattle.scan.proofs.word_of.Goals as goal

no_minus : (w : List ℕ) → pointwise eqb (take 1 w) (45 ∷ []) ≡ false → eqb (get_or w 0 0) 45 ≡ false
no_minus [] e = refl
no_minus (b ∷ w) e = go (eqb b 45) e
  where
    go : (t : Bool) → (t && true) ≡ false → t ≡ false
    go true h = h
    go false h = refl

plain : (w : List ℕ) (u : ℕ) → eqb (get_or w 0 0) 45 ≡ false → Some u ≡ natural most w → Some (pos u) ≡ integer_of w
plain w u m e = rw (m, ← e)

pub negated-number-requires : goal.negated-number-requires
negated-number-requires c = natural_limit most_negative _ _ (sym c.in_ok-ok_or-in-Some.ensures.ok_part ∙ c.value_of.ensures)

pub overflow_cast-number : goal.overflow_cast-number
overflow_cast-number c = record { sfits = omega (arith, natural_limit most _ _ (sym c.in_ok-number-in-None.ensures.ok_part ∙ c.value_of-in-None.ensures)) }

pub returns-in_ok-number-in-None : goal.returns-in_ok-number-in-None
returns-in_ok-number-in-None c =
    let v = c.in_ok-number-in-None.field-0 in
    let w = c.args.word.now in
    let e : Some v ≡ natural most w = sym c.in_ok-number-in-None.ensures.ok_part ∙ c.value_of-in-None.ensures in
    rw (to_z_pos w16 v (omega (arith, natural_limit most w v e))) (ap (word_of c.args.start c.args.end) (plain w v (no_minus w c.in-None.ensures.cases) e))
