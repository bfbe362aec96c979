-- The loops over a text: what is left from an index on gives the whole.
use mathlib.Core.Path.{◌≡◌, refl, ap, sym}
use mathlib.Core.Bool.{Bool, true, false, not, ◌&&◌, cond}
use mathlib.Core.List.{List, [], ◌∷◌}
use Rattle.std.specs.Prelude.{Option, None, Some, Ok}
use Prim.Native.Nat.{ℕ, suc, ◌+◌, ◌-◌, ◌<◌, ◌≤◌}
use native.Mathlib.Numerals.{add-one}
use native.Mathlib.Omega.{arith}
use borrow.Author.Tests.{leb-true, le-leb, lt-leb, lt-ltb, le-ltb, eqb-false}
use lib.Dec.{eqb, leb, ltb}
use lib.IntN.{ℤ}
use lib.ListN.{length, get_or, drop, drop_of_length-le, length-drop}
use lib.Seq.{drop-cons}
use Rattle.std.specs.List.{prefix_len}
use Rattle.std.proofs.lemmas.List.Recursion.{same_from_clauses}
use Rattle.general.specs.Booleans.{and_true}
use Rattle.general.specs.Parts.{part}
use Rattle.scan.specs.declared.Word.{Word}
use Rattle.scan.specs.Scan.{is_blank, is_digit, with_digit, value_from, natural, integer_of, leading, word_start, word_end, word_of, there, word_at}

-- the bytes at the front that pass a test -----------------------------------------------------------------------------

suc-is : (n : ℕ) → suc n ≡ 1 + n
suc-is n = omega arith

module _ (test : ℕ → Bool) where
  leading_length : (s : List ℕ) → leading test s ≤ length s
  unfolding leading
  leading_length [] = omega arith
  leading_length (b ∷ s) = go (test b) (leading_length s)
    where
      go : (c : Bool) → leading test s ≤ length s → cond c (suc (leading test s)) 0 ≤ suc (length s)
      go true h = omega arith
      go false h = omega arith

  -- as the library counts them
  pub leading_is : (s : List ℕ) → leading test s ≡ prefix_len test s
  unfolding leading
  leading_is s = same_from_clauses (leading test) (prefix_len test) (λ b n. cond (test b) (1 + n) 0) refl (λ b l. ap (λ n. cond (test b) n 0) (suc-is (leading test l))) (λ b l. refl) s

-- digits --------------------------------------------------------------------------------------------------------------

-- a digit is a byte from 48 to 57
pub digit_bounds : (b : ℕ) → is_digit b ≡ true → (48 ≤ b) × (b ≤ 57)
digit_bounds b e = let k = and_true (leb 48 b) (leb b 57) e in (leb-true 48 b k.0, leb-true b 57 k.1)

-- a value is there where a test passes
when_some : {A : Type 0} (b : Bool) (o : Option A) (a : A) → cond b o None ≡ Some a → (b ≡ true) × (o ≡ Some a)
when_some true o a e = (refl, e)
when_some false o a e = cc

module _ (limit : ℕ) where
  value_limit : (v : ℕ) (w : List ℕ) (u : ℕ) → v ≤ limit → value_from limit v w ≡ Some u → u ≤ limit
  unfolding value_from
  value_limit v [] u h e = let q : v ≡ u = cc in omega arith
  value_limit v (b ∷ w) u h e =
      let k = when_some (is_digit b && leb (with_digit v b) limit) _ u e in
      value_limit (with_digit v b) w u (leb-true _ limit (and_true (is_digit b) _ k.0).1) k.1

  pub natural_limit : (w : List ℕ) (u : ℕ) → Some u ≡ natural limit w → u ≤ limit
  natural_limit w u e = value_limit 0 w u (omega arith) (when_some (ltb 0 (length w)) _ u (sym e)).1

  module _ (w : List ℕ) where
    -- the value v of the digits before index i: those from there on give the value of all
    pub record Valued (v i : ℕ) : Type 0 where
      pub within : v ≤ limit
      pub rest : value_from limit v (drop i w) ≡ natural limit w

    pub no_digits : length w ≡ 0 → None ≡ natural limit w
    no_digits h = rw (le-ltb 0 (length w) (omega arith))

    pub valued_begun : (length w ≡ 0 → ⊥) → Valued 0 0
    valued_begun h = record { within = omega arith; rest = rw (lt-ltb 0 (length w) (omega arith)) }

    module _ {v i : ℕ} (a : Valued v i) where
      pub valued_ended : length w ≤ i → Some v ≡ natural limit w
      unfolding value_from
      valued_ended h = rw (drop_of_length-le w h) at a.rest

      module _ (h : i < length w) where
        pub no_digit : is_digit (get_or w i 0) ≡ false → None ≡ natural limit w
        unfolding value_from
        no_digit e = rw (drop-cons w i 0 h, e) at a.rest

        module _ (e : is_digit (get_or w i 0) ≡ true) where
          pub past_limit : limit < with_digit v (get_or w i 0) → None ≡ natural limit w
          unfolding value_from
          past_limit l = rw (drop-cons w i 0 h, e, lt-leb (with_digit v (get_or w i 0)) limit l) at a.rest

          pub valued_more : with_digit v (get_or w i 0) ≤ limit → Valued (with_digit v (get_or w i 0)) (i + 1)
          unfolding value_from
          valued_more l = record { within = l; rest = rw add-one (rw (drop-cons w i 0 h, e, le-leb (with_digit v (get_or w i 0)) limit l) at a.rest) }

-- words ---------------------------------------------------------------------------------------------------------------

-- a word that is there ends after its start, and within the text
pub word_inside : (s : List ℕ) (a e : ℕ) → e ≡ word_end s a → (a ≡ e → ⊥) → (a < e) × (e ≤ length s)
word_inside s a e q h =
    let l = leading_length (λ b. not (is_blank b)) (drop a s) in
    (omega arith, omega (arith, length-drop a s))

pub number_inside : (s : List ℕ) (i : ℕ) (w : Word) → Ok (Some w) ≡ word_at s i → (i < w.end) × (w.end ≤ length s)
unfolding word_at
number_inside s i w e = go (eqb a z) refl (integer_of (part a (z - a) s)) e
  where
    a : ℕ
    a = word_start s i

    z : ℕ
    z = word_end s a

    go : (b : Bool) → eqb a z ≡ b → (o : Option ℤ) → Ok (Some w) ≡ cond b (Ok None) (there (word_of a z o)) → (i < w.end) × (w.end ≤ length s)
    go true q o r = cc
    go false q None r = cc
    go false q (Some u) r =
        let n : w.end ≡ z = cc in
        let k = word_inside s a z refl (eqb-false a z q) in
        (omega (arith, k.0), omega (arith, k.1))
