-- Reading a clause against the marks of another: what holds at the loop's head, at the start, after a turn and at the end.
use mathlib.Core.Path.{◌≡◌, refl, ap, sym, ◌∙◌}
use mathlib.Core.Bool.{true, false, cond}
use mathlib.Core.Logic.{◌⊎◌, inl, inr, ◌≢◌, ⊎_elim}
use mathlib.Core.List.{List, [], ◌∷◌, Memᴰ}
use Prim.Native.Nat.{ℕ, ◌/◌, ◌<◌, ◌≤◌}
use native.Mathlib.Omega.{arith}
use borrow.Author.Tests.{eqb-true, eqb-false}
use lib.Dec.{eqb}
use lib.ListN.{get_or}
use Rattle.general.specs.Booleans.{bool_cases}
use Rattle.literal.specs.declared.Literal.{Literal}
use Rattle.literal.specs.Literal.{FALSE, var, opposite, code_of, literal_at}
use Rattle.literal.proofs.Codes.{code_of_injective, var_code, at_code}
use Rattle.theory.specs.Formula.{Clause}
use Rattle.theory.specs.State.{State, value, standing}
use Rattle.theory.proofs.Clauses.{mem_standing}
use Rattle.theory.proofs.Asks.{standing_no_false}
use Rattle.theory.proofs.Counts.{mentions, Distinct, Wide}
use Rattle.meet.specs.declared.Met.TheVariants.{Common, Crossed}
use Rattle.meet.specs.Meeting.{Like, Across, MetBy}
use Rattle.std.specs.Prelude.{None, Some}
use Rattle.meet.proofs.Clauses.{standing_cases, not_standing, mentions_rest, mentions_first, wide_open, code_high}

-- x is the code of a literal of d that is like its mark, or across it
pub record Shared (d : Clause) (marks : List ℕ) (x : ℕ) : Type 0 where
  pub opened : 1 < x
  pub stands : Memᴰ (literal_at x) d
  pub like : Like marks (literal_at x)

pub record Crossing (d : Clause) (marks : List ℕ) (x : ℕ) : Type 0 where
  pub opened : 1 < x
  pub stands : Memᴰ (literal_at x) d
  pub across : Across marks (literal_at x)

-- of the literals of c but those of the rest: the last that is like its mark, the last that is across it, and the last such one before that
pub record Meeting (s : State) (c rest : Clause) (marks : List ℕ) (common crossing again : ℕ) : Type 0 where
  pub part : (l : Literal) → Memᴰ l rest → Memᴰ l c
  pub once : Distinct (standing s rest)
  pub common_is : (common ≡ 0) ⊎ Shared (standing s c) marks common
  pub crossing_is : ((crossing ≡ 0) × (again ≡ 0)) ⊎ (Crossing (standing s c) marks crossing × (mentions (crossing / 2) (standing s rest) ≡ 0))
  pub again_is : (again ≡ 0) ⊎ (Crossing (standing s c) marks again × (again / 2 ≢ crossing / 2))
  pub no_common : common ≡ 0 → (y : Literal) → Memᴰ y (standing s c) → Like marks y → Memᴰ y (standing s rest)
  pub no_again : again ≡ 0 → (y : Literal) → Memᴰ y (standing s c) → Across marks y → (code_of y ≡ crossing) ⊎ Memᴰ y (standing s rest)

pub meeting_begins : (s : State) (c : Clause) (marks : List ℕ) → Distinct (standing s c) → Meeting s c c marks 0 0 0
meeting_begins s c marks k = record {
  part = λ l m. m;
  once = k;
  common_is = inl refl;
  crossing_is = inl (refl, refl);
  again_is = inl refl;
  no_common = λ z y m e. m;
  no_again = λ z y m e. inr m;
}

module _ (s : State) (c : Clause) (w : Wide (standing s c)) (marks : List ℕ) where
  opened : (y : Literal) → Memᴰ y (standing s c) → 0 < var y
  opened = wide_open (standing_no_false s c) w

  high : (y : Literal) → Memᴰ y (standing s c) → 1 < code_of y
  high y m = code_high y (opened y m)

  module _ {l : Literal} {rest : Clause} {common crossing again : ℕ} (o : Meeting s c (l ∷ rest) marks common crossing again) (unseen : get_or marks 0 0 ≡ 2)
      (x mark across : ℕ) (is : x ≡ code_of (value s l)) (marked : mark ≡ get_or marks (x / 2) 0) (turned : across ≡ code_of (opposite (literal_at x))) where
    literal : literal_at x ≡ value s l
    literal = at_code x (value s l) is

    at : x / 2 ≡ var (value s l)
    at = rw is (sym (var_code (value s l)))

    -- a false literal is neither like the mark nor across it
    stood : (mark ≡ x) ⊎ (mark ≡ across) → value s l ≢ FALSE
    stood e z = ⊎_elim (λ q. omega (arith, one, two)) (λ q. omega (arith, two, other)) e
      where
        one : x ≡ 1
        one = is ∙ ap code_of z

        two : mark ≡ 2
        two = marked ∙ ap (λ (k : ℕ). get_or marks (k / 2) 0) one ∙ unseen

        other : across ≡ 0
        other = turned ∙ ap (λ (y : Literal). code_of (opposite y)) (literal ∙ z)

    module _ (e : (mark ≡ x) ⊎ (mark ≡ across)) where
      member : Memᴰ (value s l) (standing s c)
      member = mem_standing s c l (o.part l (Memᴰ.head refl)) (stood e)

      x_open : 1 < x
      x_open = rw is (high (value s l) member)

    shared : mark ≡ x → Shared (standing s c) marks x
    shared e = record { opened = x_open (inl e); stands = rw literal (member (inl e)); like = rw literal (rw at at (sym marked) ∙ e ∙ is) }

    crossed : mark ≡ across → Crossing (standing s c) marks x
    crossed e = record {
      opened = x_open (inr e);
      stands = rw literal (member (inr e));
      across = rw literal (rw at at (sym marked) ∙ e ∙ turned ∙ ap (λ (y : Literal). code_of (opposite y)) literal);
    }

    -- a literal that stands in what is left, unless it is this one
    rest_like : (mark ≢ x) → (y : Literal) → Memᴰ y (standing s (l ∷ rest)) → Like marks y → Memᴰ y (standing s rest)
    rest_like n y m q = ⊎_elim
        (λ (e : y ≡ value s l). absurd (n (marked ∙ rw at (rw e at q) ∙ sym is)))
        (λ i. i)
        (standing_cases s l rest y m)

    rest_across : (mark ≢ across) → (y : Literal) → Memᴰ y (standing s (l ∷ rest)) → Across marks y → Memᴰ y (standing s rest)
    rest_across n y m q = ⊎_elim
        (λ (e : y ≡ value s l). absurd (n (marked ∙ rw at (rw e at q) ∙ sym (turned ∙ ap (λ (y : Literal). code_of (opposite y)) literal))))
        (λ i. i)
        (standing_cases s l rest y m)

    once_rest : Distinct (standing s rest)
    once_rest p b = omega (arith, o.once p b, mentions_rest s l rest p)

    -- what is common
    module _ (common' : ℕ) (picks : common' ≡ cond (eqb mark x) x common) where
      common_goes : (common' ≡ 0) ⊎ Shared (standing s c) marks common'
      common_goes = ⊎_elim
          (λ (e : eqb mark x ≡ true). let q : common' ≡ x = picks ∙ rw e in rw q (inr (shared (eqb-true mark x e))))
          (λ (e : eqb mark x ≡ false). let q : common' ≡ common = picks ∙ rw e in rw q o.common_is)
          (bool_cases (eqb mark x))

      no_common_goes : common' ≡ 0 → (y : Literal) → Memᴰ y (standing s c) → Like marks y → Memᴰ y (standing s rest)
      no_common_goes z y m i = ⊎_elim
          (λ (e : eqb mark x ≡ true). let q : common' ≡ x = picks ∙ rw e in absurd (omega (arith, x_open (inl (eqb-true mark x e)))))
          (λ (e : eqb mark x ≡ false).
          let q : common' ≡ common = picks ∙ rw e in
          rest_like (eqb-false mark x e) y (o.no_common (sym q ∙ z) y m i) i)
          (bool_cases (eqb mark x))

    -- what crosses
    module _ (again' crossing' : ℕ) (before : again' ≡ cond (eqb mark across) crossing again) (last : crossing' ≡ cond (eqb mark across) x crossing) where
      module _ (e : eqb mark across ≡ true) where
        here : mark ≡ across
        here = eqb-true mark across e

        again_taken : again' ≡ crossing
        again_taken = before ∙ rw e

        crossing_taken : crossing' ≡ x
        crossing_taken = last ∙ rw e

      module _ (e : eqb mark across ≡ false) where
        again_kept : again' ≡ again
        again_kept = before ∙ rw e

        crossing_kept : crossing' ≡ crossing
        crossing_kept = last ∙ rw e

      crossing_goes : ((crossing' ≡ 0) × (again' ≡ 0)) ⊎ (Crossing (standing s c) marks crossing' × (mentions (crossing' / 2) (standing s rest) ≡ 0))
      crossing_goes = ⊎_elim
          (λ (e : eqb mark across ≡ true). inr (rw (crossing_taken e) (
            crossed (here e),
            rw at (omega (arith, o.once (var (value s l)) (opened (value s l) (member (inr (here e)))), mentions_first s l rest (stood (inr (here e))))),
          )))
          (λ (e : eqb mark across ≡ false). rw (crossing_kept e, again_kept e) (⊎_elim inl
          (λ (k : Crossing (standing s c) marks crossing × (mentions (crossing / 2) (standing s (l ∷ rest)) ≡ 0)).
          inr (k.0, omega (arith, k.1, mentions_rest s l rest (crossing / 2))))
          o.crossing_is))
          (bool_cases (eqb mark across))

      again_goes : (again' ≡ 0) ⊎ (Crossing (standing s c) marks again' × (again' / 2 ≢ crossing' / 2))
      again_goes = ⊎_elim
          (λ (e : eqb mark across ≡ true). rw (again_taken e, crossing_taken e) (⊎_elim
          (λ (z : (crossing ≡ 0) × (again ≡ 0)). inl z.0)
          (λ (k : Crossing (standing s c) marks crossing × (mentions (crossing / 2) (standing s (l ∷ rest)) ≡ 0)). inr (
            k.0,
            λ q.
                omega (arith, mentions_first s l rest (stood (inr (here e))), ap (λ (p : ℕ). mentions p (standing s (l ∷ rest))) (q ∙ at), k.1),
          ))
          o.crossing_is))
          (λ (e : eqb mark across ≡ false). rw (again_kept e, crossing_kept e) o.again_is)
          (bool_cases (eqb mark across))

      no_again_goes : again' ≡ 0 → (y : Literal) → Memᴰ y (standing s c) → Across marks y → (code_of y ≡ crossing') ⊎ Memᴰ y (standing s rest)
      no_again_goes z y m i = ⊎_elim
          (λ (e : eqb mark across ≡ true).
          let c0 : crossing ≡ 0 = sym (again_taken e) ∙ z in
          let a0 : again ≡ 0 = ⊎_elim (λ (k : (crossing ≡ 0) × (again ≡ 0)). k.1) (λ k. absurd (omega (arith, k.0.opened))) o.crossing_is in
          ⊎_elim
          (λ q. absurd (omega (arith, high y m)))
          (λ n. ⊎_elim (λ (q : y ≡ value s l). inl (ap code_of q ∙ sym is ∙ sym (crossing_taken e))) inr (standing_cases s l rest y n))
          (o.no_again a0 y m i))
          (λ (e : eqb mark across ≡ false).
          ⊎_elim (λ q. inl (q ∙ sym (crossing_kept e))) (λ n. inr (rest_across (eqb-false mark across e) y n i)) (o.no_again (sym (again_kept e) ∙ z) y m i))
          (bool_cases (eqb mark across))

    pub meeting_goes : (common' again' crossing' : ℕ) → common' ≡ cond (eqb mark x) x common → again' ≡ cond (eqb mark across) crossing again →
        crossing' ≡ cond (eqb mark across) x crossing → Meeting s c rest marks common' crossing' again'
    meeting_goes common' again' crossing' p q r = record {
      part = λ y m. o.part y (Memᴰ.tail m);
      once = once_rest;
      common_is = common_goes common' p;
      crossing_is = crossing_goes again' crossing' q r;
      again_is = again_goes again' crossing' q r;
      no_common = no_common_goes common' p;
      no_again = no_again_goes again' crossing' q r;
    }

  -- at the end
  module _ {common crossing again : ℕ} (o : Meeting s c [] marks common crossing again) where
    crosses : crossing ≢ 0 → Crossing (standing s c) marks crossing
    crosses n = ⊎_elim (λ z. absurd (n z.0)) (λ k. k.0) o.crossing_is

    -- all that crosses is the last that did
    one_crosses : again ≡ 0 → (y : Literal) → Memᴰ y (standing s c) → Across marks y → code_of y ≡ crossing
    one_crosses z y m i = ⊎_elim (λ q. q) (λ n. absurd (not_standing s y n)) (o.no_again z y m i)

    pub none_crosses : crossing ≡ 0 → MetBy (standing s c) marks None
    none_crosses z x y mx my i j =
        let a : again ≡ 0 = ⊎_elim (λ (k : (crossing ≡ 0) × (again ≡ 0)). k.1) (λ k. absurd (omega (arith, k.0.opened))) o.crossing_is in
        absurd (omega (arith, one_crosses a y my j, high y my))

    pub one_alone : common ≡ 0 → again ≡ 0 → MetBy (standing s c) marks None
    one_alone z a x y mx my i j = ⊎_elim
        (λ k. absurd (not_standing s x (o.no_common z x mx k)))
        (λ k. ap var (code_of_injective x y (one_crosses a x mx k ∙ sym (one_crosses a y my j))))
        i

    pub has_common : crossing ≢ 0 → common ≢ 0 → MetBy (standing s c) marks (Some (Common common))
    has_common n m = ⊎_elim
        (λ z. absurd (m z))
        (λ (k : Shared (standing s c) marks common). let q = crosses n in (k.opened, k.stands, k.like, (literal_at crossing, q.stands, q.across)))
        o.common_is

    two_cross : crossing ≢ 0 → again ≢ 0 → Crossing (standing s c) marks crossing × Crossing (standing s c) marks again × (again / 2 ≢ crossing / 2)
    two_cross n m = ⊎_elim (λ z. absurd (m z)) (λ k. (crosses n, k.0, k.1)) o.again_is

    pub crossed_up : crossing ≢ 0 → again ≢ 0 → crossing < again → MetBy (standing s c) marks (Some (Crossed crossing again))
    crossed_up n m l = let k = two_cross n m in
        (k.0.opened, omega (arith, k.2), (k.0.stands, k.0.across), (k.1.stands, k.1.across))

    pub crossed_down : crossing ≢ 0 → again ≢ 0 → again ≤ crossing → MetBy (standing s c) marks (Some (Crossed again crossing))
    crossed_down n m l = let k = two_cross n m in
        (k.1.opened, omega (arith, k.2), (k.1.stands, k.1.across), (k.0.stands, k.0.across))
