-- Rule 7 in one pass over a clause, against the marks of another that were made before it: what is read and marked falls.
use mathlib.Core.Path.{◌≡◌, ap, sym, ◌∙◌}
use mathlib.Core.Logic.{◌⊎◌, ⊎_elim}
use mathlib.Core.List.{List, ◌∷◌, Memᴰ}
use Prim.Native.Nat.{ℕ, ◌*◌, ◌/◌, ◌<◌}
use native.Mathlib.Decide.{dec_lt}
use native.Mathlib.Omega.{arith}
use lib.ListN.{get_or}
use Rattle.general.specs.Lists.{Before}
use Rattle.literal.specs.declared.Literal.{Literal}
use Rattle.literal.specs.Literal.{FALSE, var, code_of, literal_at, codes}
use Rattle.literal.proofs.Codes.{literal_at_code_of, var_at, var_code}
use Rattle.theory.specs.Formula.{Clause}
use Rattle.theory.specs.State.{State, value, assign, standing}
use Rattle.theory.proofs.Clauses.{mem_standing}
use Rattle.theory.proofs.Asks.{Asks}
use Rattle.theory.proofs.Looks.{Passing, pass_asks, pass_goes}
use Rattle.occurrences.specs.Index.{Indexed, clause_count, clause_of, formula_of}
use Rattle.tally.specs.Tally.{state_in, value_in}
use Rattle.tally.specs.Ring.{Classes}
use Rattle.meet.specs.Meeting.{Marked, Like}
use Rattle.meet.proofs.Clauses.{standing_cases, code_high}
use Rattle.meet.proofs.Matched.{code_root}
use Rattle.occurrences.specs.declared.Index.{Index}
use Rattle.tally.specs.declared.Tally.{Tally}

-- some rule asks that the literal of an open root with code x becomes false
pub record Falling (ix : Index) (st : Tally) (x : ℕ) : Type 0 where
  pub opened : 1 < x
  pub below : x < codes
  pub root : value_in st (x / 2) ≡ 2 * (x / 2)
  pub asked : Asks (formula_of ix) (state_in st) (literal_at x) FALSE

-- a literal that is marked is open, and stands in the marked clause
module _ {d : Clause} {marks : List ℕ} (m : Marked d marks) (y : Literal) (like : Like marks y) where
  like_open : 0 < var y
  like_open = elim (dec_lt 0 (var y)) [
    | yes h ↦ h
    | no h ↦ absurd (let z : var y ≡ 0 = omega arith in omega (arith, rw z at like, m.unseen, var_code y))
  ]

  like_stands : Memᴰ y d
  like_stands = rw (like, literal_at_code_of y) at (m.only (var y) like_open (omega (arith, like, code_high y like_open)))

-- v is the value of a literal of h, and marked
module _ (ix : Index) (st st' : Tally) (index : Indexed ix) (classes : Classes st'.values st'.links) (g h : ℕ) (inside : h < clause_count ix)
    (b : Before (clause_of ix g) (clause_of ix h) (formula_of ix) ⊎ Before (clause_of ix h) (clause_of ix g) (formula_of ix)) {y : Literal} {marks : List ℕ}
    (m : Marked (standing (state_in st) (clause_of ix g)) marks) (o : Passing (formula_of ix) (state_in st) (state_in st') (clause_of ix g) (clause_of ix h) y) (l : Literal)
    (member : Memᴰ l (clause_of ix h)) (v : ℕ) (is : v ≡ code_of (value (state_in st') l)) (same : get_or marks (v / 2) 0 ≡ v) where
  literal : literal_at v ≡ value (state_in st') l
  literal = ap literal_at is ∙ literal_at_code_of (value (state_in st') l)

  like : Like marks (literal_at v)
  like = rw (var_at v) (same ∙ is ∙ sym (ap code_of literal))

  opened : 0 < var (literal_at v)
  opened = like_open m (literal_at v) like

  read : Memᴰ (literal_at v) (standing (state_in st') (clause_of ix h))
  read = rw literal (mem_standing (state_in st') (clause_of ix h) l member (λ e. omega (arith, opened, ap var (literal ∙ e))))

  pub passing_falling : Falling ix st' v
  passing_falling = let k = code_root ix st' index classes h inside v read in record {
    opened = omega (arith, opened, var_at v);
    below = k.1;
    root = k.0;
    asked = pass_asks b o (literal_at v) opened (like_stands m (literal_at v) like) read;
  }

  pub passing_goes : Passing (formula_of ix) (state_in st) (assign (literal_at v) FALSE (state_in st')) (clause_of ix g) (clause_of ix h) y
  passing_goes = pass_goes b o (literal_at v) opened (like_stands m (literal_at v) like) read

-- before anything fell, a marked literal is ahead where what is read is not marked: so at least one falls
pub marked_ahead : (s : State) (l : Literal) (c : Clause) (marks : List ℕ) (x : Literal) → Like marks x → (¬ Like marks (value s l)) → Memᴰ x (standing s (l ∷ c)) →
    Memᴰ x (standing s c)
marked_ahead s l c marks x like unlike m = ⊎_elim (λ (e : x ≡ value s l). absurd (unlike (rw e at like))) (λ i. i) (standing_cases s l c x m)
